-- What holds after each turn, whatever choices the rules give. Theorems cite it.
use Rattle.std.specs.Prelude.{◌≡◌, ℕ, ◌≤◌, true, List, [], ◌∷◌, length}
use Rattle.std.specs.List.{AllByRecursion}
use Rattle.pun_base.specs.declared.scheme.Scheme.{Scheme}
use Rattle.start_entries.specs.declared.entry.StartEntry.{StartEntry}
use Rattle.start_entries.specs.Standing.{AreEntries}
use Rattle.site_turns.specs.States.{Scene, State, first_state}
use Rattle.site_turns.specs.Choices.{Choice, after, IsTurns}
use Rattle.site_turns.specs.Folded.{is_locked, IsFolded}
use Rattle.site_turns.specs.Laws.{SchemeLeads, AreSites}

-- P holds of the site of each turn and the state after that turn.
abbrev pub AfterEach : (StartEntry → State → Type 0) → Scene → State → List StartEntry
    → List Choice → Type 0
AfterEach P g t [] xs = Unit {0}
AfterEach P g t (e ∷ es) [] = Unit {0}
AfterEach P g t (e ∷ es) (x ∷ xs) =
    P e (after g t e (length es) x) × AfterEach P g (after g t e (length es) x) es xs

-- The invariant of the turns holds, and each locked byte lies at the turn's site or above.
pub record IsKeptAt (g : Scene) (site : StartEntry) (t : State) : Type 0 where
  pub folded : IsFolded g t
  pub above : (x : ℕ) → is_locked (t.lock x) ≡ true → site.addr ≤ x

-- After each turn the invariant holds and no byte below the turn's site is locked, whatever choices
-- the rules give, by schemes whose plans lead.
abbrev pub EachTurnKeeps : Type 0
EachTurnKeeps =
    (g : Scene) (ss : List Scheme) (sites : List StartEntry) (choices : List Choice)
    → AllByRecursion SchemeLeads ss
    → AreEntries g.image g.entries → AreSites g sites → IsTurns g ss (first_state g) sites choices
    → AfterEach (IsKeptAt g) g (first_state g) sites choices
