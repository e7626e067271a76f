-- After each turn what each turn keeps holds, and each locked byte lies at that turn's site or above.
use Rattle.std.proofs.Common.{ℕ, ◌<◌, List, [], ◌∷◌, length, arith}
use Rattle.std.specs.List.{AllByRecursion}
use Rattle.std.proofs.lemmas.Bool.{false≢true}
use Rattle.pun_base.specs.declared.scheme.Scheme.{Scheme}
use Rattle.elf_emit.proofs.StayingSegments.{all_map}
use Rattle.start_entries.specs.declared.entry.StartEntry.{StartEntry}
use Rattle.start_entries.specs.Standing.{AreEntries}
use Rattle.start_list.specs.Forms.{jumps_of}
use Rattle.site_turns.specs.States.{Scene, State, first_state, view_at}
use Rattle.site_turns.specs.Choices.{Choice, Apply, Left, IsChoice, after, IsTurns}
use Rattle.site_turns.specs.Folded.{IsFolded}
use Rattle.site_turns.specs.Laws.{IsNext, SchemeLeads, AreSites}
use Rattle.site_turns.specs.EachTurn.{AfterEach, IsKeptAt, EachTurnKeeps}
use Rattle.site_turns.proofs.LockedBytes.{IsAbove, begin_at, above_plan}
use Rattle.site_turns.proofs.LeftSites.{left_keeps, holds_first}
use Rattle.site_turns.proofs.AdmissiblePlans.{plan_keeps}
use Rattle.site_turns.proofs.TurnFold.{AreBelow, first_of, still_below, none_yet}

module _ (g : Scene) (ss : List Scheme) (S : AllByRecursion SchemeLeads ss) (A : AreEntries g.image g.entries) where
  -- one turn does, where all locks lie at its site or above
  one_keeps : (t : State) (e : StartEntry) (n : ℕ) (x : Choice) → IsNext g t e → IsChoice (view_at g t) ss e x → IsFolded g t
      → IsAbove e.addr t → IsKeptAt g e (after g t e n x)
  one_keeps t e n (Apply c plan) k h f a =
      let q = first_of (view_at g t) e ss c plan S h.1 in
      record {
        folded = plan_keeps g t e n c plan A f k q.0 q.1 q.2;
        above = above_plan e.addr t.lock (jumps_of e c) (begin_at (view_at g t) e c q.1.allowed.form) a;
      }
  one_keeps t e n (Left why) k h f a = record { folded = left_keeps g t e n why f k; above = a }

  -- each of several turns keeps the invariant, with locks at its site or above, since later sites are lower
  each_keeps : (t : State) (es : List StartEntry) (xs : List Choice) → AreSites g es → AreBelow t es
      → AllByRecursion (λ (e : StartEntry). IsAbove e.addr t) es → IsTurns g ss t es xs → IsFolded g t → AfterEach (IsKeptAt g) g t es xs
  each_keeps t [] xs s b a h f = tt
  each_keeps t (e ∷ es) [] s b a h f = tt
  each_keeps t (e ∷ es) (x ∷ xs) s b a h f =
      let new : State = after g t e (length es) x in
      let k : IsKeptAt g e new = one_keeps t e (length es) x (record { entry = s.0; below = b.0 }) h.0 f a.0 in
      let later = all_map (λ (l : StartEntry). l.addr < e.addr) (λ (l : StartEntry). IsAbove l.addr new) es
      (λ l m x i. let q = k.above x i in omega (arith, m, q)) s.1 in
      (k, each_keeps new es xs s.2 (still_below g t e (length es) x es b.1 s.1) later h.1 k.folded)

-- before the first turn nothing is locked
none_locked : (g : Scene) (es : List StartEntry) → AllByRecursion (λ (e : StartEntry). IsAbove e.addr (first_state g)) es
none_locked g [] = tt
none_locked g (e ∷ es) = (λ x k. absurd (false≢true k), none_locked g es)

-- after each turn what each turn keeps holds, and each locked byte lies at that turn's site or above
pub each_turn_keeps : EachTurnKeeps
each_turn_keeps g ss es xs S A s h = each_keeps g ss S A (first_state g) es xs s (none_yet g es) (none_locked g es) h (holds_first g)
