-- After the turns of all sites no two trampolines with an event have one number.
use Rattle.std.proofs.Common.{◌≡◌, inl, inr, ℕ, zero, suc, ◌<◌, true, List, [], ◌∷◌, ◌++◌, map, length, Some, sym, ap, subst, arith}
use Rattle.std.specs.Prelude.{slice_get}
use Rattle.std.specs.List.{flat_map, AllByRecursion}
use Rattle.std.proofs.lemmas.Bool.{cases_order, false≢true}
use Rattle.pun_base.specs.declared.scheme.Scheme.{Scheme}
use Rattle.pun_base.specs.declared.tramp.Tramp.{Tramp}
use Rattle.elf_emit.proofs.StayingSegments.{all_map}
use Rattle.patch_report.proofs.ListPlaces.{some_is, all_in}
use Rattle.start_entries.specs.declared.entry.StartEntry.{StartEntry}
use Rattle.start_list.specs.Forms.{Candidate, B1, B2, T1, T2, T3, for_site, for_victim, trampolines_of}
use Rattle.start_list.specs.Plans.{tramp_of}
use Rattle.sound_images.specs.Reports.{Line, row_lines}
use Rattle.site_turns.specs.States.{Scene, State, first_state, view_at}
use Rattle.site_turns.specs.Choices.{Choice, Apply, Left, after, IsTurns}
use Rattle.site_turns.specs.Laws.{rows_of, EventsAreNumbered, TurnsNumber}
use Rattle.site_turns.proofs.OneTurn.{first_told}
use Rattle.site_turns.proofs.PlannedEvents.{numbers_below}
use Rattle.site_turns.proofs.TurnFold.{turns_tell}

-- of two trampolines with an event the later has the lower number
abbrev Lowers : Line → Line → Type 0
Lowers l m = l.tramp.event ≡ true → m.tramp.event ≡ true → m.number < l.number

-- of any two trampolines with an event the later has the lower number
abbrev Falls : List Line → Type 0
Falls [] = Unit {0}
Falls (l ∷ ls) = AllByRecursion (Lowers l) ls × Falls ls

-- the trampoline of a site, before those of lower numbers
module _ (n : ℕ) (rest : List Line) (below : AllByRecursion (λ (m : Line). m.number < n) rest) (falls : Falls rest) where
  abbrev line : Tramp → Line
  line u = record { number = n; tramp = u }

  -- one with the number is above all the rest
  above : (t : Tramp) → AllByRecursion (Lowers (line t)) rest
  above t = all_map (λ (m : Line). m.number < n) (Lowers (line t)) rest (λ m k e f. k) below

  -- a site's alone
  alone : (e : StartEntry) (t : ℕ) → Falls (line (tramp_of (for_site e t)) ∷ rest)
  alone e t = (above (tramp_of (for_site e t)), falls)

  -- a site's and then a victim's, which has no event
  both : (e f : StartEntry) (t u : ℕ) → Falls (line (tramp_of (for_site e t)) ∷ line (tramp_of (for_victim f u)) ∷ rest)
  both e f t u = (((λ _ k. absurd (false≢true k)), above (tramp_of (for_site e t))), (above (tramp_of (for_victim f u)), falls))

  -- those of a plan
  plan_falls : (site : StartEntry) (c : Candidate) → Falls (map line (map tramp_of (trampolines_of site c)) ++ rest)
  plan_falls site (B1 t) = alone site t
  plan_falls site (B2 t) = alone site t
  plan_falls site (T1 p t) = alone site t
  plan_falls site (T2 e p q pad x t u) = both site e t u
  plan_falls site (T3 e i x t u) = both site e t u

-- the numbers of the rows' trampolines with an event fall
falls_from : (g : Scene) (ss : List Scheme) (t : State) (es : List StartEntry) (xs : List Choice) → IsTurns g ss t es xs
    → Falls (flat_map row_lines (rows_of es xs))
falls_from g ss t [] xs h = tt
falls_from g ss t (e ∷ es) [] h = tt
falls_from g ss t (e ∷ es) (Apply c plan ∷ xs) h =
    subst (λ (ts : List Tramp). Falls (map (λ (u : Tramp). record { number = length es; tramp = u }) ts ++ flat_map row_lines (rows_of es xs)))
    (sym (first_told (view_at g t) e ss c plan h.0.1).tramps)
    (plan_falls (length es) (flat_map row_lines (rows_of es xs)) (numbers_below es xs)
    (falls_from g ss (after g t e (length es) (Apply c plan)) es xs h.1) e c)
falls_from g ss t (e ∷ es) (Left why ∷ xs) h = falls_from g ss (after g t e (length es) (Left why)) es xs h.1

-- where numbers fall, a later trampoline with an event has a lower one
later_lower : (ls : List Line) (i j : ℕ) (l m : Line) → Falls ls → i < j → slice_get ls i ≡ Some l → slice_get ls j ≡ Some m → Lowers l m
later_lower [] i j l m f k e h = absurd cc
later_lower (x ∷ ls) zero zero l m f k e h = absurd (omega (arith, k))
later_lower (x ∷ ls) zero (suc j) l m f k e h = subst (λ (z : Line). Lowers z m) (some_is x l e) (all_in (Lowers x) ls m f.0 (j, h))
later_lower (x ∷ ls) (suc i) zero l m f k e h = absurd (omega (arith, k))
later_lower (x ∷ ls) (suc i) (suc j) l m f k e h = later_lower ls i j l m f.1 (omega (arith, k)) e h

-- where numbers fall, no two trampolines with an event have one number
numbered : (ls : List Line) → Falls ls → EventsAreNumbered ls
numbered ls f i j l m n e h a b same = elim (cases_order i j) [
  | inl k ↦ n k
  | inr (inl k) ↦ (let q = later_lower ls i j l m f k e h a b in omega (arith, q, same))
  | inr (inr k) ↦ (let q = later_lower ls j i m l f k h e b a in omega (arith, q, same))
]

-- after the turns of all sites no two trampolines with an event have one number
pub turns_number : TurnsNumber
turns_number g ss sites choices h =
    subst EventsAreNumbered (sym (ap (flat_map row_lines) (turns_tell g ss sites choices h).0))
    (numbered (flat_map row_lines (rows_of sites choices)) (falls_from g ss (first_state g) sites choices h))
