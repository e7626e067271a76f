-- What holds at each of the starts where none is refused.
use Rattle.std.proofs.Common.{◌≡◌, ℕ, ◌<◌, Bool, true, false, cond, List, [], ◌∷◌, Option, Some, None, refl, arith}
use Rattle.std.specs.Prelude.{slice_get}
use Rattle.std.specs.List.Sorted.{IsStrictlyIncreasing}
use Rattle.elf_read.specs.Code.{is_exec}
use Rattle.start_entries.specs.declared.refusal.StartError.{StartError}
use Rattle.start_entries.specs.declared.refusal.StartError.TheVariants.{NotExecutable}
use Rattle.start_entries.specs.Refusals.{refusal_of, or_later, first_refusal}
use Rattle.start_entries.proofs.AscendingEntries.{first_below}

-- where the first of two refusals is none, neither is there
both_none : (x y : Option StartError) → or_later x y ≡ None → (x ≡ None) × (y ≡ None)
both_none None y h = (refl, h)
both_none (Some e) y h = absurd cc

-- a start that isn't refused by its byte can be executed
exec_by : (b : Bool) (e : StartError) → cond b None (Some e) ≡ None → b ≡ true
exec_by true e h = refl
exec_by false e h = absurd cc

-- A start that isn't refused: it can be executed, and none after it is refused either.
pub record IsJudged (file : List ℕ) (a : ℕ) (after : List ℕ) : Type 0 where
  pub exec : is_exec file a ≡ true
  pub later : first_refusal file after ≡ None

-- Where none of some starts is refused, the first isn't, nor are those after it.
pub is_judged : (file : List ℕ) (a : ℕ) (after : List ℕ) → first_refusal file (a ∷ after) ≡ None → IsJudged file a after
unfolding refusal_of
is_judged file a after h =
    let b = both_none (refusal_of file a) (first_refusal file after) h in
    record { exec = exec_by (is_exec file a) (NotExecutable a) b.0; later = b.1 }

-- the next start is above
pub next_above : (a : ℕ) (after : List ℕ) (n : ℕ) → IsStrictlyIncreasing (a ∷ after) → slice_get after 0 ≡ Some n → a < n
next_above a [] n s h = absurd cc
next_above a (b ∷ after) n s h = let e : b ≡ n = cc in let f = (first_below a (b ∷ after) s).0 in omega arith
