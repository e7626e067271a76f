-- What runs keep, and runs one after the other.
use Rattle.std.proofs.Common.{◌≡◌, ℕ, ◌≤◌, Bool, List, [], ◌∷◌, ◌++◌, refl, ◌∙◌, arith}
use Rattle.pun_base.specs.Memory.{Bytes}
use Rattle.insn_form.specs.Machine.{Machine, view}
use Rattle.insn_form.specs.Step.{Step}
use Rattle.insn_form.specs.Runs.{nowhere, IsRun, last_of}
use Rattle.insn_form.specs.Laws.{SameView}
use Rattle.insn_form.specs.Touched.{perms_at}
use Rattle.relocate_insn.specs.Running.{IsPrivate, Inside}
use Rattle.relocate_insn.proofs.PrivateRange.{step_perms}
pub use Rattle.event_steps.proofs.EventRuns.{inside_more}

-- a run changes no permission
pub run_perms : (s : Machine) (ts : List Machine) → IsRun Step s ts → (x : ℕ) → perms_at (last_of s ts).mem x ≡ perms_at s.mem x
run_perms s [] r x = refl
run_perms s (t ∷ ts) r x = run_perms t ts r.1 x ∙ step_perms nowhere s t r.0 x

-- the front of a private range is one
pub private_part : (set : ℕ → Bool) (lo n k : ℕ) (m : Bytes) → k ≤ n → IsPrivate set lo n m → IsPrivate set lo k m
private_part set lo n k m l h = record {
  inside = λ x a b. h.inside x a (omega arith);
  read = λ x a b. h.read x a (omega arith);
  written = λ x a b. h.written x a (omega arith);
  low = omega (arith, h.low);
}

-- a run and one from its last state are a run
pub run_append : (u : Machine) (xs ys : List Machine) → IsRun Step u xs → IsRun Step (last_of u xs) ys → IsRun Step u (xs ++ ys)
run_append u [] ys p q = q
run_append u (x ∷ xs) ys p q = (p.0, run_append x xs ys p.1 q)

-- a run with one state behind it ends in that state
pub last_append : (u v : Machine) (xs : List Machine) → last_of u (xs ++ v ∷ []) ≡ v
last_append u v [] = refl
last_append u v (x ∷ xs) = last_append x v xs

-- what lies within an extent one behind the other lies within it together
pub inside_append : (lo hi : ℕ) (xs ys : List Machine) → Inside lo hi xs → Inside lo hi ys → Inside lo hi (xs ++ ys)
inside_append lo hi [] ys p q = q
inside_append lo hi (x ∷ xs) ys p q = (p.0, p.1, inside_append lo hi xs ys p.2 q)

-- states that look alike and stand at one address are one view
pub join_rip : (set : ℕ → Bool) (t v : Machine) → SameView set v t → v.rip ≡ t.rip → view set v ≡ view set t
join_rip set t v e r = λ i. record { core = (e i).core; rip = r i; mem = (e i).mem; world = (e i).world }
