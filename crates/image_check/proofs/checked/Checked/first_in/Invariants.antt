use Rattle.std.proofs.Common.{ℕ, ◌-◌, ◌≤◌, ◌<◌}
use Rattle.image_check.specs.Verdict.{case_in, FailsBy}
use Rattle.image_check.proofs.checked.Checked.first_in.Given as goal

abbrev pub invariant-loop-addr : goal.invariant-loop-addr
invariant-loop-addr l =
    (l.span.first ≤ l.addr) × ((y : ℕ) → l.span.first ≤ y → y < l.addr → FailsBy (case_in l.self) l.rule y → ⊥)

abbrev pub decreases-loop-addr : goal.decreases-loop-addr
decreases-loop-addr l = l.span.last - l.addr
