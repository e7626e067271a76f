use Rattle.std.proofs.Common.{◌≡◌, ℕ, ◌+◌, ◌-◌, subst, arith}
use Rattle.image_runs.specs.Listed.{BeginBelow}
use Rattle.image_step.proofs.quieting.begin_below.Goals as goal

pub returns-then-count-eq0 : goal.returns-then-count-eq0
returns-then-count-eq0 c = λ t k d u v. absurd (omega (arith, c.if-count-eq0.true))

pub returns : goal.returns
returns c = λ t.
    let n = c.args.count in
    let e : n - 1 + 1 ≡ n = omega (arith, c.if-count-eq0.false) in
    subst (λ (k : ℕ). BeginBelow c.args.entries.now k c.args.addr) e (c.is_below.ensures t)
