use Rattle.std.proofs.Common.{ℕ, subst, inl, inr, arith}
use Rattle.std.proofs.lemmas.Bool.{cases_lt}
use Rattle.scheme_search.specs.Shared.{FitsWay}
use Rattle.scheme_search.proofs.shared.next_tried.Goals as goal

pub loop-y-preserved : goal.loop-y-preserved
loop-y-preserved c = λ z t low high f. elim (cases_lt z c.loop-y.y) [
  | inl lt ↦ c.loop-y.invariant z t low lt f
  | inr ge ↦ c.is_served.ensures.no c.if-is_served.false t (subst (λ (k : ℕ). FitsWay c.args.space.now.taken c.args.way k t) (omega (arith, ge, high)) f)
]

pub returns-then-is_served : goal.returns-then-is_served
returns-then-is_served c = record {
  least = omega arith;
  most = omega arith;
  none = c.loop-y.invariant;
  found = λ below. c.is_served.ensures.yes c.if-is_served.true;
}

pub returns : goal.returns
returns c = record { least = c.requires.ordered; most = omega arith; none = λ z t low high f. c.loop-y.invariant z t low (omega (arith, high)) f; found = λ below. absurd (omega (arith, below)) }
