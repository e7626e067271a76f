use Rattle.std.proofs.Common.{ℕ, ◌<◌, ◌≤◌}
use Rattle.scheme_search.specs.Shared.{FitsWay}
use Rattle.scheme_search.proofs.shared.next_tried.Given as goal

abbrev pub invariant-loop-y : goal.invariant-loop-y
invariant-loop-y l = (z t : ℕ) → l.x ≤ z → z < l.y → FitsWay l.space.taken l.way z t → ⊥
