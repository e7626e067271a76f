use Rattle.std.proofs.Common.{ℕ, ◌≤◌, ◌<◌, ◌-◌}
use Rattle.address_space.specs.Marks.{IsMarked}
use Rattle.scheme_search.specs.Shared.{FitsWay}
use Rattle.scheme_search.proofs.marked.next_agreed.Given as goal

abbrev pub invariant-loop-low : goal.invariant-loop-low
invariant-loop-low l = record {
  above : l.x ≤ l.low;
  ordered : l.low ≤ l.next;
  top : l.next ≤ l.to;
  none : (y t : ℕ) → l.x ≤ y → y < l.next → FitsWay l.space.taken l.way y t → IsMarked l.words y → ⊥;
}

abbrev pub decreases-loop-low : goal.decreases-loop-low
decreases-loop-low l = l.to - l.low
