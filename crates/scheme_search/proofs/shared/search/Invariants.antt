use Rattle.std.proofs.Common.{◌≤◌, ◌-◌}
use Rattle.scheme_search.specs.declared.shared.Pick.{Pick}
use Rattle.scheme_search.specs.Shared.{IsPickIn}
use Rattle.scheme_search.proofs.shared.search.Given as goal

abbrev pub invariant-loop-x : goal.invariant-loop-x
invariant-loop-x l = record {
  above : l.from ≤ l.x;
  top : l.x ≤ l.to;
  below : (q : Pick) → IsPickIn l.space.taken l.first l.second l.from l.to q → l.x ≤ q.x;
}

abbrev pub decreases-loop-x : goal.decreases-loop-x
decreases-loop-x l = l.to - l.x
