use Rattle.std.proofs.Common.{ℕ, ◌-◌, ◌<◌, ◌≤◌}
use Rattle.address_space.specs.Marks.{IsMarked}
use Rattle.address_space.proofs.marks.next_marked.Given as goal

abbrev pub invariant-loop-at : goal.invariant-loop-at
invariant-loop-at l = record {
  above : l.from ≤ l.at;
  none : (n : ℕ) → l.from ≤ n → n < l.at → n < l.to → IsMarked l.words n → ⊥;
}

abbrev pub decreases-loop-at : goal.decreases-loop-at
decreases-loop-at l = l.to - l.at
