use Rattle.std.proofs.Common.{◌≡◌, ℕ, ◌≤◌, ◌&&◌, ◌||◌, nat_le, nat_lt, max}
use Rattle.page_group.specs.Occupancy.{has}
use Rattle.page_group.proofs.offsets.Offsets.insert_range.Given as goal

abbrev pub invariant-loop-offset : goal.invariant-loop-offset
invariant-loop-offset l = record {
  bound : l.offset ≤ max l.lo l.hi;
  added : (k : ℕ) → has l.self k ≡ ((nat_le l.lo k && nat_lt k l.offset) || has l.initial.self k);
}
