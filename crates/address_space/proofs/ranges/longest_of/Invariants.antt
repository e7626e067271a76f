use Rattle.std.proofs.Common.{◌≡◌, max, drop}
use Rattle.address_space.specs.Longest.{greatest}
use Rattle.address_space.proofs.ranges.longest_of.Given as goal

abbrev pub invariant-loop-range : goal.invariant-loop-range
invariant-loop-range l = max l.longest (greatest (drop l.range-index l.ranges)) ≡ greatest l.ranges
