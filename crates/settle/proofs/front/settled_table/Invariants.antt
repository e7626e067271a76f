use Rattle.std.proofs.Common.{◌≡◌, ◌++◌, drop, map}
use Rattle.settle.specs.Settled.{moved, settled_table}
use Rattle.settle.proofs.front.settled_table.Given as goal

abbrev pub invariant-loop-entry : goal.invariant-loop-entry
invariant-loop-entry l = l.table.items ++ map (moved l.len l.base) (drop l.entry-index l.entries) ≡ settled_table l.base l.entries
