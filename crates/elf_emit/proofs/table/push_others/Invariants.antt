use Rattle.std.proofs.Common.{◌≡◌, ◌++◌, drop, map}
use Rattle.elf_read.specs.Entries.{table}
use Rattle.elf_emit.specs.Layout.{with_table}
use Rattle.elf_emit.proofs.table.push_others.Given as goal

abbrev pub invariant-loop-entry : goal.invariant-loop-entry
invariant-loop-entry l =
    l.out.items ++ table (map (with_table l.at l.size) (drop l.entry-index l.others)) ≡ l.initial.out.items ++ table (map (with_table l.at l.size) l.others)
