use Rattle.std.proofs.Common.{◌≡◌, ◌++◌, drop}
use Rattle.elf_read.specs.Entries.{table}
use Rattle.elf_read.proofs.writing.push_table.Given as goal

abbrev pub invariant-loop-entry : goal.invariant-loop-entry
invariant-loop-entry l = l.out.items ++ table (drop l.entry-index l.entries) ≡ l.initial.out.items ++ table l.entries
