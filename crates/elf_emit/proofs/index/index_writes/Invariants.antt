use Rattle.elf_emit.specs.Index.{meets_page, FindsBefore}
use Rattle.elf_emit.specs.Views.{patches_of}
use Rattle.elf_emit.proofs.index.index_writes.Given as goal

abbrev pub invariant-loop-place : goal.invariant-loop-place
invariant-loop-place l = FindsBefore meets_page (patches_of l.writes) l.place l.pairs.items
