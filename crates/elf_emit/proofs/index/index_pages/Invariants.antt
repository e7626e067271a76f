use Rattle.elf_emit.specs.Index.{shows, FindsBefore}
use Rattle.elf_emit.proofs.index.index_pages.Given as goal

abbrev pub invariant-loop-place : goal.invariant-loop-place
invariant-loop-place l = FindsBefore shows l.pages l.place l.pairs.items
