use Rattle.elf_emit.specs.Index.{meets_page, FindsBefore}
use Rattle.elf_emit.specs.Views.{pieces_of}
use Rattle.elf_emit.proofs.index.index_code.Given as goal

abbrev pub invariant-loop-place : goal.invariant-loop-place
invariant-loop-place l = FindsBefore meets_page (pieces_of l.built) l.place l.pairs.items
