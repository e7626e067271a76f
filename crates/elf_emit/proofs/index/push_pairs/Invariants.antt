use Rattle.elf_emit.proofs.IndexPairs.{AddsBelow}
use Rattle.elf_emit.proofs.index.push_pairs.Given as goal

abbrev pub invariant-loop-key : goal.invariant-loop-key
invariant-loop-key l = AddsBelow l.fn.first l.key l.place l.initial.pairs.items l.pairs.items
