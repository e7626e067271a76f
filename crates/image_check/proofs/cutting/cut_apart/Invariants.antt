use Rattle.image_check.proofs.CutSpans.{AreCut}
use Rattle.image_check.proofs.cutting.cut_apart.Given as goal

abbrev pub invariant-loop-span : goal.invariant-loop-span
invariant-loop-span l = AreCut l.spans l.span-index l.next l.parts.items
