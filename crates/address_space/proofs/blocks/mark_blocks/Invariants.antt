use Rattle.std.proofs.Common.{take}
use Rattle.address_space.specs.Marks.{MarksMore}
use Rattle.address_space.specs.Ranges.{IsPlaceAmong}
use Rattle.address_space.specs.Blocks.{flat, begin}
use Rattle.address_space.proofs.blocks.mark_blocks.Given as goal

abbrev pub invariant-loop-block : goal.invariant-loop-block
invariant-loop-block l = MarksMore l.fn.words (IsPlaceAmong l.window l.shift (flat (take l.block-index l.blocks)) (begin l.blocks l.block-index)) l.words
