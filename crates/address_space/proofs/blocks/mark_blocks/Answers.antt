use Rattle.std.proofs.Common.{length, List, subst, arith}
use Rattle.std.proofs.lemmas.List.{take_all}
use Rattle.address_space.specs.declared.free_range.FreeRange.{FreeRange}
use Rattle.address_space.specs.declared.block.Block.{Block}
use Rattle.address_space.specs.Marks.{MarksMore}
use Rattle.address_space.specs.Ranges.{IsPlaceAmong}
use Rattle.address_space.specs.Blocks.{flat}
use Rattle.address_space.proofs.MarkedBlocks.{one_block_more}
use Rattle.address_space.proofs.blocks.mark_blocks.Goals as goal

pub loop-block-preserved : goal.loop-block-preserved
loop-block-preserved c =
    let blocks = c.args.blocks.now in
    let block = c.block-item.result in
    let Marks : List FreeRange → Type 0 = λ rs. MarksMore c.loop-block.words (IsPlaceAmong c.args.window c.args.shift rs (length rs)) c.mark_ranges.new.words in
    let here = subst Marks c.deref.ensures.value c.mark_ranges.ensures in
    one_block_more c.args.window c.args.shift c.loop-block.block-index blocks block c.args.words.now c.loop-block.words c.mark_ranges.new.words (omega arith) c.loop-block.invariant
    (subst (λ (b : Block). Marks b.ranges.items) c.block-item.is here)

pub returns : goal.returns
returns c =
    let P : List Block → Type 0 = λ bs. MarksMore c.args.words.now (IsPlaceAmong c.args.window c.args.shift (flat bs) (length (flat bs))) c.loop-block.words in
    subst P (take_all c.loop-block.block-index c.args.blocks.now (omega arith)) c.loop-block.invariant
