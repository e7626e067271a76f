use Rattle.std.proofs.Common.{List, sym, subst}
use Rattle.address_space.specs.declared.free_range.FreeRange.{FreeRange}
use Rattle.address_space.specs.Ranges.{Ascending, EndedFirst}
use Rattle.address_space.proofs.BlockLists.{block_ascends}
use Rattle.address_space.proofs.TakenBlocks.{in_block, stands_at}
use Rattle.address_space.proofs.blocks.block_place.Goals as goal

pub bounds-blocks-number : goal.bounds-blocks-number
bounds-blocks-number c =
    let range = c.args.range in
    in_block c.args.blocks.now c.blocks_ended-number.result range.lo range.hi c.requires.ascending range.nonempty c.requires.lies c.blocks_ended-number.ensures.parted

pub count_ended-place-requires : goal.count_ended-place-requires
count_ended-place-requires c =
    let range = c.args.range in
    let number = c.blocks_ended-number.result in
    let within = in_block c.args.blocks.now number range.lo range.hi c.requires.ascending range.nonempty c.requires.lies c.blocks_ended-number.ensures.parted in
    subst (Ascending 0x20000) (sym c.deref.ensures.value) (block_ascends c.args.blocks.now number c.index-blocks-number.result within c.requires.ascending)

pub returns : goal.returns
returns c =
    let range = c.args.range in
    let place = c.count_ended-place.result in
    stands_at c.args.blocks.now c.blocks_ended-number.result range.lo range.hi c.requires.ascending range.nonempty c.requires.lies c.blocks_ended-number.ensures.parted
    place c.index-blocks-number.result
    (subst (λ (rs : List FreeRange). EndedFirst rs range.lo place) c.deref.ensures.value c.count_ended-place.ensures.parted)
