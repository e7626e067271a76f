use Rattle.std.proofs.Common.{◌+◌, ◌-◌, List, length, vec_len, arith, sym, subst}
use Rattle.address_space.specs.declared.block.Block.{Block}
use Rattle.address_space.specs.Ranges.{LiesAmong, IsTaken}
use Rattle.address_space.specs.Blocks.{flat, begin, no_range}
use Rattle.address_space.proofs.SplitRanges.{left_ascends, taken_out}
use Rattle.address_space.proofs.TakenBlocks.{lies_in}
use Rattle.address_space.proofs.space.Space.take.Goals as goal

pub block_place-number-requires-clause-lies : goal.block_place-number-requires-clause-lies
block_place-number-requires-clause-lies c =
    let lo = c.args.range.lo in
    let n = c.args.range.hi - lo in
    let blocks = c.self.inside.blocks.items in
    let lies = lies_in (flat blocks) c.args.self.now (vec_len c.self.inside.blank) lo n c.self.view_is c.self.invariant.0 (omega (arith, c.args.range.nonempty)) c.requires.free in
    subst (λ (bs : List Block). LiesAmong (flat bs) lo n) (sym c.deref.ensures.value) lies

pub invariant_of-self : goal.invariant_of-self
invariant_of-self c =
    let range = c.args.range in
    let place = c.block_place-number.result in
    let taken = subst (λ (bs : List Block). IsTaken (flat bs) (begin bs place.0 + place.1) range.lo range.hi) c.deref.ensures.value c.block_place-number.ensures.taken in
    let blocks = c.self.inside.blocks.items in (
      rw (c.take_out.ensures.items no_range) (left_ascends (flat blocks) (begin blocks place.0 + place.1) range.lo range.hi no_range c.self.invariant.0 taken),
      omega (arith, c.take_out.ensures.room, c.take_out.ensures.capacity, c.self.invariant.1),
    )

pub returns-clause-free : goal.returns-clause-free
returns-clause-free c =
    let range = c.args.range in
    let place = c.block_place-number.result in
    let taken = subst (λ (bs : List Block). IsTaken (flat bs) (begin bs place.0 + place.1) range.lo range.hi) c.deref.ensures.value c.block_place-number.ensures.taken in
    let blocks = c.self.inside.blocks.items in
    taken_out (flat blocks) (flat c.take_out.new.blocks.items) c.args.self.now (vec_len c.self.inside.blank) (begin blocks place.0 + place.1) range.lo range.hi no_range
    c.self.view_is c.self.invariant.0 taken (c.take_out.ensures.items no_range)
