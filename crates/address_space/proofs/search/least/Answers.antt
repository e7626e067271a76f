use Rattle.std.proofs.Common.{◌≡◌, ◌+◌, ◌-◌, ◌<◌, ◌≤◌, List, None, length, get_or, take, drop, arith, ap, sym, subst}
use Rattle.pun_base.specs.Least.{IsLeast, Least}
use Rattle.address_space.specs.declared.free_range.FreeRange.{FreeRange}
use Rattle.address_space.specs.declared.block.Block.{Block}
use Rattle.address_space.specs.Ranges.{Ascending, PlacesFrom, FitsAmong, EndedFirst}
use Rattle.address_space.specs.Blocks.{flat, begin, no_range}
use Rattle.address_space.proofs.LeastPlaces.{NoneBelow, none_late}
use Rattle.address_space.proofs.BlockLists.{begin_most, begin_rises, some_block, block_ascends}
use Rattle.address_space.proofs.BlockSearches.{all_above, none_under, short_up_to, none_behind, rest_ascends, found_here, none_here, leaps, none_in_more}
use Rattle.address_space.proofs.search.least.Goals.{After-as_slice-ranges, After-count_ended}
use Rattle.address_space.proofs.search.least.Goals as goal

pub returns-then-window : goal.returns-then-window
returns-then-window c = none_late c.args.window (flat c.args.blocks.now) (omega arith)

pub loop-next-init : goal.loop-next-init
loop-next-init c =
    let rs = flat c.args.blocks.now in
    let above = all_above c.args.window rs in
    record {
      none = none_under c.args.window rs (begin c.args.blocks.now c.blocks_ended-next.result) c.args.window.from c.requires.small.full
          (begin_most c.args.blocks.now c.blocks_ended-next.result) above c.blocks_ended-next.ensures.parted.first;
      above = above;
    }

pub returns-then-number-end : goal.returns-then-number-end
returns-then-number-end c =
    let blocks = c.args.blocks.now in
    let number = c.long_block-number.result in
    let none = short_up_to c.args.window blocks c.loop-next.next number (some_block blocks (omega (arith, c.blocks_begun-end.ensures.bound))) c.long_block-number.ensures.bound.0
    (omega (arith, c.long_block-number.ensures.bound.1, c.blocks_begun-end.ensures.bound)) c.loop-next.invariant.none c.long_block-number.ensures.short in
    let last : number ≡ c.blocks_begun-end.result = omega arith in
    let same = ap (begin blocks) last in
    none_behind c.args.window (flat blocks) (begin blocks number) (λ k d from below. c.blocks_begun-end.ensures.parted k d (omega (arith, from, same)) below) none

-- The long block is one of the blocks.
within : (c : After-as_slice-ranges) → c.long_block-number.result < length c.args.blocks.now
within c = omega (arith, c.long_block-number.ensures.bound.1, c.blocks_begun-end.ensures.bound, c.if-number-end.false)

-- Its ranges ascend.
rising : (c : After-as_slice-ranges) → Ascending 0x20000 c.as_slice-ranges.result.now
rising c =
    subst (Ascending 0x20000) (sym c.as_slice-ranges.ensures.value)
    (block_ascends c.args.blocks.now c.long_block-number.result c.index-blocks-number.result (within c) c.requires.ascending)

pub count_ended-requires : goal.count_ended-requires
count_ended-requires c = rising (goal.at.count_ended-requires c).After-as_slice-ranges

pub fit_among-requires-clause-ascending : goal.fit_among-requires-clause-ascending
fit_among-requires-clause-ascending c =
    rest_ascends c.as_slice-ranges.result.now c.count_ended.result (rising (goal.at.fit_among-requires-clause-ascending c).After-as_slice-ranges)

-- The block, as it stands in all of them.
abbrev here : (c : After-count_ended) → Block
here c = get_or c.args.blocks.now c.long_block-number.result c.index-blocks-number.result

-- None fits in the blocks before it.
none : (c : After-count_ended) → NoneBelow c.args.window (flat c.args.blocks.now) (begin c.args.blocks.now c.long_block-number.result)
none c =
    short_up_to c.args.window c.args.blocks.now c.loop-next.next c.long_block-number.result c.index-blocks-number.result c.long_block-number.ensures.bound.0
    (omega (arith, c.long_block-number.ensures.bound.1, c.blocks_begun-end.ensures.bound)) c.loop-next.invariant.none c.long_block-number.ensures.short

-- Some of its first ranges end at or below the address that no place is below.
ended : (c : After-count_ended) → (c.count_ended.result ≤ length (here c).ranges.items) × EndedFirst (here c).ranges.items c.loop-next.low c.count_ended.result
ended c =
    let value = c.as_slice-ranges.ensures.value in (
      omega (arith, c.count_ended.ensures.bound, ap length value),
      subst (λ (rs : List FreeRange). EndedFirst rs c.loop-next.low c.count_ended.result) value c.count_ended.ensures.parted,
    )

pub returns-in-Some : goal.returns-in-Some
returns-in-Some c =
    let s = (goal.at.returns-in-Some c).After-count_ended in
    found_here c.args.window c.args.blocks.now c.long_block-number.result c.count_ended.result c.loop-next.low c.index-blocks-number.result
    (within (goal.at.returns-in-Some c).After-as_slice-ranges) c.requires.small.full c.requires.ascending (ended s).0 (ended s).1 c.loop-next.invariant.above (none s) c.in-Some.place
    (subst (λ (rs : List FreeRange). IsLeast (FitsAmong c.args.window (take (length rs - c.count_ended.result) (drop c.count_ended.result rs))) c.in-Some.place) c.as_slice-ranges.ensures.value c.in-Some.ensures)

pub loop-next-preserved : goal.loop-next-preserved
loop-next-preserved c =
    let s = (goal.at.loop-next-preserved c).After-count_ended in
    let inside = within (goal.at.loop-next-preserved c).After-as_slice-ranges in
    let w = c.args.window in
    let blocks = c.args.blocks.now in
    let number = c.long_block-number.result in
    let first = c.count_ended.result in
    let block = c.index-blocks-number.result in
    let value = c.as_slice-ranges.ensures.value in
    let passed = none_here w blocks number first c.loop-next.low block inside c.requires.small.full c.requires.ascending (ended s).0 (ended s).1 c.loop-next.invariant.above (none s)
    (subst (λ (rs : List FreeRange). Least (FitsAmong w (take (length rs - first) (drop first rs))) None) value c.in_default.ensures) in
    let low = c.next_place-low.result in
    let above = leaps w blocks number first c.loop-next.low block inside c.requires.small.full c.requires.ascending (ended s).0 (ended s).1 c.loop-next.invariant.above (none s) low no_range passed
    (subst (λ (rs : List FreeRange). IsLeast (PlacesFrom w (get_or rs (length rs - 1) no_range).lo) low) value c.next_place-low.ensures.value) in
    let under = none_under w (flat blocks) (begin blocks c.blocks_ended.result) low c.requires.small.full (begin_most blocks c.blocks_ended.result) above c.blocks_ended.ensures.parted.first in
    record {
      none = rw c.max-next.ensures (none_in_more w blocks c.blocks_ended.result (number + 1) under passed);
      above = above;
    }

pub returns : goal.returns
returns c =
    let blocks = c.args.blocks.now in
    let rises = begin_rises blocks c.blocks_begun-end.result c.loop-next.next (omega arith) in
    none_behind c.args.window (flat blocks) (begin blocks c.loop-next.next) (λ k d from below. c.blocks_begun-end.ensures.parted k d (omega (arith, from, rises)) below) c.loop-next.invariant.none
