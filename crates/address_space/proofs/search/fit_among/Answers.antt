use Rattle.std.proofs.Common.{arith, subst}
use Rattle.std.proofs.lemmas.List.{get_or_default}
use Rattle.address_space.specs.declared.free_range.FreeRange.{FreeRange}
use Rattle.pun_base.specs.Least.{IsLeast}
use Rattle.address_space.specs.Ranges.{FitsIn}
use Rattle.address_space.specs.Blocks.{no_range}
use Rattle.address_space.proofs.RangePlaces.{apart}
use Rattle.address_space.proofs.LeastPlaces.{found_at, found_none}
use Rattle.address_space.proofs.BlockSearches.{none_behind, begun_behind}
use Rattle.address_space.proofs.search.fit_among.Goals as goal

pub returns-then-window-from : goal.returns-then-window-from
returns-then-window-from c =
    let at = c.loop-range.range-index in
    none_behind c.args.window c.args.ranges.now at
    (begun_behind c.args.ranges.now c.args.window.top at no_range c.requires.ascending c.loop-range-test.true (omega (arith, c.from.ensures, c.if-window-from.true))) c.loop-range.invariant

pub returns-in-Some : goal.returns-in-Some
returns-in-Some c = found_at c.args.window c.args.ranges.now c.loop-range.range-index c.in-Some.place (apart c.args.ranges.now 0x20000 c.requires.ascending) (omega arith) c.loop-range.invariant (λ d. subst (λ (r : FreeRange). IsLeast (FitsIn c.args.window r) c.in-Some.place) (get_or_default c.args.ranges.now c.loop-range.range-index _ d (omega arith)) c.in-Some.ensures)

pub returns : goal.returns
returns c = found_none c.args.window c.args.ranges.now (λ j d h s f. c.loop-range.invariant j d (omega arith) s f)
