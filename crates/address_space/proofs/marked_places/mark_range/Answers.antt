use Rattle.std.proofs.Common.{◌+◌, arith}
use Rattle.address_space.specs.Marks.{IsRemainder}
use Rattle.address_space.specs.Ranges.{IsPlaceIn}
use Rattle.address_space.proofs.MarkedPlaces.{places_between}
use Rattle.address_space.proofs.MarkedWords.{marked_as}
use Rattle.address_space.proofs.marked_places.mark_range.Goals as goal

pub returns-then-low-high-clause-marked : goal.returns-then-low-high-clause-marked
returns-then-low-high-clause-marked c =
    let w = c.args.window in
    let low = c.max-low.result in
    let high = c.min-high.result in
    marked_as c.args.words.now c.mark_remainders.new.words (IsRemainder (low + c.args.shift) (high + c.args.shift) w.step)
    (IsPlaceIn w c.args.shift c.args.range) c.mark_remainders.ensures.marked
    (λ m. places_between w c.args.shift low high c.args.range m c.requires.small.full (omega (arith, c.max-low.ensures, c.from.ensures))
    (omega (arith, c.min-high.ensures, c.saturating_sub.ensures, c.from-2.ensures)))
