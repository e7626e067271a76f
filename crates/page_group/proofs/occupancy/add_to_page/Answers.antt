use Rattle.std.proofs.Common.{◌&&◌, ◌||◌, Bool, nat_le, nat_lt, ap, ◌∙◌}
use Rattle.page_group.specs.Occupancy.{has}
use Rattle.page_group.proofs.OccupiedOffsets.{page_range}
use Rattle.page_group.proofs.occupancy.add_to_page.Goals as goal

pub returns : goal.returns
returns c = λ k.
    let lo = c.saturating_sub-lo.ensures in
    let hi = c.min-hi.ensures in
    let piece = c.args.piece in
    c.insert_range.ensures k
    ∙ (λ i. (nat_le (lo i) k && nat_lt k (hi i)) || has c.args.set.now k)
    ∙ ap (λ (b : Bool). b || has c.args.set.now k) (page_range piece.lo piece.hi c.args.page k c.requires.whole c.requires.below)
