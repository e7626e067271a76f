use Rattle.std.proofs.Common.{◌≡◌, ◌+◌, List, length, take, sym, ap, subst, ◌∙◌}
use Rattle.std.proofs.lemmas.List.{with_items_is}
use Rattle.page_group.specs.declared.offsets.Offsets.{Offsets}
use Rattle.page_group.specs.Pages.{ends_of}
use Rattle.page_group.specs.Occupancy.{AreOccupied}
use Rattle.page_group.proofs.OccupiedOffsets.{occupied_none, occupied_next, occupied_all, whole_pages}
use Rattle.page_group.proofs.occupancy.occupied_offsets.Goals as goal

pub loop-piece-init : goal.loop-piece-init
loop-piece-init c = occupied_none c.args.pages.now c.in_ok-sets.sets.items c.in_ok-sets.ensures.size c.in_ok-sets.ensures.empty

pub loop-piece-preserved : goal.loop-piece-preserved
loop-piece-preserved c =
    let pages = c.args.pages.now in
    let was = c.deref_mut.result.now in
    let front = ends_of (take c.loop-piece.piece-index c.args.pieces.now) in
    let before : AreOccupied front pages was =
    subst (λ (z : List Offsets). AreOccupied front pages z) (sym c.deref_mut.ensures.value) c.loop-piece.invariant in
    let next = occupied_next c.args.pieces.now c.loop-piece.piece-index c.piece-item.result pages was c.add_piece.new.sets
    c.loop-piece-test.true
    c.piece-item.is c.add_piece.auto.sets before c.add_piece.ensures in
    let size : length c.add_piece.new.sets ≡ c.loop-piece.sets.len =
    c.add_piece.auto.sets ∙ ap length c.deref_mut.ensures.value ∙ sym c.loop-piece.sets.ok.0 in
    let after = ends_of (take (c.loop-piece.piece-index + 1) c.args.pieces.now) in
    subst (λ (z : List Offsets). AreOccupied after pages z) (sym (with_items_is c.loop-piece.sets c.add_piece.new.sets size)) next

pub returns : goal.returns
returns c =
    occupied_all c.args.pieces.now c.loop-piece.piece-index c.args.pages.now c.loop-piece.sets.items c.loop-piece-test.false
    c.loop-piece.invariant

pub add_piece-requires-clause-whole : goal.add_piece-requires-clause-whole
add_piece-requires-clause-whole c = whole_pages (ends_of c.args.pieces.now) c.args.pages.now c.requires
