use Rattle.std.proofs.Common.{◌≡◌, ℕ, ◌+◌, ◌-◌, ◌/◌, arith, subst}
use Rattle.page_group.proofs.PageLists.{AddsAmong, adds_more, below_more, adds_piece}
use Rattle.page_group.proofs.found_pages.push_pages.Goals as goal

pub loop-number-preserved : goal.loop-number-preserved
loop-number-preserved c =
    let number = c.loop-number.number in
    let old = c.args.found.now.items in
    let new = c.loop-number.found.items in
    rw c.in_ok-push.ensures.items (
      adds_more (c.args.piece.lo / 4096) number old new c.loop-number.auto.number c.loop-number.invariant.0,
      λ h. below_more 4294967296 number new (c.loop-number.invariant.1 h) (omega arith),
    )

pub returns-clause-adds : goal.returns-clause-adds
returns-clause-adds c =
    let piece = c.args.piece in
    let old = c.args.found.now.items in
    let new = c.loop-number.found.items in
    let l = piece.nonempty in
    let e : c.loop-number.number ≡ (piece.hi - 1) / 4096 + 1 = omega arith in
    adds_piece piece.lo piece.hi old new l (subst (λ (n : ℕ). AddsAmong (piece.lo / 4096) n old new) e c.loop-number.invariant.0)
