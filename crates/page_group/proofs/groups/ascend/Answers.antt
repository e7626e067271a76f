use Rattle.page_group.proofs.AscendingPieces.{ascend_none, ascend_more, ascend_all}
use Rattle.page_group.proofs.groups.ascend.Goals as goal

pub loop-piece-init : goal.loop-piece-init
loop-piece-init c = ascend_none

pub loop-piece-preserved : goal.loop-piece-preserved
loop-piece-preserved c =
    let at = c.loop-piece in
    ascend_more at.end at.piece-index c.args.pieces.now c.piece-item.result c.loop-piece-test.true
    c.piece-item.is at.invariant c.if-piece-end.false

pub returns : goal.returns
returns c = λ _. ascend_all c.loop-piece.end c.loop-piece.piece-index c.args.pieces.now c.loop-piece-test.false c.loop-piece.invariant
