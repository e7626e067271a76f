use Rattle.std.proofs.Common.{take}
use Rattle.page_group.proofs.AscendingPieces.{AscendTo}
use Rattle.page_group.proofs.groups.ascend.Given as goal

abbrev pub invariant-loop-piece : goal.invariant-loop-piece
invariant-loop-piece l = AscendTo l.end (take l.piece-index l.pieces)
