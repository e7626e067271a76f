use Rattle.std.proofs.Common.{take}
use Rattle.page_group.specs.Pages.{ends_of}
use Rattle.page_group.specs.Occupancy.{AreOccupied}
use Rattle.page_group.proofs.occupancy.occupied_offsets.Given as goal

abbrev pub invariant-loop-piece : goal.invariant-loop-piece
invariant-loop-piece l = AreOccupied (ends_of (take l.piece-index l.pieces)) l.pages l.sets.items
