use Rattle.std.proofs.Common.{◌^◌, take}
use Rattle.page_group.specs.Pages.{ends_of}
use Rattle.page_group.specs.Finding.{EndBelow}
use Rattle.page_group.proofs.PageLists.{Exact}
use Rattle.page_group.proofs.found_pages.found_pages.Given as goal

abbrev pub invariant-loop-piece : goal.invariant-loop-piece
invariant-loop-piece l = Exact (ends_of (take l.piece-index l.pieces)) l.found.items × EndBelow (2 ^ 32) l.found.items
