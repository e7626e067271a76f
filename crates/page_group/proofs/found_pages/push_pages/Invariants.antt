use Rattle.std.proofs.Common.{◌/◌, ◌^◌}
use Rattle.page_group.specs.Finding.{EndBelow}
use Rattle.page_group.proofs.PageLists.{AddsAmong}
use Rattle.page_group.proofs.found_pages.push_pages.Given as goal

abbrev pub invariant-loop-number : goal.invariant-loop-number
invariant-loop-number l =
    AddsAmong (l.fn.piece.lo / 4096) l.number l.initial.found.items l.found.items
    × (EndBelow (2 ^ 32) l.initial.found.items → EndBelow (2 ^ 32) l.found.items)
