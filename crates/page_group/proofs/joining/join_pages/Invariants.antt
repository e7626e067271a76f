use Rattle.std.proofs.Common.{◌≡◌, length}
use Rattle.page_group.specs.Pages.{ends_of}
use Rattle.page_group.proofs.JoinedPages.{Joining, AreMet}
use Rattle.page_group.proofs.joining.join_pages.Given as goal

abbrev pub invariant-loop-offsets : goal.invariant-loop-offsets
invariant-loop-offsets l = record {
  size : length l.joined.items ≡ l.offsets-index;
  table : length l.latest.items ≡ 4096;
  joining : Joining (ends_of l.pieces) l.pages l.joined.items l.groups.items;
  met : AreMet l.offsets-items l.joined.items l.groups.items;
}
