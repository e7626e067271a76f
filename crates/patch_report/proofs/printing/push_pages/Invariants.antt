use Rattle.std.proofs.Common.{◌≡◌, ◌++◌, map, take}
use Rattle.patch_report.specs.Spelling.{lines_text, page_line}
use Rattle.patch_report.proofs.printing.push_pages.Given as goal

abbrev pub invariant-loop-page : goal.invariant-loop-page
invariant-loop-page l = l.out.items ≡ l.fn.out.items ++ lines_text (map page_line (take l.page-index l.pages))
