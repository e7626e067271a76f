use Rattle.std.proofs.Common.{ℕ, get_or}
use Rattle.std.proofs.lemmas.List.{take_more}
use Rattle.patch_report.specs.Spelling.{page_line}
use Rattle.patch_report.proofs.PrintedLines.{each_line}
use Rattle.patch_report.proofs.printing.push_pages.Goals as goal

pub loop-page-preserved : goal.loop-page-preserved
loop-page-preserved c =
    let x : ℕ × ℕ = get_or c.args.pages.now c.loop-page.page-index (0, 0) in
    each_line page_line c.args.pages.now c.loop-page.page-index x c.args.out.now.items c.loop-page.out.items c.push_page.new.out.items
    c.push.new.self.items (take_more c.args.pages.now c.loop-page.page-index (0, 0) c.loop-page-test.true) c.loop-page.invariant
    c.in_ok-push_page.ensures c.in_ok-push.ensures.items
