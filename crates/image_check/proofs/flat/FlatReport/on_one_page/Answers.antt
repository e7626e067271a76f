use Rattle.std.proofs.Common.{sym, ◌∙◌}
use Rattle.image_check.proofs.SkippedSpans.{paged}
use Rattle.image_check.proofs.flat.FlatReport.on_one_page.Goals as goal

pub returns : goal.returns
returns c t x l m = paged c.args.addr c.args.more x c.near_pages.result.now _ c.near_pages.ensures (sym c.are_on.ensures ∙ t) l m
