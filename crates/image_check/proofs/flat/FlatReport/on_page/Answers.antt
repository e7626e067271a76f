use Rattle.std.proofs.Common.{◌∙◌}
use Rattle.image_check.proofs.NearCounts.{page_near}
use Rattle.image_check.proofs.flat.FlatReport.on_page.Goals as goal

pub returns : goal.returns
returns c = c.is_on.ensures ∙ page_near c.args.addr c.near_pages.result.now _ c.near_pages.ensures
