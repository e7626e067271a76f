use Rattle.patch_report.proofs.ReportBounds.{bounded}
use Rattle.patch_report.proofs.laws.reports_are_bounded.Goals as goal

pub returns : goal.returns
returns c = bounded
