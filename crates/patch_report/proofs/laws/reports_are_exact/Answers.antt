use Rattle.patch_report.proofs.ExactReading.{reports_are_exact}
use Rattle.patch_report.proofs.laws.reports_are_exact.Goals as goal

pub returns : goal.returns
returns c = reports_are_exact
