use Rattle.site_turns.proofs.PlannedReports.{planned_is_report}
use Rattle.site_turns.proofs.laws.planned_is_report.Goals as goal

pub returns : goal.returns
returns c = planned_is_report
