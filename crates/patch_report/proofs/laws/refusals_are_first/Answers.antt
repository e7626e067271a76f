use Rattle.patch_report.proofs.FirstRefusedLine.{refusals_are_first}
use Rattle.patch_report.proofs.laws.refusals_are_first.Goals as goal

pub returns : goal.returns
returns c = refusals_are_first
