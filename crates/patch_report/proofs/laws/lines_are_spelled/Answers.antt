use Rattle.patch_report.proofs.NextLine.{lines_are_spelled}
use Rattle.patch_report.proofs.laws.lines_are_spelled.Goals as goal

pub returns : goal.returns
returns c = lines_are_spelled
