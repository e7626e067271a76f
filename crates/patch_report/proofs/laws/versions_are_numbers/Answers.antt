use Rattle.patch_report.proofs.OtherVersions.{versions_are_numbers}
use Rattle.patch_report.proofs.laws.versions_are_numbers.Goals as goal

pub returns : goal.returns
returns c = versions_are_numbers
