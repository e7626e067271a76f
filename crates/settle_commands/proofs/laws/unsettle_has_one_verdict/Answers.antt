use Rattle.settle_commands.proofs.UnsettleVerdicts.{one_unsettle_verdict}
use Rattle.settle_commands.proofs.laws.unsettle_has_one_verdict.Goals as goal

pub returns : goal.returns
returns c = one_unsettle_verdict
