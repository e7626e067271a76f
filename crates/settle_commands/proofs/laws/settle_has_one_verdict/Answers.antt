use Rattle.settle_commands.proofs.SettleVerdicts.{one_settle_verdict}
use Rattle.settle_commands.proofs.laws.settle_has_one_verdict.Goals as goal

pub returns : goal.returns
returns c = one_settle_verdict
