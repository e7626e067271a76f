use Rattle.insn_form.proofs.UniqueSteps.{one_run}
use Rattle.insn_form.proofs.laws.one_run.Goals as goal

pub returns : goal.returns
returns c = one_run
