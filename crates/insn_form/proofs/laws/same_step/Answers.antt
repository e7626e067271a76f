use Rattle.insn_form.proofs.RepeatedSteps.{same_step}
use Rattle.insn_form.proofs.laws.same_step.Goals as goal

pub returns : goal.returns
returns c = same_step
