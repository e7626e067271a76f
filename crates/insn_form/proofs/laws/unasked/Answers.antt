use Rattle.insn_form.proofs.RepeatedSteps.{unasked}
use Rattle.insn_form.proofs.laws.unasked.Goals as goal

pub returns : goal.returns
returns c = unasked
