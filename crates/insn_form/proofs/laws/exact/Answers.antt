use Rattle.insn_form.proofs.ExactSteps.{acts_exactly}
use Rattle.insn_form.proofs.laws.exact.Goals as goal

pub returns : goal.returns
returns c = acts_exactly
