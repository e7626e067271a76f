use Rattle.insn_form.proofs.RegisterSizes.{after, along}
use Rattle.insn_form.proofs.laws.processor_state.Goals as goal

pub returns-clause-after : goal.returns-clause-after
returns-clause-after c = after

pub returns-clause-along : goal.returns-clause-along
returns-clause-along c = along
