use Rattle.insn_form.proofs.KeptFlags.{gives_five, gives_flags}
use Rattle.insn_form.proofs.laws.flags_back.Goals as goal

pub returns-clause-five : goal.returns-clause-five
returns-clause-five c = gives_five

pub returns-clause-six : goal.returns-clause-six
returns-clause-six c = gives_flags
