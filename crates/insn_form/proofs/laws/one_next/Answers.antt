use Rattle.insn_form.proofs.UniqueSteps.{one_instruction, one_next}
use Rattle.insn_form.proofs.laws.one_next.Goals as goal

pub returns-clause-instruction : goal.returns-clause-instruction
returns-clause-instruction c = one_instruction

pub returns-clause-next : goal.returns-clause-next
returns-clause-next c = one_next
