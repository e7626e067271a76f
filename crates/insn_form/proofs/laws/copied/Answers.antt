use Rattle.insn_form.proofs.RepeatedSteps.{copied_to, syscall_copied}
use Rattle.insn_form.proofs.laws.copied.Goals as goal

pub returns-clause-steady : goal.returns-clause-steady
returns-clause-steady c = copied_to

pub returns-clause-syscall : goal.returns-clause-syscall
returns-clause-syscall c = syscall_copied
