use Rattle.std.proofs.Common.{refl}
use Rattle.insn_form.specs.Meaning.{effect}
use Rattle.insn_form.proofs.worked.stack_operands.Goals as goal

pub returns-clause-call : goal.returns-clause-call
unfolding effect
returns-clause-call c = record { reads = refl; writes = refl; pushes = λ v. refl; lowers = λ v. refl }

pub returns-clause-pop : goal.returns-clause-pop
unfolding effect
returns-clause-pop c = record { reads = refl; writes = refl; raises = λ v. refl }

pub returns-clause-push : goal.returns-clause-push
unfolding effect
returns-clause-push c = λ v. refl
