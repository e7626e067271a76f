use Rattle.std.proofs.Common.{refl}
use Rattle.insn_form.specs.Meaning.{effect}
use Rattle.insn_form.proofs.worked.taken_off.Goals as goal

pub returns : goal.returns
unfolding effect
returns c = record { ret = λ v. refl; goes = λ v. refl; leave_reads = refl; leave_top = λ v. refl; leave_base = λ v. refl }
