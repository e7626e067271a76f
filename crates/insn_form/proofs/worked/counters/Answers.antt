use Rattle.std.proofs.Common.{refl}
use Rattle.insn_form.specs.Meaning.{effect}
use Rattle.insn_form.proofs.worked.counters.Goals as goal

pub returns : goal.returns
unfolding effect
returns c = record { loop = refl; loop_branches = refl; loope = refl; loope_goes_on = refl; jrcxz = refl; jrcxz_goes_on = refl }
