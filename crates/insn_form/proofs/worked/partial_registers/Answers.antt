use Rattle.std.proofs.Common.{refl}
use Rattle.insn_form.specs.Meaning.{effect}
use Rattle.insn_form.specs.Conditions.{is_met}
use Rattle.insn_form.proofs.worked.partial_registers.Goals as goal

pub returns : goal.returns
unfolding effect is_met
returns c = record { clears = refl; clears_unmoved = refl; keeps = refl; keeps_around = refl }
