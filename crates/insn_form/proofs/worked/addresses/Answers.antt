use Rattle.std.proofs.Common.{refl}
use Rattle.insn_form.specs.Meaning.{effect}
use Rattle.insn_form.proofs.worked.addresses.Goals as goal

pub returns : goal.returns
unfolding effect
returns c = record { plain = refl; of_32_bits = refl; fs = refl; gs = refl }
