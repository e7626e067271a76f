use Rattle.std.proofs.Common.{refl}
use Rattle.insn_form.specs.Meaning.{effect}
use Rattle.insn_form.proofs.worked.left_bits.Goals as goal

pub returns : goal.returns
unfolding effect
returns c = record { shl = refl; shl_flags = refl; cmp = refl; xchg = refl; lahf = refl }
