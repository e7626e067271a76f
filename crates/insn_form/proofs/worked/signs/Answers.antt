use Rattle.std.proofs.Common.{refl}
use Rattle.insn_form.specs.Meaning.{effect}
use Rattle.cpu_alu.specs.Widths.{signed}
use Rattle.insn_form.proofs.worked.signs.Goals as goal

pub returns : goal.returns
unfolding effect signed
returns c = record { to_32 = refl; to_64 = refl; with_zeros = refl; cwde = refl; cdq = refl; cqo = refl }
