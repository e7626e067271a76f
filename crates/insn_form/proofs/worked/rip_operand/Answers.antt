use Rattle.std.proofs.Common.{refl}
use Rattle.insn_form.specs.Classes.{template}
use Rattle.insn_form.specs.Filling.{filled}
use Rattle.insn_form.proofs.worked.rip_operand.Goals as goal

pub returns : goal.returns
unfolding template filled
returns c = record { resolved = refl; asked = refl }
