use Rattle.std.proofs.Common.{refl}
use Rattle.insn_form.specs.Classes.{template}
use Rattle.insn_form.specs.Filling.{filled}
use Rattle.insn_form.proofs.worked.high_bytes.Goals as goal

pub returns : goal.returns
unfolding template filled
returns c = record { without_rex = refl; with_rex = refl }
