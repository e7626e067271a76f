use Rattle.insn_form.proofs.FrameRule.{keep}
use Rattle.insn_form.proofs.laws.kept.Goals as goal

pub returns : goal.returns
returns c = keep
