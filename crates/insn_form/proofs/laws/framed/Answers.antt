use Rattle.insn_form.proofs.FrameRule.{frame}
use Rattle.insn_form.proofs.laws.framed.Goals as goal

pub returns : goal.returns
returns c = frame
