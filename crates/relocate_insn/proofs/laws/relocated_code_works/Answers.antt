use Rattle.relocate_insn.proofs.CodeRuns.{relocated_works}
use Rattle.relocate_insn.proofs.laws.relocated_code_works.Goals as goal

pub returns : goal.returns
returns c = relocated_works
