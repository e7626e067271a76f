use Rattle.cond_action.proofs.CodeLengths.{code_long}
use Rattle.cond_action.proofs.laws.code_lengths.Goals as goal

pub returns : goal.returns
returns c = code_long
