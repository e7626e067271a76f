use Rattle.site_turns.proofs.CodeSizes.{code_fills}
use Rattle.site_turns.proofs.laws.code_fills.Goals as goal

pub returns : goal.returns
returns c = code_fills
