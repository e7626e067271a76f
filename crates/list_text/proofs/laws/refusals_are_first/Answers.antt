use Rattle.list_text.proofs.FirstRefusals.{refusals_are_first}
use Rattle.list_text.proofs.laws.refusals_are_first.Goals as goal

pub returns : goal.returns
returns c = refusals_are_first
