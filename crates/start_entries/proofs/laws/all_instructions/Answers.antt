use Rattle.start_entries.proofs.StandingInstructions.{all_instructions}
use Rattle.start_entries.proofs.laws.all_instructions.Goals as goal

pub returns : goal.returns
returns c = all_instructions
