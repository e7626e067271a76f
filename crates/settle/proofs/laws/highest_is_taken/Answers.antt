use Rattle.settle.proofs.HighestBases.{highest_is_taken}
use Rattle.settle.proofs.laws.highest_is_taken.Goals as goal

pub returns : goal.returns
returns c = highest_is_taken
