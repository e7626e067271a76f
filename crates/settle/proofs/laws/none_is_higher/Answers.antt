use Rattle.settle.proofs.HighestBases.{none_is_higher}
use Rattle.settle.proofs.laws.none_is_higher.Goals as goal

pub returns : goal.returns
returns c = none_is_higher
