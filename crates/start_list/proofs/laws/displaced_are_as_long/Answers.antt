use Rattle.start_list.proofs.DisplacedWork.{displaced_are_as_long}
use Rattle.start_list.proofs.laws.displaced_are_as_long.Goals as goal

pub returns : goal.returns
returns c = displaced_are_as_long
