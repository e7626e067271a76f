use Rattle.trampoline.proofs.DataParts.{data_held}
use Rattle.trampoline.proofs.laws.data_is_held.Goals as goal

pub returns : goal.returns
returns c = data_held
