use Rattle.commands.proofs.LoadReversal.{load_is_reversed}
use Rattle.commands.proofs.laws.load_is_reversed.Goals as goal

pub returns : goal.returns
returns c = load_is_reversed
