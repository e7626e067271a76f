use Rattle.start_entries.proofs.StartsSoFar.{addresses-entries}
use Rattle.start_entries.proofs.laws.one_each.Goals as goal

pub returns : goal.returns
returns c = addresses-entries
