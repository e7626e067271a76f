use Rattle.start_entries.proofs.ExecutedEntries.{all_executed}
use Rattle.start_entries.proofs.laws.all_executed.Goals as goal

pub returns : goal.returns
returns c = all_executed
