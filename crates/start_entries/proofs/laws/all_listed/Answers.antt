use Rattle.start_entries.proofs.BuiltEntries.{all_listed}
use Rattle.start_entries.proofs.laws.all_listed.Goals as goal

pub returns : goal.returns
returns c = all_listed
