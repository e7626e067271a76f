use Rattle.start_entries.proofs.ImageEntries.{built_are_entries}
use Rattle.start_entries.proofs.laws.built_are_entries.Goals as goal

pub returns : goal.returns
returns c = built_are_entries
