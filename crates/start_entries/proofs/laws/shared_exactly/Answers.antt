use Rattle.start_entries.proofs.ImageEntries.{shared_exactly}
use Rattle.start_entries.proofs.laws.shared_exactly.Goals as goal

pub returns : goal.returns
returns c = shared_exactly
