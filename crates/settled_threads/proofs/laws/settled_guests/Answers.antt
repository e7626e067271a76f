use Rattle.settled_threads.proofs.FileGuests.{settled_guests}
use Rattle.settled_threads.proofs.laws.settled_guests.Goals as goal

pub returns : goal.returns
returns c = settled_guests
