use Rattle.guest_gen.proofs.AcceptedGuests.{guests_accepted}
use Rattle.guest_gen.proofs.laws.guests_are_accepted.Goals as goal

pub returns : goal.returns
returns c = guests_accepted
