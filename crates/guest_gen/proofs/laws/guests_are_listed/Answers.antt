use Rattle.guest_gen.proofs.StartsAndSites.{guests_listed}
use Rattle.guest_gen.proofs.laws.guests_are_listed.Goals as goal

pub returns : goal.returns
returns c = guests_listed
