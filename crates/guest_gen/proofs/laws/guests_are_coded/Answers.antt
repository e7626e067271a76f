use Rattle.guest_gen.proofs.CodedInstructions.{guests_coded}
use Rattle.guest_gen.proofs.laws.guests_are_coded.Goals as goal

pub returns : goal.returns
returns c = guests_coded
