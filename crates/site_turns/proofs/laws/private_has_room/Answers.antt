use Rattle.site_turns.proofs.PrivateRoom.{private_has_room}
use Rattle.site_turns.proofs.laws.private_has_room.Goals as goal

pub returns : goal.returns
returns c = private_has_room
