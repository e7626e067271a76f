use Rattle.guest_gen.proofs.OneWorld.{world_is_one}
use Rattle.guest_gen.proofs.laws.world_is_one.Goals as goal

pub returns : goal.returns
returns c = world_is_one
