use Rattle.sound_images.proofs.StartPairs.{sound_followed}
use Rattle.sound_images.proofs.laws.sound_is_followed.Goals as goal

pub returns : goal.returns
returns c = sound_followed
