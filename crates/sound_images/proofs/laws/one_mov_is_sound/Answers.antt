use Rattle.sound_images.proofs.WorkedSoundness.{one_mov_sound}
use Rattle.sound_images.proofs.laws.one_mov_is_sound.Goals as goal

pub returns : goal.returns
returns c = one_mov_sound
