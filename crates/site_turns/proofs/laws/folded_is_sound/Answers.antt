use Rattle.site_turns.proofs.SoundImages.{folded_is_sound}
use Rattle.site_turns.proofs.laws.folded_is_sound.Goals as goal

pub returns : goal.returns
returns c = folded_is_sound
