use Rattle.site_turns.proofs.SoundImages.{turns_are_followed}
use Rattle.site_turns.proofs.laws.turns_are_followed.Goals as goal

pub returns : goal.returns
returns c = turns_are_followed
