use Rattle.sound_images.proofs.PlainItems.{headline_case}
use Rattle.sound_images.proofs.laws.plain_is_a_case.Goals as goal

pub returns : goal.returns
returns c = headline_case
