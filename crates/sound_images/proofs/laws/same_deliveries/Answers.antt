use Rattle.sound_images.proofs.PlainItems.{same_deliveries}
use Rattle.sound_images.proofs.laws.same_deliveries.Goals as goal

pub returns : goal.returns
returns c = same_deliveries
