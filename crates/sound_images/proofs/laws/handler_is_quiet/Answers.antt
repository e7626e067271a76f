use Rattle.sound_images.proofs.WorkedHandler.{handler_quiet}
use Rattle.sound_images.proofs.laws.handler_is_quiet.Goals as goal

pub returns : goal.returns
returns c = handler_quiet
