use Rattle.trampoline.proofs.EventPieces.{no_jump}
use Rattle.trampoline.proofs.laws.events_begin_with_no_jump.Goals as goal

pub returns : goal.returns
returns c = no_jump
