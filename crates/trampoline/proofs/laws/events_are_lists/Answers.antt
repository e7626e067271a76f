use Rattle.trampoline.proofs.PlainEvents.{are_lists}
use Rattle.trampoline.proofs.laws.events_are_lists.Goals as goal

pub returns : goal.returns
returns c = are_lists
