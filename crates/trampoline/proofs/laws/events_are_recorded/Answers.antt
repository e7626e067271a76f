use Rattle.trampoline.proofs.EventRuns.{events_recorded}
use Rattle.trampoline.proofs.laws.events_are_recorded.Goals as goal

pub returns : goal.returns
returns c = events_recorded
