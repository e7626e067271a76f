use Rattle.trampoline.proofs.PrivateData.{listed_recorded}
use Rattle.trampoline.proofs.laws.listed_events.Goals as goal

pub returns : goal.returns
returns c = listed_recorded
