use Rattle.bare_events.proofs.BareCodes.{bare_bytes}
use Rattle.bare_events.proofs.laws.bare_bytes.Goals as goal

pub returns : goal.returns
returns c = bare_bytes
