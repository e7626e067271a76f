use Rattle.bare_events.proofs.BareRuns.{bare_works}
use Rattle.bare_events.proofs.laws.bare_trampolines_work.Goals as goal

pub returns : goal.returns
returns c = bare_works
