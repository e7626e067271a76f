use Rattle.site_turns.proofs.LockedBytes.{locks_are_above}
use Rattle.site_turns.proofs.laws.locks_are_above.Goals as goal

pub returns : goal.returns
returns c = locks_are_above
