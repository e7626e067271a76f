use Rattle.site_turns.proofs.LockedBytes.{locks_stay}
use Rattle.site_turns.proofs.laws.locks_stay.Goals as goal

pub returns : goal.returns
returns c = locks_stay
