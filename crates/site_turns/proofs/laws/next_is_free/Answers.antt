use Rattle.site_turns.proofs.LockedBytes.{next_is_free}
use Rattle.site_turns.proofs.laws.next_is_free.Goals as goal

pub returns : goal.returns
returns c = next_is_free
