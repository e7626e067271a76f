use Rattle.guest_threads.proofs.GuestsOfTurns.{turns_are_threaded}
use Rattle.guest_threads.proofs.laws.turns_are_threaded.Goals as goal

pub returns : goal.returns
returns c = turns_are_threaded
