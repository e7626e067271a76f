use Rattle.site_turns.proofs.CourseOfTurns.{turns_are_one}
use Rattle.site_turns.proofs.laws.turns_are_one.Goals as goal

pub returns : goal.returns
returns c = turns_are_one
