use Rattle.site_turns.proofs.CourseOfTurns.{codes_are_one}
use Rattle.site_turns.proofs.laws.codes_are_one.Goals as goal

pub returns : goal.returns
returns c = codes_are_one
