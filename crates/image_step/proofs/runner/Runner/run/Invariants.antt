use Rattle.image_step.proofs.Steps.{Along}
use Rattle.image_step.proofs.runner.Runner.run.Given as goal

abbrev pub invariant-loop-turn : goal.invariant-loop-turn
invariant-loop-turn l = Along l.fn.self l.self l.turn
