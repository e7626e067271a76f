use Rattle.image_step.proofs.DueDeliveries.{AlongDue}
use Rattle.image_step.proofs.runner.Runner.run_due.Given as goal

abbrev pub invariant-loop-made : goal.invariant-loop-made
invariant-loop-made l = AlongDue l.fn.self l.self l.dues l.last l.made
