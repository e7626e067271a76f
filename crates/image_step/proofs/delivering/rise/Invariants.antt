use Rattle.std.proofs.Common.{◌≡◌, drop}
use Rattle.image_step.specs.Scheduled.{rise}
use Rattle.image_step.proofs.delivering.rise.Given as goal

abbrev pub invariant-loop-due : goal.invariant-loop-due
invariant-loop-due l = rise l.least (drop l.due-index l.dues) ≡ rise l.low l.dues
