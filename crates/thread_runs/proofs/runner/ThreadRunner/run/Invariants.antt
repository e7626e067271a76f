use Rattle.std.proofs.Common.{take}
use Rattle.thread_runs.specs.Running.{guest_in, Leads}
use Rattle.thread_runs.proofs.runner.ThreadRunner.run.Given as goal

abbrev pub invariant-loop-at : goal.invariant-loop-at
invariant-loop-at l = Leads (take l.at l.schedule) (guest_in l.fn.self) (guest_in l.self)
