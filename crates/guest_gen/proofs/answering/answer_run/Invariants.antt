use Rattle.std.proofs.Common.{◌≤◌}
use Rattle.guest_gen.specs.Running.{AnsweredSoFar}
use Rattle.guest_gen.proofs.answering.answer_run.Given as goal

abbrev pub invariant-loop-step : goal.invariant-loop-step
invariant-loop-step l = (l._step ≤ l.fn.steps) × AnsweredSoFar l._step l.fn.state l.state l.entries.items
