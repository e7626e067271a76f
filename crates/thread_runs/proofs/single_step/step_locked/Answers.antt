use Rattle.std.specs.Prelude.{option_copied}
use Rattle.thread_runs.proofs.LockIncStep.{locked_ok, locked_err}
use Rattle.thread_runs.proofs.single_step.step_locked.Goals as goal

pub returns-in-Ok : goal.returns-in-Ok
returns-in-Ok c = locked_ok c.args.state.now c.step.new.state (option_copied c.args.next) c.in-Ok.info c.requires c.in-Ok.ensures.steps c.in-Ok.ensures.uses

pub returns-in-Err : goal.returns-in-Err
returns-in-Err c =
    locked_err c.args.state.now c.step.new.state (option_copied c.args.next) c.in-Err.stop c.requires c.in-Err.ensures.told c.in-Err.ensures.steps c.in-Err.ensures.unchanged
