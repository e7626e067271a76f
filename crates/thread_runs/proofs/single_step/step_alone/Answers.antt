use Rattle.std.specs.Prelude.{option_copied}
use Rattle.thread_runs.proofs.LockIncStep.{alone_ok, alone_err}
use Rattle.thread_runs.proofs.single_step.step_alone.Goals as goal

pub returns-in-Ok : goal.returns-in-Ok
returns-in-Ok c = alone_ok c.args.state.now c.step.new.state (option_copied c.args.next) c.in-Ok.info (c.requires.locked, c.requires.xadd) c.in-Ok.ensures.steps c.in-Ok.ensures.uses

pub returns-in-Err : goal.returns-in-Err
returns-in-Err c =
    alone_err c.args.state.now c.step.new.state (option_copied c.args.next) c.in-Err.stop (c.requires.locked, c.requires.xadd) c.in-Err.ensures.told c.in-Err.ensures.steps c.in-Err.ensures.unchanged
