use Rattle.std.proofs.Common.{arith}
use Rattle.guest_gen.proofs.StepsSoFar.{answered_none, answered_more, answered_all}
use Rattle.guest_gen.proofs.answering.answer_run.Goals as goal

pub loop-step-init : goal.loop-step-init
loop-step-init c = (omega arith, answered_none c.args.state c.new-entries.result.items c.new-entries.ensures.items c.requires)

pub advance-requires-clause-runs : goal.advance-requires-clause-runs
advance-requires-clause-runs c = c.loop-step.invariant.1.goes

pub loop-step-preserved : goal.loop-step-preserved
loop-step-preserved c = (
  let l = c.loop-step-test.true in omega arith,
  answered_more c.loop-step._step c.args.state c.loop-step.state c.advance.new.state c.loop-step.entries.items c.advance.new.entries.items
      c.loop-step.invariant.1 c.in_ok-advance.ensures,
)

pub returns : goal.returns
returns c =
    let l = c.loop-step-test.false in
    let k = c.loop-step.invariant.0 in
    answered_all c.loop-step._step c.args.steps c.args.state c.loop-step.state c.loop-step.entries.items
    (omega arith) c.loop-step.invariant.1
