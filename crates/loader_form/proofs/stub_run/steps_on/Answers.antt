use Rattle.std.proofs.Common.{Bool, [], refl, subst}
use Rattle.insn_form.specs.Step.{Step}
use Rattle.insn_form.specs.Runs.{nowhere}
use Rattle.cpu_step.specs.Stepping.{machine_of, world_after}
use Rattle.loader_form.proofs.stub_run.steps_on.Goals as goal

pub returns-in-Ok : goal.returns-in-Ok
returns-in-Ok c =
    let s = rw c.in-Ok.is at c.step.ensures.steps in
    let u = rw c.in-Ok.is at c.step.ensures.uses in
    subst (λ (b : Bool). Step nowhere (machine_of c.args.state.now []) (machine_of c.step.new.state (world_after b []))) u (s [] refl)

pub returns-in-Err : goal.returns-in-Err
returns-in-Err c =
    let s = rw c.in-Err.is at c.step.ensures.steps in
    let u = rw c.in-Err.is at c.step.ensures.unchanged in
    (u, s [] refl)
