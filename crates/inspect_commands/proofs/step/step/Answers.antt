use Rattle.command_words.specs.Named.{step_names_of}
use Rattle.command_io.specs.Failing.{seen_as, told_of, failed_of}
use Rattle.inspect_commands.specs.StepAnswers.{step_inputs, IsStepStatus, StepRefuses, StepTells}
use Rattle.inspect_commands.specs.Stepping.{step_texts}
use Rattle.command_io.proofs.GatheredInputs.{judged, unread}
use Rattle.inspect_commands.proofs.StepVerdicts.{step_own}
use Rattle.inspect_commands.proofs.step.step.Goals as goal

pub returns-in-Ok : goal.returns-in-Ok
returns-in-Ok g c =
    judged (step_inputs (step_names_of c.args.names.now)) StepRefuses (StepTells c.args.count) IsStepStatus (step_own c.args.count) _ _
    (step_texts c.in-Ok.inputs) (seen_as told_of c.run_inputs.result) c.in-Ok.ensures.gathers c.run_inputs.ensures

pub returns-in-Err : goal.returns-in-Err
returns-in-Err g c =
    unread (step_inputs (step_names_of c.args.names.now)) StepRefuses (StepTells c.args.count) IsStepStatus _ _ (failed_of c.in-Err.failure)
    c.in-Err.ensures.gathers
