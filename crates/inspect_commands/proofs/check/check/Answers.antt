use Rattle.command_words.specs.Named.{check_names_of}
use Rattle.command_io.specs.Failing.{seen_as, told_of, failed_of}
use Rattle.inspect_commands.specs.CheckAnswers.{check_inputs, IsCheckStatus, CheckRefuses, CheckTells}
use Rattle.inspect_commands.specs.Checking.{check_texts}
use Rattle.command_io.proofs.GatheredInputs.{judged, unread}
use Rattle.inspect_commands.proofs.CheckVerdicts.{check_own}
use Rattle.inspect_commands.proofs.check.check.Goals as goal

pub returns-in-Ok : goal.returns-in-Ok
returns-in-Ok g c =
    judged (check_inputs (check_names_of c.args.names.now)) CheckRefuses CheckTells IsCheckStatus check_own _ _
    (check_texts c.in-Ok.inputs) (seen_as told_of c.judge_inputs.result) c.in-Ok.ensures c.judge_inputs.ensures

pub returns-in-Err : goal.returns-in-Err
returns-in-Err g c =
    unread (check_inputs (check_names_of c.args.names.now)) CheckRefuses CheckTells IsCheckStatus _ _ (failed_of c.in-Err.failure)
    c.in-Err.ensures
