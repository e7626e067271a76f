use Rattle.std.proofs.Common.{List, ◌++◌, subst}
use Rattle.patch_report.specs.Spelling.{report_text}
use Rattle.patch_report.specs.Values.{ReportValue, RowValue}
use Rattle.command_io.specs.Summary.{summary_text, done_status}
use Rattle.command_io.specs.Failing.{seen_as, told_of, failed_of}
use Rattle.command_io.specs.ReportModes.{mode_text}
use Rattle.command_io.proofs.WholeCommands.{told_behind}
use Rattle.patch_commands.specs.Patching.{TellsSummary}
use Rattle.patch_commands.proofs.Rewritings.{unreported}
use Rattle.patch_commands.proofs.patch.write_report.Goals as goal

pub returns-in-Ok-write_output : goal.returns-in-Ok-write_output
returns-in-Ok-write_output g c =
    told_behind (c.args.name.now, λ (v : ReportValue). mode_text c.args.mode ++ report_text v) c.args.report.now c.in-Ok.text.items
    (summary_text c.args.report.now.body.rows, done_status c.args.report.now.body.rows) _ _ (seen_as told_of c.told_summary.result) c.in-Ok.ensures
    c.in-Ok-write_output.ensures
    (subst (λ (rows : List RowValue). TellsSummary rows (seen_as told_of c.told_summary.result)) c.rows.ensures c.told_summary.ensures)

pub returns-in-Err : goal.returns-in-Err
returns-in-Err g c =
    unreported c.args.mode c.args.name.now c.in-Ok.text.items c.args.report.now _ _ (failed_of c.in-Err.failure) c.in-Ok.ensures c.in-Err.ensures
