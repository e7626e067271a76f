use Rattle.std.proofs.Common.{sym, subst, Err}
use Rattle.patch_report.specs.declared.error.ReportError.{ReportError}
use Rattle.command_io.specs.ReportModes.{ReadsIn}
use Rattle.command_io.proofs.ModedReadings.{read_ok, read_err, next_line}
use Rattle.command_io.proofs.report_mode.read_in_mode.Goals as goal

pub returns-in-Ok : goal.returns-in-Ok
returns-in-Ok c = read_ok c.args.text.now c.args.mode c.args.rest.now c.in-Ok.report c.requires c.in-Ok.ensures.answer

pub error_in_mode-requires : goal.error_in_mode-requires
error_in_mode-requires c = next_line c.args.rest.now c.in-Err.error c.in-Err.ensures.answer

pub returns-in-Err : goal.returns-in-Err
returns-in-Err c =
    subst (λ (e : ReportError). ReadsIn c.args.text.now (Err e)) (sym c.error_in_mode.ensures)
    (read_err c.args.text.now c.args.mode c.args.rest.now c.in-Err.error c.requires c.in-Err.ensures.answer)
