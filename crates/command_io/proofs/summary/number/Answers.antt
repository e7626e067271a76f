use Rattle.std.proofs.Common.{◌≡◌, ◌∙◌, count_by, rules, sym}
use Rattle.patch_report.specs.declared.row.ReportRow.{ReportRow}
use Rattle.patch_report.specs.Values.{outcome_value}
use Rattle.command_io.specs.Summary.{is_counted}
use Rattle.command_io.proofs.RowCounts.{counted}
use Rattle.command_io.proofs.summary.number.Goals as goal

pub returns : goal.returns
returns c =
    let e : c.count.result ≡ count_by (λ (r : ReportRow). is_counted c.args.which (outcome_value r.outcome)) c.args.rows.now = search rules in
    e ∙ sym (counted c.args.which c.args.rows.now)
