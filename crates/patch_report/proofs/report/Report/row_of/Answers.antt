use Rattle.std.proofs.Common.{option_map, ap, ◌∙◌}
use Rattle.patch_report.specs.Rows.{row_of}
use Rattle.patch_report.specs.Values.{ReportValue, row_value}
use Rattle.patch_report.proofs.SitesOfRows.{mapped_row}
use Rattle.patch_report.proofs.report.Report.row_of.Goals as goal

pub returns : goal.returns
returns c =
    ap (option_map row_value) c.get.ensures ∙ (mapped_row c.args.site c.self.inside.parts.rows
    ∙ ap (λ (v : ReportValue). row_of c.args.site v.body.rows) c.self.view_is)
