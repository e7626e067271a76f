use Rattle.std.proofs.Common.{eqb, not, List, map, ap, ◌∙◌}
use Rattle.std.specs.List.{list_any}
use Rattle.patch_report.specs.declared.row.ReportRow.{ReportRow}
use Rattle.patch_report.specs.Grammar.{is_new}
use Rattle.patch_report.specs.Values.{row_value}
use Rattle.patch_report.proofs.SitesOfRows.{is_old}
use Rattle.patch_report.proofs.rows.RowMap.holds.Goals as goal

pub returns : goal.returns
returns c =
    c.contains.ensures ∙ ap (list_any (eqb c.args.site)) c.self.invariant ∙ is_old c.args.site c.self.inside.rows.items
    ∙ ap (λ (rs : List ReportRow). not (is_new c.args.site (map row_value rs))) c.self.view_is
