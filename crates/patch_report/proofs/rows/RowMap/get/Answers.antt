use Rattle.std.proofs.Common.{eqb, List, option_copied, slice_get, sym, ap, ◌∙◌}
use Rattle.std.specs.List.{list_any, position}
use Rattle.patch_report.specs.declared.row.ReportRow.{ReportRow}
use Rattle.patch_report.specs.Rows.{row_with}
use Rattle.patch_report.proofs.SitesOfRows.{none_without, row_at_place}
use Rattle.patch_report.proofs.rows.RowMap.get.Goals as goal

pub returns-in_err-place : goal.returns-in_err-place
returns-in_err-place c =
    let none = none_without c.args.site c.self.inside.rows.items
    (sym (c.in_err-place.ensures.found ∙ ap (list_any (eqb c.args.site)) c.self.invariant)) in
    ap option_copied c.from_residual.ensures ∙ sym none ∙ ap (row_with c.args.site) c.self.view_is

pub returns : goal.returns
returns c =
    let place = c.in_ok-place.place in
    let at = row_at_place c.args.site place c.self.inside.rows.items
    (c.in_ok-place.ensures.index ∙ ap (position (eqb c.args.site)) c.self.invariant) in
    c.nth_row.ensures ∙ ap (λ (rs : List ReportRow). slice_get rs place) c.deref.ensures.value ∙ at ∙ ap (row_with c.args.site) c.self.view_is
