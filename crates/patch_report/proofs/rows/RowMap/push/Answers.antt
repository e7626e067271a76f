use Rattle.std.proofs.Common.{◌≡◌, ℕ, true, eqb, List, map, sym, ap, subst, ◌∙◌}
use Rattle.indexmap.specs.IndexSet.{insert_key}
use Rattle.patch_report.specs.declared.row.ReportRow.{ReportRow}
use Rattle.patch_report.specs.Grammar.{is_new}
use Rattle.patch_report.specs.Rows.{sites_of}
use Rattle.patch_report.specs.Values.{row_value}
use Rattle.patch_report.proofs.SitesOfRows.{site_pushed}
use Rattle.patch_report.proofs.rows.RowMap.push.Goals as goal

pub invariant_of-self-2 : goal.invariant_of-self-2
invariant_of-self-2 c =
    let rows = c.self.inside.rows.items in
    let site = c.args.row.site in
    let new = subst (λ (rs : List ReportRow). is_new site (map row_value rs) ≡ true) (sym c.self.view_is) c.requires in
    let keys = c.in_ok-reserve.ensures.keys ∙ c.self.invariant in
    let inserted = rw c.unwrap.ensures at c.insert.ensures.keys in
    inserted ∙ ap (λ (ks : List ℕ). insert_key eqb ks site) keys ∙ site_pushed rows c.args.row new
    ∙ sym (ap sites_of c.in_ok-push.ensures.items)
