use Rattle.std.proofs.Common.{◌≡◌, ◌+◌, ◌++◌, ◌∷◌, [], ℕ, eqb, List, take, sym, ap, ◌∙◌}
use Rattle.std.proofs.lemmas.List.{take_more}
use Rattle.indexmap.specs.IndexSet.{insert_key}
use Rattle.patch_report.specs.declared.row.ReportRow.{ReportRow}
use Rattle.patch_report.specs.Rows.{sites_of}
use Rattle.patch_report.proofs.SitesOfRows.{new_at, site_pushed}
use Rattle.patch_report.proofs.rows.sites_of.Goals as goal

pub loop-row-preserved : goal.loop-row-preserved
loop-row-preserved c =
    let x : ReportRow = c.row-item.result in
    let i = c.loop-row.row-index in
    let rs : List ReportRow = c.args.rows.now in
    let t : take (i + 1) rs ≡ take i rs ++ x ∷ [] =
    take_more rs i x c.loop-row-test.true ∙ ap (λ (y : ReportRow). take i rs ++ y ∷ []) (sym c.row-item.is) in
    c.in_ok-insert.ensures.keys ∙ ap (λ (ks : List ℕ). insert_key eqb ks x.site) c.loop-row.invariant
    ∙ site_pushed (take i rs) x (new_at rs i x [] c.requires c.loop-row-test.true c.row-item.is) ∙ sym (ap sites_of t)
