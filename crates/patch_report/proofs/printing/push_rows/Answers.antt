use Rattle.std.proofs.Common.{◌≡◌, ◌+◌, ◌++◌, ◌∷◌, [], take, sym, ap, ◌∙◌}
use Rattle.std.proofs.lemmas.List.{take_more}
use Rattle.patch_report.specs.declared.row.ReportRow.{ReportRow}
use Rattle.patch_report.specs.Values.{row_value}
use Rattle.patch_report.proofs.PrintedLines.{each_row}
use Rattle.patch_report.proofs.printing.push_rows.Goals as goal

pub loop-row-preserved : goal.loop-row-preserved
loop-row-preserved c =
    let x : ReportRow = c.row-item.result in
    let t : take (c.loop-row.row-index + 1) c.args.rows.now ≡ take c.loop-row.row-index c.args.rows.now ++ x ∷ [] =
    take_more c.args.rows.now c.loop-row.row-index x c.loop-row-test.true
    ∙ ap (λ (y : ReportRow). take c.loop-row.row-index c.args.rows.now ++ y ∷ []) (sym c.row-item.is) in
    each_row row_value c.args.rows.now c.loop-row.row-index x c.args.out.now.items c.loop-row.out.items c.push_row.new.out.items t
    c.loop-row.invariant c.in_ok-push_row.ensures
