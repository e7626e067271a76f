use Rattle.std.proofs.Common.{List, map, sym, ◌∙◌, subst}
use Rattle.std.specs.List.{AllByRecursion}
use Rattle.pun_base.specs.declared.tramp.Tramp.{Tramp}
use Rattle.patch_report.specs.declared.row.ReportRow.{ReportRow}
use Rattle.sound_images.proofs.OutcomeTramps.{tramps_told}
use Rattle.site_turns.specs.Turned.{line_at, AddsCodes}
use Rattle.site_turns.proofs.BuiltCodes.{none_built, can_row, row_built, all_built}
use Rattle.site_turns.proofs.building.build_all.Goals as goal

pub loop-row-init : goal.loop-row-init
loop-row-init g c =
    none_built (g.C.Coding.can c.args.coding.now) (g.C.Coding.is_code c.args.coding.now) c.args.rows.now c.in_ok-built.built.items
    c.in_ok-built.ensures.items c.requires

pub push_codes-requires : goal.push_codes-requires
push_codes-requires g c =
    let row : ReportRow = c.row-item.result in
    subst (λ (ts : List Tramp). AllByRecursion (g.C.Coding.can c.args.coding.now) (map (line_at row.number) ts)) (sym (c.tramps.ensures ∙ tramps_told row.outcome))
    (can_row _ _ c.args.rows.now c.loop-row.row-index row _ c.loop-row-test.true c.row-item.is c.loop-row.invariant)

pub loop-row-preserved : goal.loop-row-preserved
loop-row-preserved g c =
    let row : ReportRow = c.row-item.result in
    row_built _ _ c.args.rows.now c.loop-row.row-index row c.loop-row.built.items c.push_codes.new.built.items c.loop-row-test.true c.row-item.is
    (subst (λ (ts : List Tramp). AddsCodes (g.C.Coding.is_code c.args.coding.now) (map (line_at row.number) ts) c.loop-row.built.items
    c.push_codes.new.built.items) (c.tramps.ensures ∙ tramps_told row.outcome) c.in_ok-push_codes.ensures) c.loop-row.invariant

pub returns : goal.returns
returns g c = all_built _ _ c.args.rows.now c.loop-row.row-index c.loop-row.built.items c.loop-row-test.false c.loop-row.invariant
