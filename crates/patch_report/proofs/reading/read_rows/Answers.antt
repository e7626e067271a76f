use Rattle.std.proofs.Common.{◌≡◌, ◌++◌, ◌∷◌, [], map, ap, ◌∙◌}
use Rattle.std.proofs.lemmas.Result.{err_from_is_err_and}
use Rattle.std.proofs.lemmas.List.{map_push}
use Rattle.patch_report.specs.Reading.{rows_at}
use Rattle.patch_report.specs.Values.{row_value}
use Rattle.patch_report.specs.Views.{at_value}
use Rattle.patch_report.proofs.RowsSoFar.{goes_on, ends, is_done}
use Rattle.patch_report.proofs.reading.read_rows.Goals as goal

pub returns-in_err-row : goal.returns-in_err-row
returns-in_err-row c =
    let p = err_from_is_err_and c.from_residual.result c.from_residual.ensures.1 in
    rw (p.1, p.2) (ends c.args.version c.in_err-row.field-0.0 (map row_value c.loop-turn.rows) c.args.count c.loop-turn.turn
    (at_value c.loop-turn.later) (rows_at c.args.version c.args.count [] (at_value c.args.at)) c.loop-turn-test.true
    c.in_err-row.ensures.value c.loop-turn.invariant)

pub loop-turn-preserved : goal.loop-turn-preserved
loop-turn-preserved c =
    let r = c.in_ok-row.row in
    let e : map row_value c.push.new.self ≡ map row_value c.loop-turn.rows ++ row_value r ∷ [] = ap (map row_value) c.in_ok-push.ensures
    ∙ map_push _ c.loop-turn.rows r in
    rw e (goes_on c.args.version (map row_value c.loop-turn.rows) c.args.count c.loop-turn.turn (at_value c.loop-turn.later) (row_value r)
    (at_value c.in_ok-row.next) (rows_at c.args.version c.args.count [] (at_value c.args.at)) c.loop-turn-test.true
    c.in_ok-row.ensures.value c.loop-turn.invariant)

pub returns : goal.returns
returns c = is_done c.args.version (map row_value c.loop-turn.rows) c.args.count c.loop-turn.turn
    (at_value c.loop-turn.later) (rows_at c.args.version c.args.count [] (at_value c.args.at)) c.loop-turn-test.false c.loop-turn.invariant
