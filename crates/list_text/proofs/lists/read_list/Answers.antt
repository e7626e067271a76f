use Rattle.std.proofs.Common.{arith, ◌<◌, length, refl}
use Rattle.std.specs.List.{before_first}
use Rattle.std.proofs.lemmas.Bool.Decides.{nat_tests}
use Rattle.std.proofs.lemmas.Result.{err_from_is_err_and}
use Rattle.list_text.specs.Lines.{is_line_feed}
use Rattle.list_text.proofs.JudgedLines.{loop_more, loop_stop, placed}
use Rattle.list_text.proofs.lists.read_list.Goals as goal

pub loop-rest-preserved : goal.loop-rest-preserved
loop-rest-preserved c =
    let some : 0 < length c.loop-rest.rest.now = grind (arith, nat_tests) in
    let line = before_first is_line_feed c.loop-rest.rest.now in
    let is = c.in_ok-number.ensures line c.read_first-number.ensures.number in
    let within = placed c.args.limit c.loop-rest.place c.in_ok-number.number c.loop-rest.before line is in
    record {
      place = omega (arith, within);
      rest = loop_more c.args.limit c.loop-rest.place c.in_ok-number.number c.loop-rest.before c.loop-rest.rest.now line _ _ _ _ c.loop-rest.invariant.rest some is refl c.read_first-number.ensures.later c.in_ok-push.ensures.items;
    }

pub returns-in_err-number-clause-refused : goal.returns-in_err-number-clause-refused
returns-in_err-number-clause-refused c =
    let some : 0 < length c.loop-rest.rest.now = grind (arith, nat_tests) in
    let line = before_first is_line_feed c.loop-rest.rest.now in
    let is = c.in_err-number.ensures line c.read_first-number.ensures.number in
    let stop = loop_stop c.args.limit c.loop-rest.place c.loop-rest.before c.args.text.now c.loop-rest.rest.now line _ _ c.loop-rest.invariant.rest some is refl in
    let p = err_from_is_err_and c.from_residual.result c.from_residual.ensures.1 in
    rw (p.1, p.2) stop
