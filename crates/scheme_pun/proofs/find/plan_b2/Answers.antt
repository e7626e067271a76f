use Rattle.std.proofs.Common.{◌≤◌, arith}
use Rattle.start_list.specs.Forms.{B2}
use Rattle.start_list.specs.Turning.{view_of}
use Rattle.scheme_pun.proofs.LeastPlacePlans.{b2_reaches, first_b2, b2_plan}
use Rattle.scheme_pun.proofs.find.plan_b2.Goals as goal

pub returns-then-here-gt-SHORT : goal.returns-then-here-gt-SHORT
returns-then-here-gt-SHORT c = λ d e a. let long = (b2_reaches (view_of c.args.here.now.turn) c.args.here.now.site d e a).0 in omega (arith, long)

pub returns-in-None : goal.returns-in-None
returns-in-None c = λ d e a. let r = (b2_reaches (view_of c.args.here.now.turn) c.args.here.now.site d e a).1 in c.in-None.ensures.least r.0 r.2

pub returns-in-Some : goal.returns-in-Some
returns-in-Some c =
    let v = view_of c.args.here.now.turn in
    let site = c.args.here.now.site in
    let t = c.in-Some.place in
    let l : c.args.here.now.site.len ≤ 4 = omega arith in
    (B2 t, first_b2 v site t c.args.here.now.stands.may l c.in-Some.ensures.least, b2_plan v site t c.padded_plan.result c.padded_plan.ensures)
