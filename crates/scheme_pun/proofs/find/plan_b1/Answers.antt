use Rattle.std.proofs.Common.{◌≤◌, arith}
use Rattle.start_list.specs.Forms.{B1}
use Rattle.start_list.specs.Turning.{view_of}
use Rattle.scheme_pun.proofs.LeastPlacePlans.{b1_reaches, first_b1, b1_plan}
use Rattle.scheme_pun.proofs.find.plan_b1.Goals as goal

pub returns-then-here-le-SHORT : goal.returns-then-here-le-SHORT
returns-then-here-le-SHORT c = λ d e a. let long = (b1_reaches (view_of c.args.here.now.turn) c.args.here.now.site d e a).0 in omega (arith, long)

pub returns-in-None : goal.returns-in-None
returns-in-None c = λ d e a. let r = (b1_reaches (view_of c.args.here.now.turn) c.args.here.now.site d e a).1 in c.in-None.ensures.least r.0 r.2

pub returns-in-Some : goal.returns-in-Some
returns-in-Some c =
    let v = view_of c.args.here.now.turn in
    let site = c.args.here.now.site in
    let t = c.in-Some.place in
    let l : 5 ≤ c.args.here.now.site.len = omega arith in
    (B1 t, first_b1 v site t c.args.here.now.stands.may l c.in-Some.ensures.least, b1_plan v site t c.padded_plan.result c.padded_plan.ensures)
