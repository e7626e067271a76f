use Rattle.std.proofs.Common.{arith}
use Rattle.start_list.specs.Forms.{T1}
use Rattle.start_list.specs.Turning.{view_of}
use Rattle.scheme_pad.proofs.FewestPadsPlans.{first_padded, padded_is}
use Rattle.scheme_pad.proofs.find.plan_t1.Goals as goal

pub returns-in-Some : goal.returns-in-Some
returns-in-Some c =
    let v = view_of c.args.here.now.turn in
    let site = c.args.here.now.site in
    let p = c.loop-pads.pads in
    let t = c.in-Some.place in
    let first = first_padded v site p t c.args.here.now.stands.may (omega arith) (omega arith) (omega arith) c.loop-pads.invariant
    c.in-Some.ensures.least in
    (T1 p t, first, padded_is v site p t c.padded_plan.result c.padded_plan.ensures)
