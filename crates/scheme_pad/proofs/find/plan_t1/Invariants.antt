use Rattle.start_list.specs.Turning.{view_of}
use Rattle.scheme_pad.proofs.FewestPadsPlans.{NoneBelow}
use Rattle.scheme_pad.proofs.find.plan_t1.Given as goal

abbrev pub invariant-loop-pads : goal.invariant-loop-pads
invariant-loop-pads l = NoneBelow (view_of l.here.turn) l.here.site l.pads
