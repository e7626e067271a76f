use Rattle.std.proofs.Common.{arith}
use Rattle.scheme_near.specs.Choices.{candidate}
use Rattle.scheme_near.proofs.ChosenPlans.{good_choice, first_of_all}
use Rattle.scheme_near.proofs.find.plan_t3.Goals as goal

pub returns-then-here-lt-SHORT_JUMP_LEN : goal.returns-then-here-lt-SHORT_JUMP_LEN
returns-then-here-lt-SHORT_JUMP_LEN c = λ d s a. let k = good_choice c.args.here.now d s a in let room =
    k.2.allowed.form.room in omega (arith, room)

pub returns-in-None : goal.returns-in-None
returns-in-None c = λ d s a. let k = good_choice c.args.here.now d s a in c.in-None.ensures k.0 k.2

pub returns-in-Some : goal.returns-in-Some
returns-in-Some c = (
  candidate c.in-Some.choice,
  first_of_all c.args.here.now c.in-Some.choice c.in-Some.ensures,
  c.near_plan.ensures,
)
