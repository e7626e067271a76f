use Rattle.start_list.specs.Turning.{view_of}
use Rattle.scheme_search.proofs.FirstChoice.{first_at}
use Rattle.scheme_succ.specs.Choices.{IsGood, pads_of, behind_order}
use Rattle.scheme_succ.proofs.choice.first_choice.Goals as goal

pub returns-in-Some : goal.returns-in-Some
returns-in-Some c =
    first_at pads_of behind_order (IsGood (view_of c.args.here.now.turn) c.args.here.now.site c.args.victim.now) c.loop-pads.pads
    c.in-Some.choice (λ d h. c.loop-pads.invariant d h) c.in-Some.ensures
