use Rattle.start_list.specs.Turning.{view_of}
use Rattle.scheme_search.proofs.FirstChoice.{first_at}
use Rattle.scheme_succ.specs.Choices.{IsGoodAt, victim_pads_of, pad_order}
use Rattle.scheme_succ.proofs.choice.with_pads.Goals as goal

pub returns-in-Some : goal.returns-in-Some
returns-in-Some c =
    first_at victim_pads_of pad_order (IsGoodAt (view_of c.args.here.now.turn) c.args.here.now.site c.args.victim.now c.args.pads)
    c.loop-victim_pads.victim_pads c.in-Some.choice (λ d h. c.loop-victim_pads.invariant d h) c.in-Some.ensures
