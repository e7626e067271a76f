use Rattle.std.proofs.Common.{◌≤◌}
use Rattle.start_list.specs.Turning.{view_of}
use Rattle.scheme_succ.specs.declared.choice.Choice.{Choice}
use Rattle.scheme_succ.specs.Choices.{IsGoodAt}
use Rattle.scheme_succ.proofs.choice.with_pads.Given as goal

abbrev pub invariant-loop-victim_pads : goal.invariant-loop-victim_pads
invariant-loop-victim_pads l = (d : Choice) → IsGoodAt (view_of l.here.turn) l.here.site l.victim l.pads d → l.victim_pads ≤ d.victim_pads
