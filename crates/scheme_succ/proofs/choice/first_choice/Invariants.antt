use Rattle.std.proofs.Common.{◌≤◌}
use Rattle.start_list.specs.Turning.{view_of}
use Rattle.scheme_succ.specs.declared.choice.Choice.{Choice}
use Rattle.scheme_succ.specs.Choices.{IsGood}
use Rattle.scheme_succ.proofs.choice.first_choice.Given as goal

abbrev pub invariant-loop-pads : goal.invariant-loop-pads
invariant-loop-pads l = (d : Choice) → IsGood (view_of l.here.turn) l.here.site l.victim d → l.pads ≤ d.pads
