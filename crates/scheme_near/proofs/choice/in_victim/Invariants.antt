use Rattle.std.proofs.Common.{◌≤◌}
use Rattle.start_list.specs.Turning.{view_of}
use Rattle.scheme_near.specs.declared.choice.Choice.{Choice}
use Rattle.scheme_near.specs.Choices.{IsGoodOf}
use Rattle.scheme_near.proofs.choice.in_victim.Given as goal

abbrev pub invariant-loop-offset : goal.invariant-loop-offset
invariant-loop-offset l = (d : Choice) → IsGoodOf (view_of l.here.turn) l.here.site l.victim d → l.offset ≤ d.offset
