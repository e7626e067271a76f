use Rattle.std.proofs.Common.{◌+◌, ◌-◌, ◌<◌, ◌≤◌}
use Rattle.start_list.specs.Turning.{view_of}
use Rattle.scheme_near.specs.declared.choice.Choice.{Choice}
use Rattle.scheme_near.specs.Choices.{IsGood}
use Rattle.scheme_near.proofs.choice.first_choice.Given as goal

abbrev pub invariant-loop-entry : goal.invariant-loop-entry
invariant-loop-entry l = record {
  above : l.here.site.addr + l.here.site.len ≤ l.last + 1;
  below : (d : Choice) → IsGood (view_of l.here.turn) l.here.site d → l.last < d.victim.addr;
}

abbrev pub decreases-loop-entry : goal.decreases-loop-entry
decreases-loop-entry l = l.here.site.addr + 200 - l.last
