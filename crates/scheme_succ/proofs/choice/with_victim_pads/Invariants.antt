use Rattle.std.proofs.Common.{◌≤◌}
use Rattle.start_list.specs.Turning.{view_of}
use Rattle.scheme_succ.specs.declared.choice.Choice.{Choice}
use Rattle.scheme_succ.specs.Choices.{IsGoodBehind, IsMeetingOf}
use Rattle.scheme_succ.proofs.choice.with_victim_pads.Given as goal

abbrev pub invariant-loop-pad : goal.invariant-loop-pad
invariant-loop-pad l = record {
  none : (d : Choice) → IsGoodBehind (view_of l.here.turn) l.here.site l.victim l.pads l.victim_pads d → l.pad ≤ d.pad;
  meeting : IsMeetingOf (view_of l.here.turn) l.here.site l.victim l.pads l.victim_pads l.meeting.pad l.meeting;
}
