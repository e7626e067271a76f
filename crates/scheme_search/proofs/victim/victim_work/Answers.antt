use Rattle.std.proofs.Common.{is_some, ap, ◌∙◌}
use Rattle.start_list.proofs.DisplacedWork.{displaced_has_work}
use Rattle.scheme_search.proofs.NeighbourEntries.{is_entry}
use Rattle.scheme_search.proofs.victim.victim_work.Goals as goal

pub work_size-requires-clause-spelled : goal.work_size-requires-clause-spelled
work_size-requires-clause-spelled c = (is_entry c.args.here.now c.args.victim.now c.requires.listed).spelled

pub work_size-requires-clause-some : goal.work_size-requires-clause-some
work_size-requires-clause-some c = (is_entry c.args.here.now c.args.victim.now c.requires.listed).some

pub unwrap-requires : goal.unwrap-requires
unwrap-requires c = ap is_some c.work_size.ensures.value ∙ displaced_has_work c.args.here.now.turn.threads c.args.victim.now c.requires.movable
