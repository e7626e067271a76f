use Rattle.commands.proofs.ReversedPlans.{frame_is_reversed, planned_is_told, planned_is_reversed, planned_loader_is_reversed}
use Rattle.commands.proofs.laws.planned_is_reversed.Goals as goal

pub returns-clause-frame : goal.returns-clause-frame
returns-clause-frame c = frame_is_reversed

pub returns-clause-told : goal.returns-clause-told
returns-clause-told c = planned_is_told

pub returns-clause-patch : goal.returns-clause-patch
returns-clause-patch c = planned_is_reversed

pub returns-clause-load : goal.returns-clause-load
returns-clause-load c = planned_loader_is_reversed
