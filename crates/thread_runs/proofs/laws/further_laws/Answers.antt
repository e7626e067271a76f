use Rattle.thread_runs.proofs.RelocatedTouches.{worked_core, leads_told, not_locked_is, work_touches}
use Rattle.thread_runs.proofs.WorkTails.{work_long, tail_touches, tail_inside}
use Rattle.thread_runs.proofs.laws.further_laws.Goals as goal

pub returns-clause-core : goal.returns-clause-core
returns-clause-core c = worked_core

pub returns-clause-leads : goal.returns-clause-leads
returns-clause-leads c = leads_told

pub returns-clause-not_locked : goal.returns-clause-not_locked
returns-clause-not_locked c = not_locked_is

pub returns-clause-touches : goal.returns-clause-touches
returns-clause-touches c = work_touches

pub returns-clause-long : goal.returns-clause-long
returns-clause-long c = work_long

pub returns-clause-tail_touches : goal.returns-clause-tail_touches
returns-clause-tail_touches c = tail_touches

pub returns-clause-tail_inside : goal.returns-clause-tail_inside
returns-clause-tail_inside c = tail_inside
