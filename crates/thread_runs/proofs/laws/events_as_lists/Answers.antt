use Rattle.thread_runs.proofs.ThreadListCode.{are_thread_lists}
use Rattle.thread_runs.proofs.RestoredRegisters.{all_restore}
use Rattle.thread_runs.proofs.MarkedEvents.{marks_where_met}
use Rattle.thread_runs.proofs.RestoredRings.{rings_restore}
use Rattle.thread_runs.proofs.laws.events_as_lists.Goals as goal

pub returns-clause-codes : goal.returns-clause-codes
returns-clause-codes c = are_thread_lists

pub returns-clause-restore : goal.returns-clause-restore
returns-clause-restore c = all_restore

pub returns-clause-mark : goal.returns-clause-mark
returns-clause-mark c = marks_where_met

pub returns-clause-ring : goal.returns-clause-ring
returns-clause-ring c = rings_restore
