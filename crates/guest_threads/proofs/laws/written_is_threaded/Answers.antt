use Rattle.guest_threads.proofs.LoadedThreadFiles.{thread_job_loads, written_is_threaded}
use Rattle.guest_threads.proofs.laws.written_is_threaded.Goals as goal

pub returns-clause-loads : goal.returns-clause-loads
returns-clause-loads c = thread_job_loads

pub returns-clause-followed : goal.returns-clause-followed
returns-clause-followed c = written_is_threaded
