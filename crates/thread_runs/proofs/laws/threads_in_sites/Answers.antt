use Rattle.thread_runs.proofs.SiteEventsGoOn.{site_comes_in, site_goes_on, site_can_go_on, site_restores, site_marks}
use Rattle.thread_runs.proofs.SiteEventWrites.{site_writes}
use Rattle.thread_runs.proofs.laws.threads_in_sites.Goals as goal

pub returns-clause-comes : goal.returns-clause-comes
returns-clause-comes c = site_comes_in

pub returns-clause-goes : goal.returns-clause-goes
returns-clause-goes c = site_goes_on

pub returns-clause-can : goal.returns-clause-can
returns-clause-can c = site_can_go_on

pub returns-clause-restore : goal.returns-clause-restore
returns-clause-restore c = site_restores

pub returns-clause-mark : goal.returns-clause-mark
returns-clause-mark c = site_marks

pub returns-clause-writes : goal.returns-clause-writes
returns-clause-writes c = site_writes
