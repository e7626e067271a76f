use Rattle.std.proofs.Common.{Some, None, subst}
use Rattle.std.specs.Slice.{IsItemAt}
use Rattle.thread_runs.proofs.ScheduledSteps.{shows_some, shows_none}
use Rattle.thread_runs.proofs.runner.ThreadRunner.thread.Goals as goal

pub returns-in-Some : goal.returns-in-Some
returns-in-Some c =
    let item = subst (λ ts. IsItemAt ts c.args.k (Some c.in-Some.thread)) c.deref.ensures.value c.in-Some.ensures.lookup in
    shows_some c.args.self.now.threads.items c.args.k c.in-Some.thread item

pub returns-in-None : goal.returns-in-None
returns-in-None c =
    let item = subst (λ ts. IsItemAt ts c.args.k None) c.deref.ensures.value c.in-None.ensures.lookup in
    shows_none c.args.self.now.threads.items c.args.k item
