use Rattle.std.proofs.Common.{Ok}
use Rattle.patch_commands.specs.declared.patching.Form.TheVariants.{WithStub, ForThreads, ForThreadsWithStub}
use Rattle.patch_commands.proofs.InEachForm.{in_form}
use Rattle.patch_commands.proofs.patch.rewrite_listed.Goals as goal

pub returns-in-Ok-rewrite_loader-clause-rewrites : goal.returns-in-Ok-rewrite_loader-clause-rewrites
returns-in-Ok-rewrite_loader-clause-rewrites g c =
    in_form c.args.given.now.form (WithStub c.in-WithStub.action) _ _ _ _ _ _ _ (Ok c.in-Ok-rewrite_loader.report) c.in-WithStub.is
    c.in-Ok-rewrite_loader.ensures.rewrites

pub returns-in-Ok-rewrite_threads_reported-clause-rewrites : goal.returns-in-Ok-rewrite_threads_reported-clause-rewrites
returns-in-Ok-rewrite_threads_reported-clause-rewrites g c =
    in_form c.args.given.now.form (ForThreads c.in-ForThreads.action) _ _ _ _ _ _ _ (Ok c.in-Ok-rewrite_threads_reported.report) c.in-ForThreads.is
    c.in-Ok-rewrite_threads_reported.ensures.rewrites

pub returns-in-Ok-rewrite_threads_loader-clause-rewrites : goal.returns-in-Ok-rewrite_threads_loader-clause-rewrites
returns-in-Ok-rewrite_threads_loader-clause-rewrites g c =
    in_form c.args.given.now.form (ForThreadsWithStub c.in-ForThreadsWithStub.action) _ _ _ _ _ _ _ (Ok c.in-Ok-rewrite_threads_loader.report)
    c.in-ForThreadsWithStub.is c.in-Ok-rewrite_threads_loader.ensures.rewrites
