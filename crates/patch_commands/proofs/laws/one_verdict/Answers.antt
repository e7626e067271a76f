use Rattle.command_io.specs.Verdict.{plain}
use Rattle.patch_commands.specs.LoadAnswers.{with_stub}
use Rattle.patch_commands.specs.ThreadsAnswers.{for_threads, for_threads_with_stub}
use Rattle.patch_commands.proofs.TextVerdicts.{one_plain, one_with_stub, one_for_threads, one_for_threads_with_stub, one_verdict}
use Rattle.patch_commands.proofs.ThreadRewritings.{one_threads_verdict}
use Rattle.patch_commands.proofs.UnpatchVerdicts.{one_unpatch_verdict}
use Rattle.patch_commands.proofs.laws.one_verdict.Goals as goal

pub returns-clause-patch : goal.returns-clause-patch
returns-clause-patch c = one_verdict plain (λ p. one_plain)

pub returns-clause-load : goal.returns-clause-load
returns-clause-load c = one_verdict with_stub (λ p. one_with_stub)

pub returns-clause-threads : goal.returns-clause-threads
returns-clause-threads c = one_threads_verdict

pub returns-clause-threads_reported : goal.returns-clause-threads_reported
returns-clause-threads_reported c action = one_verdict (for_threads action) (λ p. one_for_threads action)

pub returns-clause-threads_loaded : goal.returns-clause-threads_loaded
returns-clause-threads_loaded c action = one_verdict (for_threads_with_stub action) (λ p. one_for_threads_with_stub action)

pub returns-clause-unpatch : goal.returns-clause-unpatch
returns-clause-unpatch c = one_unpatch_verdict
