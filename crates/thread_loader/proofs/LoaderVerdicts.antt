-- An input is judged in one way at most, in the loader form for threads.
use Rattle.site_turns.specs.Modes.{thread_rules}
use Rattle.rewrite_core.specs.Laws.{AreJudgedOnce}
use Rattle.rewrite_loader.proofs.LoaderVerdicts.{loader_verdict_once}
use Rattle.guest_threads.specs.ThreadRewriting.{IsThreadJobFor, writing_of}
use Rattle.guest_threads.proofs.ThreadVerdicts.{job_once, job_turned}
use Rattle.thread_loader.specs.Rewriting.{Judges}

-- of two verdicts the first is the second
pub judged_once : AreJudgedOnce Judges
judged_once = loader_verdict_once IsThreadJobFor writing_of (λ q. thread_rules q.action) job_turned job_once
