-- What `rewrite_threads_loader` answers, and what it does to the desk. Theorems cite it.
use Rattle.std.specs.Prelude.{◌≡◌, ℕ, List, Result, Ok}
use Rattle.pun_base.specs.Shown.{DeskState}
use Rattle.pun_base.specs.Desk.{Fills}
use Rattle.patch_report.specs.Values.{ReportValue}
use Rattle.rewrite_core.specs.Asked.{Asked}
use Rattle.rewrite_loader.specs.declared.error.LoaderError.{LoaderError}
use Rattle.rewrite_loader.specs.Judging.{file_by, JudgesLoaderBy}
use Rattle.rewrite_loader.specs.Rewrites.{LoadsBy}
use Rattle.guest_threads.specs.ThreadRewriting.{IsThreadJobFor, writing_of, TellsJob}
use Rattle.thread_loader.specs.Followed.{ThreadLoaderJob, IsLoaderFollowedInThreads}

-- The written file of a job.
abbrev pub file_of : ThreadLoaderJob → List ℕ
file_of j = file_by writing_of j

-- What an input is judged to be: first its plan for threads, then where its stub is laid, and then the table of its file.
abbrev pub Judges : Asked → Result ThreadLoaderJob LoaderError → Type 0
Judges a v = JudgesLoaderBy IsThreadJobFor writing_of a v

-- The answer is the report of a job, and the name holds the job's file, which follows the original.
pub record IsReported (a : Asked) (name : List ℕ) (s t : DeskState) (report : ReportValue) (j : ThreadLoaderJob) : Type 0 where
  pub report_is : report ≡ j.job.report
  pub tells : TellsJob a.action j.job report
  pub holds : Fills name (file_of j) s t (Ok tt)
  pub followed : IsLoaderFollowedInThreads a.action a.file a.starts j

-- What each answer of `rewrite_threads_loader` says.
abbrev pub LoadsThreads : Asked → List ℕ → DeskState → DeskState → Result ReportValue LoaderError → Type 0
LoadsThreads a name s t r = LoadsBy Judges file_of IsReported a name s t r
