-- What was planned for a file and written, in either form and for threads or not, is undone by its report. Theorems cite it.
use Rattle.std.specs.Prelude.{◌≡◌, ℕ, ◌^◌, ◌<◌, ◌≤◌, List, length, map, None, Ok}
use Rattle.elf_read.specs.Refusals.{refusal}
use Rattle.page_group.specs.Grouping.{GroupsState}
use Rattle.elf_emit.specs.Job as jobs
use Rattle.elf_emit.specs.FrameLaws.{IsFrame}
use Rattle.elf_emit.specs.Frames as frames
use Rattle.elf_emit.specs.Layout.{count, layout}
use Rattle.patch_report.specs.Runs.{runs}
use Rattle.patch_report.specs.Values.{ReportValue, written}
use Rattle.site_turns.specs.PlannedState.{PlannedState}
use Rattle.site_turns.specs.Planning.{Request, Turns, IsPlanned}
use Rattle.site_turns.specs.PlanLaws.{IsAsked, job_for, AreGroups, planned_report}
use Rattle.rewrite_core.specs.Asked.{Asked, IsInOrder}
use Rattle.rewrite_core.specs.Judging.{Job, Judges}
use Rattle.rewrite_core.specs.Origins.{origin_of}
use Rattle.rewrite_core.specs.Rewrites.{file_of}
use Rattle.guest_threads.specs.ThreadRewriting as threads
use Rattle.guest_threads.specs.ThreadRewriting.{ThreadJob}
use Rattle.thread_loader.specs.Followed.{ThreadLoaderJob}
use Rattle.thread_loader.specs.Rewriting as thread_loader
use Rattle.loader_form.specs.LoaderState.{LoaderState}
use Rattle.loader_form.specs.Laid.{loader_frame}
use Rattle.loader_form.specs.Lay.{taken_after, run_count, IsLoader, laid_of}
use Rattle.unpatch.specs.Laws.{written_of, IsUndone, Tells}

-- A written file can be loaded, and its report undoes it.
pub record IsReversed (orig file : List ℕ) (report : ReportValue) : Type 0 where
  pub loads : refusal 0x10000 file ≡ None
  pub undone : IsUndone orig file report

-- Whatever stands behind the private range, of the file that is written for an original and the runs of a report that tells it.
abbrev pub FrameIsReversed : Type 0
FrameIsReversed =
    (f : jobs.Frame) (report : ReportValue) → IsFrame f → frames.count f ≤ 1024 → f.writes ≡ map written_of (runs report.body)
    → Tells f.orig report → IsReversed f.orig (frames.layout f) report

-- The report of what was planned for a file.
abbrev pub report_for : Request → Turns → GroupsState → ReportValue
report_for q t groups = written (planned_report q t groups) (origin_of q.file)

-- It tells what the file was, and its runs are over the file.
abbrev pub PlannedIsTold : Type 0
PlannedIsTold =
    (q : Request) (t : Turns) (p : PlannedState) (groups : GroupsState) → IsAsked q → IsPlanned q t p → Tells q.file (report_for q t groups)

-- As `patch` writes it.
abbrev pub PlannedIsReversed : Type 0
PlannedIsReversed =
    (q : Request) (t : Turns) (p : PlannedState) (groups : GroupsState) → IsAsked q → IsPlanned q t p → AreGroups p groups
    → length q.file < 2 ^ 63 → count (job_for q p groups) ≤ 1024
    → IsReversed q.file (layout (job_for q p groups)) (report_for q t groups)

-- As `load` does.
abbrev pub PlannedLoaderIsReversed : Type 0
PlannedLoaderIsReversed =
    (q : Request) (t : Turns) (p : PlannedState) (groups : GroupsState) (l : LoaderState) → IsAsked q → IsPlanned q t p → AreGroups p groups
    → length q.file < 2 ^ 63 → IsLoader (taken_after q.file q.reserves p) (run_count groups) l
    → frames.count (loader_frame (job_for q p groups) (laid_of l)) ≤ 1024
    → IsReversed q.file (frames.layout (loader_frame (job_for q p groups) (laid_of l))) (report_for q t groups)

-- Each job that an input is judged to be is undone by its report.
abbrev pub JudgedIsReversed : Type 0
JudgedIsReversed =
    (a : Asked) (job : Job) → IsInOrder a → length a.file < 2 ^ 63 → Judges a (Ok job) → IsReversed a.file (file_of job) job.report

-- Each job for threads that an input is judged to be is undone by its report.
abbrev pub JudgedThreadsAreReversed : Type 0
JudgedThreadsAreReversed =
    (a : Asked) (job : ThreadJob) → IsInOrder a → length a.file < 2 ^ 63 → threads.Judges a (Ok job)
    → IsReversed a.file (layout job.emit) job.report

-- So is each job for threads in the loader form.
abbrev pub JudgedThreadLoadersAreReversed : Type 0
JudgedThreadLoadersAreReversed =
    (a : Asked) (job : ThreadLoaderJob) → IsInOrder a → length a.file < 2 ^ 63 → thread_loader.Judges a (Ok job)
    → IsReversed a.file (thread_loader.file_of job) job.job.report
