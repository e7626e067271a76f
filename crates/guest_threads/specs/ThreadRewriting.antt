-- What `rewrite_threads` and `rewrite_threads_reported` answer, and what they do to the desk. Theorems cite it.
use Rattle.std.specs.Prelude.{◌≡◌, ℕ, List, map, Result, Ok}
use Rattle.std.specs.List.{flat_map}
use Rattle.pun_base.specs.Memory.{Bytes}
use Rattle.pun_base.specs.Shown.{DeskState}
use Rattle.pun_base.specs.Desk.{Fills}
use Rattle.pun_base.specs.declared.action.Action.{Action}
use Rattle.address_space.specs.declared.extent.Extent.{Extent}
use Rattle.address_space.specs.Free.{extent_of}
use Rattle.page_group.specs.Grouping.{GroupsState}
use Rattle.elf_read.specs.Entries.{entry_of}
use Rattle.elf_read.specs.Image.{image_of}
use Rattle.elf_emit.specs.Job as written
use Rattle.elf_emit.specs.Layout.{layout}
use Rattle.patch_report.specs.Grammar.{IsReport}
use Rattle.patch_report.specs.Values.{RowValue, ReportValue, row_value, written as report_written}
use Rattle.start_entries.specs.Entries.{entries_of}
use Rattle.sound_images.specs.Reports.{row_lines}
use Rattle.site_turns.specs.Modes.{thread_rules}
use Rattle.site_turns.specs.PlannedState.{PlannedState}
use Rattle.site_turns.specs.Planning.{Request, Turns, end_under}
use Rattle.site_turns.specs.PlanLaws.{job_for, report_under, AreGroups}
use Rattle.rewrite_core.specs.Asked.{Asked}
use Rattle.rewrite_core.specs.declared.rewrite.RewriteError.{RewriteError}
use Rattle.rewrite_core.specs.Judging.{JudgesBy}
use Rattle.rewrite_core.specs.Rewrites.{RewritesBy}
use Rattle.rewrite_core.specs.Origins.{origin_of}
use Rattle.guest_threads.specs.declared.rewriting.ThreadReport.{ThreadReport}
use Rattle.guest_threads.specs.FromTurns.{site_of}
use Rattle.thread_runs.specs.Theorem.{AreFollowed, GetOut}
use Rattle.thread_runs.specs.TheoremWithDeliveries.{AreFollowedWith, GetOutWith}
use Rattle.thread_runs.specs.Building.{kind_of}
use Rattle.thread_runs.specs.Threading.{Threading, ring_of, IsThreadSound}
use Rattle.guest_threads.specs.ThreadPlanning.{IsThreadPlanned}

-- A job: what is to be written, the private range, a row for each site in turn order, and the
-- report of what is written.
pub record ThreadJob : Type 0 where
  pub emit : written.Job
  pub private : Extent
  pub rows : List RowValue
  pub report : ReportValue

-- The job of what was planned, with these groups of pages. Its report tells the private range, the
-- rows, the pages of the code, and what the original was.
abbrev pub job_of : Request → Turns → PlannedState → GroupsState → ThreadJob
job_of q turns planned groups = record {
  emit = job_for q planned groups;
  private = turns.private;
  rows = (end_under (thread_rules q.action) q turns).rows;
  report = report_written (report_under (thread_rules q.action) q turns groups) (origin_of q.file);
}

-- A job is the one of what the turns for threads give for a request, with the groups of the planned
-- code.
pub record IsThreadJobFor (q : Request) (j : ThreadJob) : Type 0 where
  pub turns : Turns
  pub planned : PlannedState
  pub groups : GroupsState
  pub is_planned : IsThreadPlanned q turns planned
  pub are_groups : AreGroups planned groups
  pub is : j ≡ job_of q turns planned groups

-- What is to be written of a job.
abbrev pub writing_of : ThreadJob → written.Job
writing_of j = j.emit

-- The written file of a job.
abbrev pub file_of : ThreadJob → List ℕ
file_of j = layout j.emit

-- What an input is judged to be: first its plan for threads, and then the table of the planned job's file.
abbrev pub Judges : Asked → Result ThreadJob RewriteError → Type 0
Judges a v = JudgesBy IsThreadJobFor writing_of a v

-- What was patched for threads, where the events are those of an action: the images of the original and of the
-- patched program, the listed entries of the starts, the sites of the rows, the private range, and how many slots a ring there has.
abbrev pub threading_on : Action → List ℕ → List ℕ → Bytes → Extent → List RowValue → Threading
threading_on action file starts patched private rows = record {
  original = image_of file;
  patched = patched;
  entry = entry_of file;
  listed = entries_of file starts;
  sites = flat_map (site_of action (entries_of file starts)) (flat_map row_lines rows);
  private = private.lo;
  ring = ring_of (kind_of action);
}

-- The same, where the patched program is a written file.
abbrev pub threading_for : Action → List ℕ → List ℕ → List ℕ → Extent → List RowValue → Threading
threading_for action file starts out private rows = threading_on action file starts (image_of out) private rows

-- The written file follows the original, for threads.
pub record IsFollowedInThreads (action : Action) (file starts patched : List ℕ) (private : Extent) (rows : List RowValue) : Type 0 where
  -- the written program starts where the original does
  pub entry : entry_of patched ≡ entry_of file
  -- what it loads is sound
  pub sound : IsThreadSound (threading_for action file starts patched private rows)
  -- in each run that meets the premises the threads run as the original's do, and each counter tells how often its site was run, or each byte
  -- whether it was, or a ring which sites claimed its slots last
  pub followed : AreFollowed (threading_for action file starts patched private rows)
  -- a thread that runs alone gets out of a trampoline
  pub out : GetOut (threading_for action file starts patched private rows)
  -- with deliveries to threads that stand outside, each run that meets the premises is followed and counted, too
  pub followed_with : AreFollowedWith (threading_for action file starts patched private rows)
  pub out_with : GetOutWith (threading_for action file starts patched private rows)

-- The answer is what was patched by a job, and the name holds the job's file, which follows the
-- original.
pub record IsRewritten (a : Asked) (name : List ℕ) (s t : DeskState) (report : ThreadReport)
    (j : ThreadJob) : Type 0 where
  pub private_is : extent_of report.private ≡ j.private
  pub rows_are : map row_value report.rows.items ≡ j.rows
  pub holds : Fills name (layout j.emit) s t (Ok tt)
  pub followed : IsFollowedInThreads a.action a.file a.starts (layout j.emit) j.private j.rows

-- What each answer of `rewrite_threads` says.
abbrev pub RewritesThreads : Asked → List ℕ → DeskState → DeskState → Result ThreadReport RewriteError → Type 0
RewritesThreads a name s t r = RewritesBy Judges file_of IsRewritten a name s t r

-- What a report tells of a job: the action, and the private range and the rows of the job. It is one that a text tells.
pub record TellsJob (action : Action) (job : ThreadJob) (report : ReportValue) : Type 0 where
  pub told : IsReport report
  pub action_is : report.body.action ≡ action
  pub private_is : report.body.private ≡ (job.private.lo, job.private.hi)
  pub rows_are : report.body.rows ≡ job.rows

-- The answer is the report of a job, and the name holds the job's file, which follows the original.
pub record IsReported (a : Asked) (name : List ℕ) (s t : DeskState) (report : ReportValue)
    (j : ThreadJob) : Type 0 where
  pub report_is : report ≡ j.report
  pub tells : TellsJob a.action j report
  pub holds : Fills name (layout j.emit) s t (Ok tt)
  pub followed : IsFollowedInThreads a.action a.file a.starts (layout j.emit) j.private j.rows

-- What each answer of `rewrite_threads_reported` says: a report tells what was written.
abbrev pub ReportsThreads : Asked → List ℕ → DeskState → DeskState → Result ReportValue RewriteError → Type 0
ReportsThreads a name s t r = RewritesBy Judges file_of IsReported a name s t r
