-- How an input is judged: its job, or why it is refused. A kind of rewriting has jobs of its own: `Is` says which of them a request has, and
-- `writing` what is to be written of one. Theorems cite it.
use Rattle.std.specs.Prelude.{◌≡◌, ℕ, ◌<◌, ◌≤◌, Some, None, Result, Ok, Err}
use Rattle.page_group.specs.Grouping.{GroupsState}
use Rattle.elf_read.specs.Refusals.{refusal}
use Rattle.start_entries.specs.Refusals.{first_refusal}
use Rattle.elf_emit.specs.Job as written
use Rattle.elf_emit.specs.Layout.{count}
use Rattle.elf_emit.specs.declared.emit.EmitError.TheVariants as emit
use Rattle.patch_report.specs.Values.{ReportValue, written as report_written}
use Rattle.site_turns.specs.PlannedState.{PlannedState}
use Rattle.site_turns.specs.Planning.{Request, Turns, IsPlanned, IsRequestRefused}
use Rattle.site_turns.specs.PlanLaws.{job_for, planned_report, AreGroups}
use Rattle.site_turns.specs.declared.error.TurnError.TheVariants as turn
use Rattle.rewrite_core.specs.declared.rewrite.RewriteError.{RewriteError}
use Rattle.rewrite_core.specs.declared.rewrite.RewriteError.TheVariants as rewrite
use Rattle.rewrite_core.specs.Asked.{Asked, request_of}
use Rattle.rewrite_core.specs.Origins.{origin_of}

-- A job: what is to be written, and the report of it.
pub record Job : Type 0 where
  pub emit : written.Job
  pub report : ReportValue

-- The job of what was planned, with these groups of pages. Its report says what the original was.
abbrev pub job_of : Request → Turns → PlannedState → GroupsState → Job
job_of q turns planned groups = record {
  emit = job_for q planned groups;
  report = report_written (planned_report q turns groups) (origin_of q.file);
}

-- A job is the one of what the turns give for a request, with the groups of the planned code.
pub record IsJobFor (q : Request) (j : Job) : Type 0 where
  pub turns : Turns
  pub planned : PlannedState
  pub groups : GroupsState
  pub is_planned : IsPlanned q turns planned
  pub are_groups : AreGroups planned groups
  pub is : j ≡ job_of q turns planned groups

-- The file is accepted, and none of its starts is refused.
pub record HasStarts (a : Asked) : Type 0 where
  pub accepted : refusal 0x20000 a.file ≡ None
  pub none : first_refusal a.file a.starts ≡ None

-- The table of the written file would need this many entries, more than 1,024.
pub record NeedsTooMany {J : Type 0} (Is : Request → J → Type 0) (writing : J → written.Job) (q : Request) (n : ℕ) : Type 0 where
  pub job : J
  pub is_job : Is q job
  pub many : 1024 < count (writing job)
  pub told : n ≡ count (writing job)

-- The input is accepted as a job whose written file needs at most 1,024 entries of the table.
pub record IsAcceptedAs {J : Type 0} (Is : Request → J → Type 0) (writing : J → written.Job) (q : Request) (j : J) : Type 0 where
  pub is_job : Is q j
  pub few : count (writing j) ≤ 1024

-- Why the plan of an input is refused. The first rule that the file breaks comes first, then the
-- first start that is refused, then the least site that is no start, then that no private range is
-- left. Want of memory and faults of the desk are no reasons.
abbrev pub IsPlanRefused : Asked → RewriteError → Type 0
IsPlanRefused a (rewrite.Elf error) = refusal 0x20000 a.file ≡ Some error
IsPlanRefused a (rewrite.Start error) =
    (refusal 0x20000 a.file ≡ None) × (first_refusal a.file a.starts ≡ Some error)
IsPlanRefused a (rewrite.Turn turn.Memory) = ⊥
IsPlanRefused a (rewrite.Turn error) = HasStarts a × IsRequestRefused (request_of a) error
IsPlanRefused a other = ⊥

-- What an input is judged to be before the table of its file is: planned as a job, or refused.
abbrev pub JudgesPlanBy : {J : Type 0} → (Request → J → Type 0) → Asked → Result J RewriteError → Type 0
JudgesPlanBy Is a (Err error) = IsPlanRefused a error
JudgesPlanBy Is a (Ok job) = HasStarts a × Is (request_of a) job

-- What the table of a planned job's file is judged to be.
abbrev pub JudgesTable : {J : Type 0} → (J → written.Job) → J → Result J RewriteError → Type 0
JudgesTable writing job (Err (rewrite.Emit (emit.TooManySegments n))) =
    (1024 < count (writing job)) × (n ≡ count (writing job))
JudgesTable writing job (Err other) = ⊥
JudgesTable writing job (Ok other) = (other ≡ job) × (count (writing job) ≤ 1024)

-- What an input is judged to be: first its plan, and then the table of the planned job's file.
abbrev pub JudgesBy : {J : Type 0} → (Request → J → Type 0) → (J → written.Job) → Asked → Result J RewriteError → Type 0
JudgesBy Is writing a (Err (rewrite.Emit (emit.TooManySegments n))) =
    HasStarts a × NeedsTooMany Is writing (request_of a) n
JudgesBy Is writing a (Err error) = IsPlanRefused a error
JudgesBy Is writing a (Ok job) = HasStarts a × IsAcceptedAs Is writing (request_of a) job

-- What is to be written of a job of `rewrite`.
abbrev pub writing_of : Job → written.Job
writing_of j = j.emit

-- A job, or why there is none.
abbrev pub Judged : Type 0
Judged = Result Job RewriteError

-- What an input of `rewrite` is judged to be before the table of its file is.
abbrev pub JudgesPlan : Asked → Judged → Type 0
JudgesPlan a v = JudgesPlanBy IsJobFor a v

-- What an input of `rewrite` is judged to be.
abbrev pub Judges : Asked → Judged → Type 0
Judges a v = JudgesBy IsJobFor writing_of a v
