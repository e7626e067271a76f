-- What follows from what was planned: the rules give one plan at most, a report tells it, and its file can be written. Theorems cite it.
use Rattle.std.specs.Prelude.{◌≡◌, ℕ, ◌^◌, ◌<◌, ◌≤◌, ◌%◌, List, length, map, slice_index, None}
use Rattle.std.specs.List.{AllByRecursion, flat_map}
use Rattle.pun_base.specs.Actions.{IsAction}
use Rattle.pun_base.specs.declared.plan.Write.{Write}
use Rattle.pun_base.specs.Outcomes.{outcome_writes}
use Rattle.elf_read.specs.Entries.{entry_of}
use Rattle.elf_read.specs.Image.{image_of}
use Rattle.elf_read.specs.Refusals.{refusal}
use Rattle.page_group.specs.Pages.{AreDisjoint}
use Rattle.page_group.specs.Grouping.{GroupsState, IsGrouping, pages}
use Rattle.elf_emit.specs.Emits as emit
use Rattle.elf_emit.specs.Emits.{range_of, emit_job, AreBacked, HoldNothing}
use Rattle.elf_emit.specs.Job.{Job}
use Rattle.elf_emit.specs.Layout.{count, layout}
use Rattle.elf_emit.specs.Views.{piece_of}
use Rattle.elf_emit.specs.Laws.{IsJob, Shows}
use Rattle.pun_base.specs.Memory.{Bytes}
use Rattle.pun_base.specs.Limits.{most_sites}
use Rattle.patch_report.specs.declared.row.ReportRow.{ReportRow}
use Rattle.patch_report.specs.declared.origin.Version.TheVariants.{Two}
use Rattle.patch_report.specs.Values.{BodyValue}
use Rattle.patch_report.specs.Grammar.{IsBody, AscendFrom}
use Rattle.start_entries.specs.Laws.{IsBuilt}
use Rattle.sound_images.specs.Rules.{Case, IsSound}
use Rattle.sound_images.specs.Soundness as soundness
use Rattle.site_turns.specs.PlannedState.{PlannedState}
use Rattle.site_turns.specs.States.{report_of}
use Rattle.site_turns.specs.Loaded.{case_of}
use Rattle.site_turns.specs.Modes.{TurnRules, event_rules}
use Rattle.site_turns.specs.Planning.{Request, Turns, scene_in, end_of, scene_under, end_under, AreTurns, IsPlanned}

-- What is asked for: a file of bytes, accepted as an original, the listed entries of its starts,
-- and at most 65,536 sites.
pub record IsAsked (q : Request) : Type 0 where
  pub bytes : (k : ℕ) → slice_index q.file k < 256
  pub accepted : refusal 0x20000 q.file ≡ None
  pub built : IsBuilt q.file q.listed
  pub few : length q.sites ≤ most_sites

-- The rules give one course of turns at most.
abbrev pub TurnsAreOne : Type 0
TurnsAreOne = (q : Request) (t u : Turns) → IsAsked q → AreTurns q t → AreTurns q u → t ≡ u

-- Two plans by the same turns have the same code at the same places.
abbrev pub CodesAreOne : Type 0
CodesAreOne =
    (q : Request) (t : Turns) (p r : PlannedState) → IsAsked q → IsPlanned q t p → IsPlanned q t r
    → map piece_of p.built ≡ map piece_of r.built

-- A page that a report can tell.
pub record IsReportPage (page : ℕ × ℕ) : Type 0 where
  pub whole : page.0 % 4096 ≡ 0
  pub low : page.0 < 0x7FFF0000
  pub group : page.1 < 2 ^ 32

-- With any pages that ascend, what was planned is what a report of version 2 tells, where the
-- action can be asked for.
abbrev pub PlannedIsReport : Type 0
PlannedIsReport =
    (q : Request) (t : Turns) (p : PlannedState) (pages : List (ℕ × ℕ)) → IsAsked q
    → IsAction q.action → IsPlanned q t p → AllByRecursion IsReportPage pages → AscendFrom 0 pages
    → IsBody Two (report_of (scene_in q t) (end_of q t) pages)

-- The writes of rows, in their order.
abbrev pub writes_of : List ReportRow → List Write
writes_of rows = flat_map (λ r. outcome_writes r.outcome) rows

-- The job of writing what was planned, with these groups.
abbrev pub job_for : Request → PlannedState → GroupsState → Job
job_for q p groups =
    emit_job q.file (writes_of p.rows) p.built groups p.private.lo p.private.hi

-- The groups are a grouping of the pages of the planned code.
abbrev pub AreGroups : PlannedState → GroupsState → Type 0
AreGroups p groups =
    (groups.pieces ≡ map range_of p.built) × IsGrouping groups.pieces groups.homes

-- What was planned meets what writing asks.
pub record CanBeWritten (q : Request) (p : PlannedState) : Type 0 where
  pub backed : AreBacked q.file (writes_of p.rows)
  pub disjoint : AreDisjoint (map range_of p.built)
  pub private : emit.IsPrivate p.private.lo p.private.hi
  pub free : (groups : GroupsState) → AreGroups p groups
      → AllByRecursion (emit.IsFree p.private.lo p.private.hi) (pages groups.homes)
  pub nothing : (groups : GroupsState) → AreGroups p groups → HoldNothing (job_for q p groups)

-- Whatever was planned meets what writing asks.
abbrev pub PlannedCanBeWritten : Type 0
PlannedCanBeWritten =
    (q : Request) (t : Turns) (p : PlannedState) → IsAsked q → IsPlanned q t p → CanBeWritten q p

-- What was planned is a job of writing, where the file is short enough to be held in memory.
abbrev pub PlannedIsJob : Type 0
PlannedIsJob =
    (q : Request) (t : Turns) (p : PlannedState) (groups : GroupsState) → IsAsked q
    → IsPlanned q t p → AreGroups p groups → length q.file < 2 ^ 63 → IsJob (job_for q p groups)

-- The report of what turns by these rules have done, with the pages of the code.
abbrev pub report_under : TurnRules → Request → Turns → GroupsState → BodyValue
report_under r q t groups = report_of (scene_under r q t) (end_under r q t) groups.homes

-- The report of what was planned, with the pages of the code.
abbrev pub planned_report : Request → Turns → GroupsState → BodyValue
planned_report q t groups = report_under (event_rules q.action) q t groups

-- The case of a map that shows what was planned, beside the original and the report.
abbrev pub shown_case : Request → Turns → PlannedState → GroupsState → Bytes → Case
shown_case q t p groups m =
    case_of (scene_in q t) (end_of q t) groups.homes m (entry_of q.file)

-- A map that shows what was planned is a sound image, and runs as the original does from the
-- original's entry point.
pub record IsShownWell (q : Request) (t : Turns) (p : PlannedState) (groups : GroupsState)
    (m : Bytes) : Type 0 where
  pub report : IsBody Two (planned_report q t groups)
  pub sound : IsSound (shown_case q t p groups m)
  pub followed : soundness.IsCaseFollowed (shown_case q t p groups m)

-- Whatever map shows the job of what was planned is sound and runs as the original does, where the
-- action can be asked for.
abbrev pub PlannedIsShownWell : Type 0
PlannedIsShownWell =
    (q : Request) (t : Turns) (p : PlannedState) (groups : GroupsState) (m : Bytes) → IsAsked q
    → IsAction q.action → IsPlanned q t p → AreGroups p groups → IsJob (job_for q p groups)
    → Shows (job_for q p groups) m → IsShownWell q t p groups m

-- The written file begins where the original does, and its image is sound and runs as the original
-- does.
pub record IsWrittenWell (q : Request) (t : Turns) (p : PlannedState)
    (groups : GroupsState) : Type 0 where
  pub entry : entry_of (layout (job_for q p groups)) ≡ entry_of q.file
  pub shown : IsShownWell q t p groups (image_of (layout (job_for q p groups)))

-- The file that is written for what was planned is sound and runs as the original does, where the
-- action can be asked for and the program header table has at most 1,024 entries.
abbrev pub PlannedIsWrittenWell : Type 0
PlannedIsWrittenWell =
    (q : Request) (t : Turns) (p : PlannedState) (groups : GroupsState) → IsAsked q
    → IsAction q.action → IsPlanned q t p → AreGroups p groups → IsJob (job_for q p groups)
    → count (job_for q p groups) ≤ 1024
    → IsWrittenWell q t p groups
