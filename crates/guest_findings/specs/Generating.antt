-- What the code of `gen` holds, as the specifications have it, and what its parts answer. Theorems cite it.
use Rattle.std.specs.Prelude.{◌≡◌, ◌↔◌, ℕ, ◌+◌, ◌<◌, ◌≤◌, Bool, true, false, List, [], ◌∷◌, ◌++◌, length, None, Ok, Err}
use Rattle.std.specs.List.Sorted.{IsStrictlyIncreasing}
use Rattle.pun_base.specs.declared.action.Action.TheVariants.{Count}
use Rattle.elf_read.specs.Entries.{segments}
use Rattle.elf_read.specs.Refusals.{refusal}
use Rattle.cpu_state.specs.Numbers.{loaded}
use Rattle.insn_form.specs.Machine.{Machine}
use Rattle.insn_form.specs.Runs.{last_of, nowhere}
use Rattle.insn_form.specs.Step.{Step}
use Rattle.start_entries.specs.declared.entry.StartEntry.{StartEntry}
use Rattle.start_entries.specs.Entries.{entries_of}
use Rattle.patch_report.specs.Values.{ReportValue}
use Rattle.image_step.specs.declared.runner.Runner.{Runner}
use Rattle.image_step.specs.Running.{Shows, machine_in}
use Rattle.image_runs.specs.Starting.{start_machine}
use Rattle.sound_images.specs.Cases.{case_of}
use Rattle.image_check.specs.Verdict.{IsVerdict}
use Rattle.rewrite_core.specs.declared.rewrite.RewriteError.{RewriteError}
use Rattle.rewrite_core.specs.Asked.{Asked}
use Rattle.rewrite_core.specs.Judging.{Job, HasStarts, Judges}
use Rattle.rewrite_core.specs.Rewrites.{file_of}
use Rattle.rewrite_core.specs.Followed.{IsFollowed}
use Rattle.guest_gen.specs.Instructions.{data_start}
use Rattle.guest_gen.specs.Views.{GuestParts}
use Rattle.guest_findings.specs.Tallies.{Tally, IsTally}
use Rattle.guest_findings.specs.Findings.{RunsUntil, counters, Findings, most_guest_steps, most_patched_steps}
use Rattle.guest_findings.specs.SeenAlike.{SeenAlike}
use Rattle.guest_findings.specs.declared.both_runs.Runs.{Runs}
use Rattle.guest_findings.specs.declared.guest_findings.Found.{Found}

-- ---- a guest

-- What is asked of its patching.
abbrev pub asked_of : GuestParts → Asked
asked_of g = record { file = g.file; starts = g.starts; sites = g.sites; action = Count; reserves = [] }

-- What lets it be patched and run: its lists ascend, with few sites, no start and no patching of it is refused, its patched
-- file is accepted, and its script has no regions.
pub record IsReady (g : GuestParts) : Type 0 where
  pub starts_ascend : IsStrictlyIncreasing g.starts
  pub sites_ascend : IsStrictlyIncreasing g.sites
  pub few_sites : length g.sites ≤ 250
  pub stands : HasStarts (asked_of g)
  pub unrefused : (error : RewriteError) → Judges (asked_of g) (Err error) → ⊥
  pub accepted : (job : Job) → Judges (asked_of g) (Ok job) → refusal 0x10000 (file_of job) ≡ None
  pub bare : g.script.regions ≡ []

-- The file and the report of what was asked.
pub record IsPatch (a : Asked) (out : List ℕ) (report : ReportValue) : Type 0 where
  pub job : Job
  pub judged : Judges a (Ok job)
  pub out_is : out ≡ file_of job
  pub report_is : report ≡ job.report
  pub followed : IsFollowed a.file a.starts out report

-- ---- runs

-- A runner shows one step more, or none leads on.
abbrev pub StepsOn : Runner → Machine → List Machine → Bool → Type 0
StepsOn r s ts true = (t : Machine) × Shows r s (ts ++ t ∷ [])
StepsOn r s ts false = Shows r s ts × ((t : Machine) → Step nowhere (last_of s ts) t → ⊥)

-- A runner stands behind so many steps from a first state, at the outside state of a number, or short of it.
pub record RanUntil (listed : List StartEntry) (number : ℕ) (first : Machine) (r : Runner) (steps : ℕ) : Type 0 where
  pub states : List Machine
  pub until : RunsUntil listed number most_patched_steps first states
  pub here : machine_in r ≡ last_of first states
  pub counted : steps ≡ length states

-- The same bytes stand in the page of data.
abbrev pub HaveSameData : Machine → Machine → Type 0
HaveSameData a b = (x : ℕ) → data_start ≤ x → x < data_start + 0x1000 → loaded a.mem x 1 ≡ loaded b.mem x 1

-- What is told of the runs of a guest and of its patched file, with this private range, is true.
pub record RanBoth (g : GuestParts) (out : List ℕ) (private : ℕ) (r : Runs) : Type 0 where
  pub original : Tally
  pub states : List Machine
  pub tallied : IsTally g.file g.starts g.script most_guest_steps original
  pub until : RunsUntil (entries_of g.file g.starts) original.outside most_patched_steps (start_machine out g.script) states
  pub steps : r.steps ≡ original.steps
  pub patched_steps : r.patched_steps ≡ length states
  pub events : r.events ≡ counters (last_of (start_machine out g.script) states) private (length g.sites)
  pub quiet : r.quiet ≡ original.quiet
  pub agree : (r.agree ≡ true) ↔ SeenAlike (last_of (start_machine out g.script) states) original.last

-- ---- all that is found

-- What is printed of it.
abbrev pub findings_of : Found → Findings
findings_of f = record {
  rows = f.report.body.rows;
  entries = f.entries;
  verdict = f.verdict;
  steps = f.runs.steps;
  patched_steps = f.runs.patched_steps;
  events = f.runs.events;
  quiet = f.runs.quiet;
  agree = f.runs.agree;
}

-- What is found is true of a guest.
pub record IsFound (g : GuestParts) (f : Found) : Type 0 where
  pub out : List ℕ
  pub patch : IsPatch (asked_of g) out f.report
  pub starts : f.starts ≡ length g.starts
  pub entries : f.entries ≡ length (segments out)
  pub verdict : IsVerdict (case_of g.file out (entries_of g.file g.starts) f.report.body) f.verdict
  pub runs : RanBoth g out f.report.body.private.0 f.runs
