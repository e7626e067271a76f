-- What `gen` finds of a guest: the outcomes of its sites, the verdict on its patched file, and the runs of both files. Theorems cite it.
use Rattle.std.specs.Prelude.{◌≡◌, ◌↔◌, ◌⊎◌, ℕ, zero, suc, ◌+◌, ◌*◌, ◌%◌, ◌^◌, ◌<◌, ◌≤◌, Bool, true, count_by, List, [], ◌∷◌, length, take, Ok, Err}
use Rattle.std.specs.Result.{result_unwrap_or}
use Rattle.pun_base.specs.declared.action.Action.TheVariants.{Count}
use Rattle.cpu_state.specs.declared.script.Script.{Script}
use Rattle.cpu_state.specs.Numbers.{loaded}
use Rattle.elf_emit.specs.Layout.{count}
use Rattle.insn_form.specs.Machine.{Machine}
use Rattle.insn_form.specs.Runs.{IsRun, last_of, nowhere}
use Rattle.insn_form.specs.Step.{Step}
use Rattle.start_entries.specs.Entries.{entries_of}
use Rattle.start_entries.specs.declared.entry.StartEntry.{StartEntry}
use Rattle.patch_report.specs.Values.{ReportValue, RowValue}
use Rattle.image_runs.specs.Listed.{is_start}
use Rattle.image_runs.specs.Starting.{start_machine}
use Rattle.sound_images.specs.Rules.{Case}
use Rattle.sound_images.specs.Rewriting.{Rewriting, shown}
use Rattle.sound_images.specs.Soundness.{rewriting_of}
use Rattle.sound_images.specs.Cases.{case_of}
use Rattle.image_check.specs.Verdict.{IsVerdict}
use Rattle.image_check.specs.declared.verdict.Verdict.{Verdict}
use Rattle.image_check.specs.declared.verdict.Verdict.TheVariants.{Yes}
use Rattle.rewrite_core.specs.declared.rewrite.RewriteError.{RewriteError}
use Rattle.rewrite_core.specs.Asked.{Asked}
use Rattle.rewrite_core.specs.Judging.{Job, Judges}
use Rattle.rewrite_core.specs.Rewrites.{file_of}
use Rattle.guest_gen.specs.Files.{guest_file}
use Rattle.guest_gen.specs.Texts.{guest_starts, guest_sites}
use Rattle.guest_gen.specs.Worlds.{AnswersRun, IsGuestScript}
use Rattle.guest_findings.specs.Tallies.{Tally, IsTally}
use Rattle.command_words.specs.Words.{most_blocks}

-- ---- what is asked of the patching

-- A guest is patched at all its sites, which are counted, and no range is reserved.
abbrev pub guest_asked : ℕ → ℕ → Asked
guest_asked seed blocks = record {
  file = guest_file seed blocks;
  starts = guest_starts seed blocks;
  sites = guest_sites seed blocks;
  action = Count;
  reserves = [];
}

-- The listed instructions of a guest.
abbrev pub guest_listed : ℕ → ℕ → List StartEntry
guest_listed seed blocks = entries_of (guest_file seed blocks) (guest_starts seed blocks)

-- A guest, a patched file of it and a report.
abbrev pub guest_case : ℕ → ℕ → List ℕ → ReportValue → Case
guest_case seed blocks out report =
    case_of (guest_file seed blocks) out (guest_listed seed blocks) report.body

-- What was rewritten of a guest in a job.
abbrev pub guest_rewriting : ℕ → ℕ → Job → Rewriting
guest_rewriting seed blocks job = rewriting_of (guest_case seed blocks (file_of job) job.report)

-- No guest is refused.
abbrev pub NoGuestIsRefused : Type 0
NoGuestIsRefused =
    (seed blocks : ℕ) → 1 ≤ blocks → blocks ≤ most_blocks → (error : RewriteError)
    → Judges (guest_asked seed blocks) (Err error) → ⊥

-- ---- the patched file's run

-- How many states stand at a listed start.
abbrev pub outside_count : List StartEntry → List Machine → ℕ
outside_count listed states = count_by (λ s. is_start listed s.rip) states

-- The states behind a first one, up to the first at which so many states have stood at a listed start, the first one
-- counted; or, where that isn't reached, until no step leads on, or until `most` steps were made.
pub record RunsUntil (listed : List StartEntry) (number most : ℕ) (first : Machine)
    (states : List Machine) : Type 0 where
  pub run : IsRun Step first states
  pub few : length states ≤ most
  pub before : (k : ℕ) → k < length states → outside_count listed (first ∷ take k states) < number
  pub ends : (number ≤ outside_count listed (first ∷ states))
      ⊎ ((length states ≡ most) ⊎ ((t : Machine) → Step nowhere (last_of first states) t → ⊥))

-- The counter of the site with a number from 0: eight bytes, 64 + 8 * number behind the first address of the private
-- range. One that can't be read counts as 0.
abbrev pub counter : Machine → ℕ → ℕ → ℕ
counter s private number = result_unwrap_or (loaded s.mem (private + 64 + 8 * number) 8) 0

-- The sum of the counters of so many sites, modulo 2^64.
abbrev pub counters : Machine → ℕ → ℕ → ℕ
counters s private zero = 0
counters s private (suc sites) = (counters s private sites + counter s private sites) % 2 ^ 64

-- ---- what is found

-- What is found of a guest.
pub record Findings : Type 0 where
  pub rows : List RowValue
  -- how many entries the table of the patched file has
  pub entries : ℕ
  pub verdict : Verdict
  -- the steps of the original and of the patched file, and the sum of the counters then
  pub steps : ℕ
  pub patched_steps : ℕ
  pub events : ℕ
  -- whether the original's run is quiet, and whether the last states look alike
  pub quiet : Bool
  pub agree : Bool

-- What is found of the patching: the job that the guest is judged to be, with its outcomes, the number of entries of its
-- table, and the verdict.
pub record IsPatchedSo (seed blocks : ℕ) (job : Job) (f : Findings) : Type 0 where
  pub judged : Judges (guest_asked seed blocks) (Ok job)
  pub rows : f.rows ≡ job.report.body.rows
  pub entries : f.entries ≡ count job.emit
  pub verdict : IsVerdict (guest_case seed blocks (file_of job) job.report) f.verdict

-- The most steps of a guest, and of its patched file: 24 for each of the guest's.
abbrev pub most_guest_steps : ℕ
most_guest_steps = 100000

-- The most steps of a guest's patched file.
abbrev pub most_patched_steps : ℕ
most_patched_steps = 24 * most_guest_steps

-- Both files run under a script: the original for at most 100,000 steps, and the patched one for at most 2,400,000,
-- until its outside state of the number that the original's last one has.
pub record AreRuns (seed blocks : ℕ) (out : List ℕ) (script : Script) (tally : Tally)
    (states : List Machine) : Type 0 where
  pub original : IsTally (guest_file seed blocks) (guest_starts seed blocks) script most_guest_steps tally
  pub patched : RunsUntil (guest_listed seed blocks) tally.outside most_patched_steps
      (start_machine out script) states

-- What is found of the runs under the guest's script: steps, counters, quietness, and whether the last states look alike.
pub record IsRunSo (seed blocks : ℕ) (job : Job) (f : Findings) : Type 0 where
  pub script : Script
  pub is_script : IsGuestScript script
  pub answers : AnswersRun most_guest_steps (guest_file seed blocks) script
  pub tally : Tally
  pub states : List Machine
  pub runs : AreRuns seed blocks (file_of job) script tally states
  pub last : Machine
  pub last_is : last ≡ last_of (start_machine (file_of job) script) states
  pub steps : f.steps ≡ tally.steps
  pub patched_steps : f.patched_steps ≡ length states
  pub events : f.events ≡ counters last job.report.body.private.0 (length (guest_sites seed blocks))
  pub quiet : f.quiet ≡ tally.quiet
  pub agree : (f.agree ≡ true)
      ↔ (shown (guest_rewriting seed blocks job) last
      ≡ shown (guest_rewriting seed blocks job) tally.last)

-- What is found is true of the guest of a seed. Two facts don't depend on how these runs went: the verdict is always yes,
-- and where the original's run is quiet the views agree.
pub record AreFindings (seed blocks : ℕ) (f : Findings) : Type 0 where
  pub job : Job
  pub patched : IsPatchedSo seed blocks job f
  pub ran : IsRunSo seed blocks job f
  pub sound : f.verdict ≡ Yes
  pub quiet_agree : f.quiet ≡ true → f.agree ≡ true
