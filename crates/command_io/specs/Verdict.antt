-- What is to be said of the texts of FILE, STARTS and SITES. Theorems cite it.
use Rattle.std.specs.Prelude.{◌≡◌, ℕ, ◌<◌, List, [], ◌∷◌, ◌++◌, map, slice_index, Some, Result, Ok, Err}
use Rattle.pun_base.specs.Shown.{Files}
use Rattle.pun_base.specs.declared.action.Action.{Action}
use Rattle.pun_base.specs.declared.range.Range.{Range}
use Rattle.pun_base.specs.Ranges.{ends}
use Rattle.pun_base.specs.Limits.{most_sites}
use Rattle.list_text.specs.declared.refusal.ListError.{ListError}
use Rattle.list_text.specs.Lists.{list_of}
use Rattle.patch_report.specs.Values.{ReportValue}
use Rattle.patch_report.specs.Spelling.{report_text}
use Rattle.rewrite_core.specs.Asked.{Asked}
use Rattle.rewrite_core.specs.Judging.{Job, Judges}
use Rattle.rewrite_core.specs.Rewrites.{file_of}
use Rattle.rewrite_core.specs.Followed.{IsFollowed}
use Rattle.command_words.specs.Words.{Names}
use Rattle.command_io.specs.Refusals.{Refusal, BadList, Rewrite}
use Rattle.command_io.specs.Writing.{Verdict, Refused, Accepted}
use Rattle.command_io.specs.ReportModes.{mode_text}
use Rattle.command_io.specs.declared.ends.Input.TheVariants as input
use Rattle.command_io.specs.declared.report_mode.Mode.{Mode}
use Rattle.command_io.specs.declared.report_mode.Mode.TheVariants.{Plain}

-- The starts that the text of STARTS lists, on at most 4,194,304 lines.
abbrev pub starts_of : List ℕ → Result (List ℕ) ListError
starts_of text = list_of 4194304 text

-- The sites that the text of SITES lists, on at most 65,536 lines.
abbrev pub sites_of : List ℕ → Result (List ℕ) ListError
sites_of text = list_of most_sites text

-- What `patch` is given: names, what each event does, and the ranges in which no new code stands,
-- each by its ends.
pub record Patching : Type 0 where
  pub names : Names
  pub action : Action
  pub reserves : List (ℕ × ℕ)

-- A patch with these names, this action and these ranges.
abbrev pub patching : Names → Action → List (ℕ × ℕ) → Patching
patching n action reserves = record { names = n; action = action; reserves = reserves }

-- What is asked of a rewriting with these ranges, this file and these lists.
abbrev pub asked : Action → List Range → (file starts sites : List ℕ) → Asked
asked action reserves file starts sites = record
    { file = file; starts = starts; sites = sites; action = action; reserves = reserves }

-- A form of the patched file.
pub record Form (J : Type 0) : Type 1 where
  -- what is to be said of what is asked of a rewriting
  pub Judged : Asked → Verdict J → Type 0
  -- what OUT holds of a job, and what REPORT tells in which mode
  pub file : J → List ℕ
  pub mode : Mode
  pub report : J → ReportValue
  -- what is promised of FILE's bytes, the addresses of STARTS and the job
  pub Follows : List ℕ → List ℕ → J → Type 0

-- The text of REPORT for a job.
abbrev pub reported_text : {J : Type 0} → Form J → J → List ℕ
reported_text f job = mode_text f.mode ++ report_text (f.report job)

-- The verdict is what a rewriting is judged to be, where each of its errors is told as a refusal.
abbrev pub IsJudgedAs : {J E : Type 0} → (E → Refusal) → (Asked → Result J E → Type 0) → Asked → Verdict J → Type 0
IsJudgedAs told Judges a (Accepted job) = Judges a (Ok job)
IsJudgedAs {E = E} told Judges a (Refused r) = (error : E) × (r ≡ told error) × Judges a (Err error)
IsJudgedAs told Judges a other = ⊥

-- The form of `patch`: the table of the patched file loads each page for code, and the file follows the original.
abbrev pub plain : Form Job
plain = record {
  Judged = IsJudgedAs Rewrite Judges;
  file = file_of;
  mode = Plain;
  report = λ job. job.report;
  Follows = λ file starts job. IsFollowed file starts (file_of job) job.report;
}

-- What a command that rewrites FILE does besides reading and writing: what each event does, the ranges in which no new code stands,
-- each by its ends, and what is to be said of what is asked of its rewriting.
pub record Rewriting (J : Type 0) : Type 1 where
  pub action : Action
  pub reserves : List (ℕ × ℕ)
  pub Judged : Asked → Verdict J → Type 0

-- Patching in a form.
abbrev pub rewriting_in : {J : Type 0} → Form J → Patching → Rewriting J
rewriting_in f p = record { action = p.action; reserves = p.reserves; Judged = f.Judged }

-- What a rewriting is judged to be, with ranges of the ends that are given.
abbrev pub OfRewriting : {J : Type 0} → Rewriting J → (file starts sites : List ℕ) → Verdict J → Type 0
OfRewriting w file starts sites v =
    (reserves : List Range) × (map ends reserves ≡ w.reserves)
    × w.Judged (asked w.action reserves file starts sites) v

-- The lists are judged before the file, STARTS before SITES.
abbrev pub OfLists : {J : Type 0} → Rewriting J → List ℕ → Result (List ℕ) ListError → Result (List ℕ) ListError
    → Verdict J → Type 0
OfLists w file (Err error) sites v = v ≡ Refused (BadList input.Starts error)
OfLists w file (Ok starts) (Err error) v = v ≡ Refused (BadList input.Sites error)
OfLists w file (Ok starts) (Ok sites) v = OfRewriting w file starts sites v

-- The verdict of the texts of the three inputs.
abbrev pub OfTexts : {J : Type 0} → Rewriting J → List (List ℕ) → Verdict J → Type 0
OfTexts w (file ∷ starts ∷ sites ∷ []) v = OfLists w file (starts_of starts) (sites_of sites) v
OfTexts w other v = ⊥

-- What the name holds is bytes, where it is held.
abbrev pub HoldsBytes : Files → List ℕ → Type 0
HoldsBytes files name = (file : List ℕ) → files name ≡ Some file → (k : ℕ) → slice_index file k < 256
