-- What `unpatch` does, and that it takes a patch back. Theorems cite it. s and t are what the desk shows before and after, k and l what the
-- sink shows.
use Rattle.std.specs.Prelude.{◌≡◌, ℕ, ◌≤◌, List, length, Some}
use Rattle.pun_base.specs.Shown.{Files, DeskState, SinkState, with_file}
use Rattle.pun_base.specs.declared.action.Action.{Action}
use Rattle.patch_report.specs.Values.{ReportValue}
use Rattle.commands.specs.Planned.{IsReversed}
use Rattle.command_words.specs.Words.{UnpatchNames}
use Rattle.command_io.specs.Inputs.{most, WhereTold, IsWithin}
use Rattle.command_io.specs.Writing.{Accepted, Answers, DoneIfFaultless, Writes}
use Rattle.command_io.specs.Verdict.{Patching, HoldsBytes}
use Rattle.patch_commands.specs.Answers.{IsDone, Patches}
use Rattle.patch_commands.specs.LoadAnswers.{Loads}
use Rattle.patch_commands.specs.ThreadsAnswers.{PatchesReported, LoadsThreads}
use Rattle.command_io.specs.ReportModes.{IsModedText}
use Rattle.command_io.specs.declared.report_mode.Mode.{Mode}
use Rattle.command_io.specs.declared.report_mode.Mode.TheVariants.{Plain, Threaded}
use Rattle.patch_commands.specs.UnpatchAnswers.{IsRestored, unpatch_writing}

-- PATCHED and REPORT hold texts that can be read: a file that can be loaded, and a report in this mode that undoes it as this original.
pub record HoldsPatch (m : Mode) (files : Files) (n : UnpatchNames) (orig : List ℕ) : Type 0 where
  pub patched : List ℕ
  pub text : List ℕ
  pub report : ReportValue
  pub held_patched : files n.patched ≡ Some patched
  pub held_report : files n.report ≡ Some text
  pub few_patched : length patched ≤ most
  pub few_report : length text ≤ most
  pub told : IsModedText text m report
  pub reversed : IsReversed orig patched report

-- The original comes back: the status is 0, and then NEW holds it and no other name changed; or a read, a write or the sink failed, or
-- memory ran out.
pub record ComesBack (n : UnpatchNames) (orig : List ℕ) (files : Files) (s t : DeskState) (k l : SinkState) (status : ℕ) : Type 0 where
  pub answer : Answers (unpatch_writing n) (Accepted orig) s t k l status
  pub faultless : DoneIfFaultless (unpatch_writing n) orig s t k l status
  pub given : IsRestored status → t.held ≡ Some (with_file files n.new orig)

-- What `unpatch` does, with its names.
pub record Unpatches (n : UnpatchNames) (s t : DeskState) (k l : SinkState) (status : ℕ) : Type 0 where
  pub writes : Writes (unpatch_writing n) s t k l status
  -- what was patched comes back
  pub back : WhereTold s (λ files. (orig : List ℕ) (m : Mode) → HoldsPatch m files n orig → ComesBack n orig files s t k l status)

-- After a command of this kind answered 0 or 1, OUT and REPORT hold such texts of FILE in this mode, where they are within the limit of a read.
abbrev pub IsReversedAfter : Mode → (Patching → DeskState → DeskState → SinkState → SinkState → ℕ → Type 0) → Type 0
IsReversedAfter m Does =
    (p : Patching) (files new : Files) (s t : DeskState) (k l : SinkState) (status : ℕ) (orig : List ℕ) → (p.names.out ≡ p.names.report → ⊥)
    → s.held ≡ Some files → HoldsBytes files p.names.file → files p.names.file ≡ Some orig → Does p s t k l status → IsDone status
    → t.held ≡ Some new → IsWithin new p.names.out → IsWithin new p.names.report
    → (n : UnpatchNames) → n.patched ≡ p.names.out → n.report ≡ p.names.report → HoldsPatch m new n orig

-- After `patch` they do.
abbrev pub PatchIsReversed : Type 0
PatchIsReversed = IsReversedAfter Plain Patches

-- After `load` they do.
abbrev pub LoadIsReversed : Type 0
LoadIsReversed = IsReversedAfter Plain Loads

-- After `threads` with a report they do.
abbrev pub ThreadsAreReversed : Type 0
ThreadsAreReversed = (action : Action) → IsReversedAfter Threaded (PatchesReported action)

-- After `threads` in the loader form they do.
abbrev pub LoadedThreadsAreReversed : Type 0
LoadedThreadsAreReversed = (action : Action) → IsReversedAfter Threaded (LoadsThreads action)
