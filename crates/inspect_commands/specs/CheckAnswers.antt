-- What `check` refuses, what it accepts, and what it answers then. Theorems cite it.
use Rattle.std.specs.Prelude.{◌≡◌, ℕ, ◌^◌, ◌⊎◌, nat_lt, if◌then◌else◌, List, [], ◌∷◌, ◌++◌, Option, Some, None, option_map, Result, Ok, Err, codes}
use Rattle.std.specs.Option.{option_or}
use Rattle.std.specs.Fmt.{decimal}
use Rattle.pun_base.specs.Shown.{Files, DeskState, SinkState}
use Rattle.elf_read.specs.Refusals.{refusal}
use Rattle.list_text.specs.declared.refusal.ListError.{ListError}
use Rattle.start_entries.specs.Entries.{entries_of}
use Rattle.start_entries.specs.Refusals.{first_refusal}
use Rattle.patch_report.specs.Spelling.{hex8, report_text}
use Rattle.patch_report.specs.Values.{ReportValue}
use Rattle.patch_report.specs.declared.error.ReportError.{ReportError}
use Rattle.image_step.specs.Spelling.{hex16}
use Rattle.sound_images.specs.Rules.{Case}
use Rattle.sound_images.specs.Soundness.{IsCaseFollowed}
use Rattle.sound_images.specs.Cases.{case_of}
use Rattle.image_check.specs.Verdict.{IsVerdict}
use Rattle.image_check.specs.declared.verdict.Verdict.{Verdict}
use Rattle.image_check.specs.declared.verdict.Verdict.TheVariants.{Yes, No}
use Rattle.thread_check.specs.ThreadSoundness.{IsThreadCaseFollowed}
use Rattle.thread_check.specs.ThreadVerdict.{IsThreadVerdict}
use Rattle.command_words.specs.Words.{CheckNames}
use Rattle.command_io.specs.Refusals.{Refusal, BadList, BadReport, BadFile, BadStart}
use Rattle.command_io.specs.Verdict.{starts_of}
use Rattle.command_io.specs.Inputs.{Inputs}
use Rattle.command_io.specs.Inspecting.{Accepting, Refusing, Telling, Inspects}
use Rattle.command_io.specs.declared.ends.Input.TheVariants as input
use Rattle.command_io.specs.declared.report_mode.Mode.{Mode}
use Rattle.command_io.specs.declared.report_mode.Mode.TheVariants.{Plain, Threaded}
use Rattle.command_io.specs.ReportModes.{mode_text, IsModedText, IsReadIn}

-- FILE, OUT, STARTS and REPORT are read in this order.
abbrev pub check_inputs : CheckNames → Inputs
check_inputs n = (input.File, n.file) ∷ (input.Out, n.out) ∷ (input.Starts, n.starts) ∷ (input.Report, n.report) ∷ []

-- The first refusal of FILE, of OUT, and of a list in FILE, if there is one.
abbrev pub files_refusal : (file out list : List ℕ) → Option Refusal
files_refusal file out list =
    option_or (option_map (BadFile input.File) (refusal 0x20000 file))
    (option_or (option_map (BadFile input.Out) (refusal 0x10000 out)) (option_map BadStart (first_refusal file list)))

-- Texts that are accepted: a list, a report in a mode, an original whose starts can be listed, and a written file.
pub record AreChecked (file out starts report list : List ℕ) (m : Mode) (v : ReportValue) : Type 0 where
  pub starts_are : starts_of starts ≡ Ok list
  pub report_is : IsModedText report m v
  pub not_refused : files_refusal file out list ≡ None

-- The texts that `check` accepts.
abbrev pub CheckAccepts : Accepting
CheckAccepts (file ∷ out ∷ starts ∷ report ∷ []) =
    (list : List ℕ) × ((m : Mode) × ((v : ReportValue) × AreChecked file out starts report list m v))
CheckAccepts other = ⊥

-- Refused by what REPORT is read as.
abbrev pub OfReport : (file out list : List ℕ) → Result (Mode × ReportValue) ReportError → Refusal → Type 0
OfReport file out list (Err error) r = r ≡ BadReport error
OfReport file out list (Ok x) r = files_refusal file out list ≡ Some r

-- Refused by what STARTS is read as.
abbrev pub OfStarts : (file out report : List ℕ) → Result (List ℕ) ListError → Refusal → Type 0
OfStarts file out report (Err error) r = r ≡ BadList input.Starts error
OfStarts file out report (Ok list) r =
    (x : Result (Mode × ReportValue) ReportError) × IsReadIn report x × OfReport file out list x r

-- The texts that `check` refuses, and how. They are judged in this order: STARTS, REPORT, FILE, OUT, and the starts in FILE.
abbrev pub CheckRefuses : Refusing
CheckRefuses (file ∷ out ∷ starts ∷ report ∷ []) r = OfStarts file out report (starts_of starts) r
CheckRefuses other r = ⊥

-- An address of eight hexadecimal digits, or of sixteen where eight are too few.
abbrev pub address_text : ℕ → List ℕ
address_text addr = if nat_lt addr (2 ^ 32) then hex8 addr else hex16 addr

-- The line that `check` prints.
abbrev pub verdict_text : Verdict → List ℕ
verdict_text Yes = codes "check yes\n"
verdict_text (No addr rule) = codes "check no " ++ (address_text addr ++ (32 ∷ (decimal rule ++ (10 ∷ []))))

-- The status of the verdict.
abbrev pub verdict_status : Verdict → ℕ
verdict_status Yes = 0
verdict_status (No addr rule) = 7

-- A verdict is true of a case, by the rules of the report's mode.
abbrev pub IsVerdictIn : Mode → Case → Verdict → Type 0
IsVerdictIn Plain c v = IsVerdict c v
IsVerdictIn Threaded c v = IsThreadVerdict c v

-- The headline of the report's mode: the patched image follows the original, alone or with threads.
abbrev pub IsFollowedIn : Mode → Case → Type 0
IsFollowedIn Plain c = IsCaseFollowed c
IsFollowedIn Threaded c = IsThreadCaseFollowed c

-- What is answered of accepted texts: the verdict, and with status 0 the headline.
pub record TellsVerdict (file out starts report text : List ℕ) (status : ℕ) : Type 0 where
  pub list : List ℕ
  pub mode : Mode
  pub value : ReportValue
  pub verdict : Verdict
  pub accepted : AreChecked file out starts report list mode value
  pub judged : IsVerdictIn mode (case_of file out (entries_of file list) value.body) verdict
  pub followed : status ≡ 0 → IsFollowedIn mode (case_of file out (entries_of file list) value.body)
  pub told : text ≡ verdict_text verdict
  pub answered : status ≡ verdict_status verdict

-- What `check` tells of the texts of its inputs.
abbrev pub CheckTells : Telling
CheckTells (file ∷ out ∷ starts ∷ report ∷ []) text status = TellsVerdict file out starts report text status
CheckTells other text status = ⊥

-- 0 where the verdict is yes, 7 where it is no.
abbrev pub IsCheckStatus : ℕ → Type 0
IsCheckStatus status = (status ≡ 0) ⊎ (status ≡ 7)

-- The headline of the mode that REPORT has, for what stands under the names.
abbrev pub HeldFollowed : CheckNames → Files → Type 0
HeldFollowed n files =
    (file out starts report : List ℕ) → files n.file ≡ Some file → files n.out ≡ Some out → files n.starts ≡ Some starts
    → files n.report ≡ Some report
    → (list : List ℕ) × ((m : Mode) × ((v : ReportValue) × ((starts_of starts ≡ Ok list) × (report ≡ mode_text m ++ report_text v)
    × IsFollowedIn m (case_of file out (entries_of file list) v.body))))

-- What `check` does, with these names.
pub record Checks (n : CheckNames) (s t : DeskState) (k l : SinkState) (status : ℕ) : Type 0 where
  pub inspects : Inspects (check_inputs n) CheckAccepts CheckRefuses CheckTells IsCheckStatus s t k l status
  pub followed : (files : Files) → s.held ≡ Some files → status ≡ 0 → HeldFollowed n files
