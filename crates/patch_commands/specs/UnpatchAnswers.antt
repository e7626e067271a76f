-- What `unpatch` reads, judges, writes, prints and promises. Theorems cite it.
use Rattle.std.specs.Prelude.{◌≡◌, ℕ, List, [], ◌∷◌, ◌++◌, length, Option, Some, None, option_map, Result, Ok, Err, codes}
use Rattle.std.specs.Fmt.{decimal}
use Rattle.pun_base.specs.Shown.{Files}
use Rattle.elf_read.specs.Refusals as files
use Rattle.elf_read.specs.declared.refusal.ElfError.{ElfError}
use Rattle.patch_report.specs.Values.{ReportValue}
use Rattle.patch_report.specs.declared.error.ReportError.{ReportError}
use Rattle.unpatch.specs.Refusals as undoing
use Rattle.unpatch.specs.Refusals.{Undoes}
use Rattle.unpatch.specs.declared.error.UnpatchError.{UnpatchError}
use Rattle.command_words.specs.Words.{UnpatchNames}
use Rattle.command_io.specs.Refusals.{BadReport, BadFile, Undo}
use Rattle.command_io.specs.Inputs.{Inputs}
use Rattle.command_io.specs.Writing.{Verdict, Refused, Accepted, Outputs, Writing, IsInputVerdict}
use Rattle.command_io.specs.ReportModes.{IsModedText, IsReadIn}
use Rattle.command_io.specs.declared.report_mode.Mode.{Mode}
use Rattle.command_io.specs.declared.ends.Input.TheVariants as input

-- PATCHED and REPORT are read in this order.
abbrev pub unpatch_inputs : UnpatchNames → Inputs
unpatch_inputs n = (input.Out, n.patched) ∷ (input.Report, n.report) ∷ []

-- The bytes that are given back are written as NEW.
abbrev pub unpatch_outputs : UnpatchNames → Outputs (List ℕ)
unpatch_outputs n = (n.new, λ bytes. bytes) ∷ []

-- ---- what is to be said of the texts

-- Of a file that can be loaded and a report, by the first refusal that holds of undoing them: without one the file is undone.
abbrev pub OfUndoing : List ℕ → ReportValue → Option UnpatchError → Verdict (List ℕ) → Type 0
OfUndoing patched report (Some error) v = v ≡ Refused (Undo error)
OfUndoing patched report None (Accepted bytes) = Undoes patched report bytes
OfUndoing patched report None other = ⊥

-- Of PATCHED, by the first refusal that holds of it as a written file, and a report.
abbrev pub OfPatched : List ℕ → ReportValue → Option ElfError → Verdict (List ℕ) → Type 0
OfPatched patched report (Some error) v = v ≡ Refused (BadFile input.Out error)
OfPatched patched report None v = OfUndoing patched report (undoing.refusal patched report) v

-- Of PATCHED, and of what REPORT is read as: a patch is undone alike in either mode.
abbrev pub OfReport : List ℕ → Result (Mode × ReportValue) ReportError → Verdict (List ℕ) → Type 0
OfReport patched (Err error) v = v ≡ Refused (BadReport error)
OfReport patched (Ok x) v = OfPatched patched x.1 (files.refusal 0x10000 patched) v

-- The texts are judged in this order: REPORT, PATCHED, and whether the one undoes the other.
abbrev pub OfBoth : List (List ℕ) → Verdict (List ℕ) → Type 0
OfBoth (patched ∷ report ∷ []) v = (r : Result (Mode × ReportValue) ReportError) × IsReadIn report r × OfReport patched r v
OfBoth other v = ⊥

-- ---- what is answered

-- The line that is printed, with the number of bytes that are given back.
unfoldable pub restored_text : ℕ → List ℕ
restored_text len = codes "restored " ++ (decimal len ++ codes "\n")

-- The status of a file that was undone.
abbrev pub IsRestored : ℕ → Type 0
IsRestored status = status ≡ 0

-- There are as many bytes as the report tells of the original.
abbrev pub HaveToldLength : List (List ℕ) → List ℕ → Type 0
HaveToldLength (patched ∷ report ∷ []) bytes =
    (m : Mode) × (v : ReportValue) × IsModedText report m v × (option_map (λ o. o.len) v.origin ≡ Some (length bytes))
HaveToldLength other bytes = ⊥

-- `unpatch`, with its names.
abbrev pub unpatch_writing : UnpatchNames → Writing (List ℕ)
unpatch_writing n = record {
  inputs = unpatch_inputs n;
  Judges = OfBoth;
  outputs = unpatch_outputs n;
  text = λ bytes. restored_text (length bytes);
  status = λ bytes. 0;
  IsOwn = IsRestored;
  Promises = HaveToldLength;
}

-- There is one verdict at most.
abbrev pub UnpatchHasOneVerdict : Type 0
UnpatchHasOneVerdict =
    (files : Files) (n : UnpatchNames) (v w : Verdict (List ℕ)) → IsInputVerdict (unpatch_writing n) files v
    → IsInputVerdict (unpatch_writing n) files w → v ≡ w
