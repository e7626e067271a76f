-- Texts of reports of this version, the report that each tells, and what any text is read as. Theorems cite it.
use Rattle.std.specs.Prelude.{◌≡◌, ℕ, List, Result, Ok, Err}
use Rattle.patch_report.specs.Answers.{NamesOther}
use Rattle.patch_report.specs.Grammar.{IsFirstRefused, IsReport}
use Rattle.patch_report.specs.Spelling.{report_text}
use Rattle.patch_report.specs.Values.{ReportValue}
use Rattle.patch_report.specs.declared.error.ReportError.{ReportError}
use Rattle.patch_report.specs.declared.error.ReportError.TheVariants as errors

-- The text is that of this report.
pub record IsReportText (text : List ℕ) (v : ReportValue) : Type 0 where
  pub holds : IsReport v
  pub spelled : text ≡ report_text v
  pub own : NamesOther text → ⊥

-- What a text is read as: the report whose text it is, or why it is none's.
abbrev pub IsRead : List ℕ → Result ReportValue ReportError → Type 0
IsRead text (Ok report) = IsReportText text report
IsRead text (Err (errors.BadReport line)) = (NamesOther text → ⊥) × IsFirstRefused line text
IsRead text (Err (errors.BadVersion line)) = NamesOther text × (line ≡ 1)
IsRead text (Err errors.Memory) = ⊥
