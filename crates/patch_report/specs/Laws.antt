-- What the definitions promise of lines and of reports. Theorems cite it.
use Rattle.std.specs.Prelude.{◌≡◌, ◌↔◌, ℕ, true, List, ◌∷◌, ◌++◌, Some, Ok, Err}
use Rattle.patch_report.specs.declared.line.Line.{Line}
use Rattle.patch_report.specs.Grammar.{IsFirstRefused, IsLine, IsReport}
use Rattle.patch_report.specs.Spelling.{line_text, report_text}
use Rattle.patch_report.specs.Values.{ReportValue}
use Rattle.patch_report.specs.Front.{line_front}
use Rattle.patch_report.specs.Reading.{report_in}
use Rattle.patch_report.specs.Answers.{has_other_version, NamesOther}

-- A line is read at the front of a text exactly where it may stand in a report and its text stands
-- there, with an LF (10) behind it.
abbrev pub LinesAreSpelled : Type 0
LinesAreSpelled = (text : List ℕ) (x : Line) (rest : List ℕ)
    → (line_front text ≡ Some (x, rest)) ↔ (IsLine x × (text ≡ line_text x ++ 10 ∷ rest))

-- A text is read as a report exactly where it is the text of that report.
abbrev pub ReportsAreExact : Type 0
ReportsAreExact = (text : List ℕ) (v : ReportValue) → (report_in text ≡ Ok v)
    ↔ (IsReport v × (text ≡ report_text v))

-- A text is refused at a line exactly where it is no report's and that line is the first with which
-- no report agrees.
abbrev pub RefusalsAreFirst : Type 0
RefusalsAreFirst = (text : List ℕ) (n : ℕ) → (report_in text ≡ Err n) ↔ IsFirstRefused n text

-- Another version is told exactly where the first line is `e9report` and a decimal number that is
-- neither 1 nor 2.
abbrev pub VersionsAreNumbers : Type 0
VersionsAreNumbers = (text : List ℕ) → (has_other_version text ≡ true) ↔ NamesOther text
