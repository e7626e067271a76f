-- Reports with their modes: their texts, and what any text is read as. Theorems cite it.
use Rattle.std.specs.Prelude.{◌≡◌, ℕ, ◌+◌, ◌^◌, ◌<◌, List, [], ◌++◌, codes, Option, Some, None, Result, Ok, Err}
use Rattle.patch_report.specs.Grammar.{IsReport}
use Rattle.patch_report.specs.Spelling.{report_text}
use Rattle.patch_report.specs.Values.{ReportValue}
use Rattle.patch_report.specs.declared.error.ReportError.{ReportError}
use Rattle.patch_report.specs.declared.error.ReportError.TheVariants as errors
use Rattle.command_io.specs.ReportTexts.{IsRead}
use Rattle.command_io.specs.declared.report_mode.Mode.{Mode}
use Rattle.command_io.specs.declared.report_mode.Mode.TheVariants.{Plain, Threaded}

-- The line before a report's text that names its mode. The plain mode has none.
abbrev pub mode_text : Mode → List ℕ
mode_text Plain = []
mode_text Threaded = codes "mode threads\n"

-- The text is that of this report in this mode.
pub record IsModedText (text : List ℕ) (m : Mode) (v : ReportValue) : Type 0 where
  pub holds : IsReport v
  pub spelled : text ≡ mode_text m ++ report_text v

-- What stands after the line of the mode of threads, where a text begins with that line.
abbrev pub IsAfterModeLine : List ℕ → Option (List ℕ) → Type 0
IsAfterModeLine text (Some rest) = text ≡ mode_text Threaded ++ rest
IsAfterModeLine text None = (rest : List ℕ) → text ≡ mode_text Threaded ++ rest → ⊥

-- A text has this mode, and this is its report's text: that after the mode's line where the text begins with one, and the whole text
-- elsewhere.
abbrev pub HasMode : List ℕ → Mode → List ℕ → Type 0
HasMode text Threaded rest = IsAfterModeLine text (Some rest)
HasMode text Plain rest = (rest ≡ text) × IsAfterModeLine text None

-- The line of a whole text that is this line of its report's text: a mode's line comes before.
abbrev pub line_in : Mode → ℕ → ℕ
line_in Plain line = line
line_in Threaded line = line + 1

-- A refusal of a report's text as one of the whole text.
abbrev pub error_in : Mode → ReportError → ReportError
error_in m (errors.BadReport line) = errors.BadReport (line_in m line)
error_in m (errors.BadVersion line) = errors.BadVersion (line_in m line)
error_in m errors.Memory = errors.Memory

-- The text is none of a report in any mode: its report's text is refused so, and lines count from the first of the whole text.
pub record IsRefusedIn (text : List ℕ) (e : ReportError) : Type 0 where
  pub mode : Mode
  pub rest : List ℕ
  pub has : HasMode text mode rest
  pub error : ReportError
  pub refused : IsRead rest (Err error)
  pub counted : e ≡ error_in mode error

-- What a text is read as: the mode and the report whose text it is, or why it is none's.
abbrev pub IsReadIn : List ℕ → Result (Mode × ReportValue) ReportError → Type 0
IsReadIn text (Ok x) = IsModedText text x.0 x.1
IsReadIn text (Err e) = IsRefusedIn text e

-- What a reader may answer: what the text is read as, unless memory ran out.
abbrev pub ReadsIn : List ℕ → Result (Mode × ReportValue) ReportError → Type 0
ReadsIn text (Err errors.Memory) = Unit {0}
ReadsIn text r = IsReadIn text r

-- What was read as a report's text, as what the whole text in a mode is read as.
abbrev pub read_in : Mode → Result ReportValue ReportError → Result (Mode × ReportValue) ReportError
read_in m (Ok v) = Ok (m, v)
read_in m (Err e) = Err (error_in m e)

-- The line of a refusal isn't the greatest number of 32 bits.
abbrev pub HasNextLine : ReportError → Type 0
HasNextLine (errors.BadReport line) = line + 1 < 2 ^ 32
HasNextLine (errors.BadVersion line) = line + 1 < 2 ^ 32
HasNextLine errors.Memory = Unit {0}

-- A text is read as one thing.
abbrev pub OneModedReading : Type 0
OneModedReading = (text : List ℕ) (q r : Result (Mode × ReportValue) ReportError) → IsReadIn text q → IsReadIn text r → q ≡ r

-- A text that doesn't begin with a mode's line is read as a plain report's, and as nothing else.
abbrev pub PlainIsRead : Type 0
PlainIsRead = (text : List ℕ) (r : Result ReportValue ReportError) → IsAfterModeLine text None → IsRead text r → IsReadIn text (read_in Plain r)

-- One that does is read as the text after that line.
abbrev pub ThreadedIsRead : Type 0
ThreadedIsRead = (rest : List ℕ) (r : Result ReportValue ReportError) → IsRead rest r → IsReadIn (mode_text Threaded ++ rest) (read_in Threaded r)
