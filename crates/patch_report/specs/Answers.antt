-- What `read` answers, seen by a view, and which first lines name another version. Theorems cite it.
use Rattle.std.specs.Prelude.{◌≡◌, ℕ, ◌==◌, Bool, true, false, not, ◌&&◌, ◌||◌, nat_le, List, [], ◌∷◌, ◌++◌, length, codes, Option, Some, None, Result, Ok, Err}
use Rattle.std.specs.List.{before_first, list_all}
use Rattle.std.specs.Str.{bytes_eq}
use Rattle.list_text.specs.Blanks.{word, later_words}
use Rattle.list_text.specs.Lines.{is_line_feed}
use Rattle.patch_report.specs.declared.error.ReportError.{ReportError}
use Rattle.patch_report.specs.declared.error.ReportError.TheVariants as errors
use Rattle.patch_report.specs.Values.{ReportValue}
use Rattle.patch_report.specs.Spelling.{report_text}
use Rattle.patch_report.specs.Grammar.{IsFirstRefused, IsReport}

-- The number by which a refusal is told, where it isn't want of memory.
abbrev pub number_of : ReportError → Option ℕ
number_of (errors.BadReport line) = Some 1
number_of (errors.BadVersion line) = Some 2
number_of errors.Memory = None

-- An error is the refusal of a reading, unless memory ran out.
abbrev pub Fails : {Y : Type 0} → ReportError → Result Y ℕ → Type 0
Fails errors.Memory reading = Unit {0}
Fails (errors.BadReport line) reading = reading ≡ Err line
Fails (errors.BadVersion line) reading = ⊥

-- What a function returned, seen by view, is what reading gives, unless memory ran out.
abbrev pub Gives : {X Y : Type 0} → (X → Y) → Result X ReportError → Result Y ℕ → Type 0
Gives view (Ok x) reading = reading ≡ Ok (view x)
Gives view (Err e) reading = Fails e reading

-- The same, where memory is the one error.
abbrev pub Shows : {X Y : Type 0} → (X → Y) → Result X ReportError → Y → Type 0
Shows view (Ok x) value = value ≡ view x
Shows view (Err errors.Memory) value = Unit {0}
Shows view (Err (errors.BadReport line)) value = ⊥
Shows view (Err (errors.BadVersion line)) value = ⊥

-- A decimal digit: 0 to 9 (48 to 57).
abbrev pub is_digit : ℕ → Bool
is_digit c = nat_le 48 c && nat_le c 57

-- A decimal number without zeros in front.
abbrev pub is_numeral : List ℕ → Bool
is_numeral [] = false
is_numeral (c ∷ cs) = is_digit c && (((length cs == 0) || not (c == 48)) && list_all is_digit cs)

-- A first line names another version: it has the word `e9report` and a decimal number other than 1
-- and 2.
abbrev pub names_other : List ℕ → Bool
names_other line =
    bytes_eq (word line) (codes "e9report")
    && (is_numeral (later_words line) && (not (bytes_eq (later_words line) (codes "1"))
    && not (bytes_eq (later_words line) (codes "2"))))

-- The first line ends with LF and names another version.
abbrev pub has_other_version : List ℕ → Bool
has_other_version text =
    not (length (before_first is_line_feed text) == length text)
    && names_other (before_first is_line_feed text)

-- The first line is `e9report` and a decimal number other than 1 and 2.
pub record NamesOther (text : List ℕ) : Type 0 where
  pub digits : List ℕ
  pub rest : List ℕ
  pub numeral : is_numeral digits ≡ true
  pub other : digits ≡ codes "1" → ⊥
  pub later : digits ≡ codes "2" → ⊥
  pub front : text ≡ codes "e9report " ++ (digits ++ 10 ∷ rest)

-- What `read` answers, seen by view: the report whose text it is, or the first line with which no
-- report agrees, or that the first line names another version.
abbrev pub ReadsReport : {X : Type 0} → (X → ReportValue) → List ℕ → Result X ReportError → Type 0
ReadsReport view text (Ok x) = (NamesOther text → ⊥) × IsReport (view x) × (text ≡ report_text (view x))
ReadsReport view text (Err errors.Memory) = Unit {0}
ReadsReport view text (Err (errors.BadVersion line)) = NamesOther text × (line ≡ 1)
ReadsReport view text (Err (errors.BadReport line)) = (NamesOther text → ⊥) × IsFirstRefused line text

-- The answer is this report, unless memory ran out.
abbrev pub IsReadAs : {X : Type 0} → (X → ReportValue) → ReportValue → Result X ReportError → Type 0
IsReadAs view v (Ok x) = view x ≡ v
IsReadAs view v (Err errors.Memory) = Unit {0}
IsReadAs view v (Err (errors.BadVersion line)) = ⊥
IsReadAs view v (Err (errors.BadReport line)) = ⊥

-- A text that is a report's is read as that report.
abbrev pub ReadsReports : {X : Type 0} → (X → ReportValue) → List ℕ → Result X ReportError → Type 0
ReadsReports view text result = (v : ReportValue) → IsReport v → text ≡ report_text v
    → IsReadAs view v result
