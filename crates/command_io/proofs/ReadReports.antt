-- A text is read as one thing.
use Rattle.std.proofs.Common.{◌≡◌, ℕ, inl, inr, Bool, true, false, List, Result, Ok, Err, sym, ap, ◌∙◌}
use Rattle.std.proofs.lemmas.Bool.{cases_Bool}
use Rattle.patch_report.specs.Answers as reports
use Rattle.patch_report.specs.Answers.{has_other_version}
use Rattle.patch_report.specs.Reading.{report_in}
use Rattle.patch_report.specs.Values.{ReportValue}
use Rattle.patch_report.specs.declared.error.ReportError.{ReportError}
use Rattle.patch_report.specs.declared.error.ReportError.TheVariants as errors
use Rattle.patch_report.proofs.ExactReading.{read_is}
use Rattle.patch_report.proofs.FirstRefusedLine.{refusals_are_first}
use Rattle.patch_report.proofs.OtherVersions.{versions_are_numbers}
use Rattle.command_io.specs.ReportTexts.{IsRead}

-- what a text is read as, by reading it line by line
abbrev reading : Bool → Result ReportValue ℕ → Result ReportValue ReportError
reading true x = Err (errors.BadVersion 1)
reading false (Ok v) = Ok v
reading false (Err line) = Err (errors.BadReport line)

-- a text that names no other version
same_version : (text : List ℕ) → (reports.NamesOther text → ⊥) → has_other_version text ≡ false
same_version text n = elim (cases_Bool (has_other_version text)) [
  | inl t ↦ absurd (n ((versions_are_numbers text).0 t))
  | inr f ↦ f
]

is_reading : (text : List ℕ) (r : Result ReportValue ReportError) → IsRead text r → r ≡ reading (has_other_version text) (report_in text)
is_reading text (Ok v) h =
    let a = same_version text h.own in
    let b = read_is text v h.holds h.spelled in
    sym (λ i. reading (a i) (b i))
is_reading text (Err (errors.BadReport line)) h =
    let a = same_version text h.0 in
    let b = (refusals_are_first text line).1 h.1 in
    sym (λ i. reading (a i) (b i))
is_reading text (Err (errors.BadVersion line)) h =
    let a = (versions_are_numbers text).1 h.0 in
    (λ i. Err (errors.BadVersion (h.1 i))) ∙ sym (ap (λ (b : Bool). reading b (report_in text)) a)
is_reading text (Err errors.Memory) h = absurd h

-- a text is read as one thing
pub one_reading : (text : List ℕ) (q r : Result ReportValue ReportError) → IsRead text q → IsRead text r → q ≡ r
one_reading text q r g h = is_reading text q g ∙ sym (is_reading text r h)
