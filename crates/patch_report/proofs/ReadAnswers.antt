-- What `read` answers is what reading line by line gives.
use Rattle.std.proofs.Common.{◌≡◌, ℕ, true, false, List, Ok, Err, refl, ap, sym, ◌∙◌}
use Rattle.patch_report.specs.declared.error.ReportError.{ReportError}
use Rattle.patch_report.specs.declared.error.ReportError.TheVariants as errors
use Rattle.patch_report.specs.Values.{ReportValue}
use Rattle.patch_report.specs.Answers.{Fails, has_other_version, NamesOther, ReadsReport, ReadsReports}
use Rattle.patch_report.specs.Reading.{report_in}
use Rattle.patch_report.proofs.OtherVersions.{names_none, tells, told}
use Rattle.patch_report.proofs.ExactReading.{is_read, ok_err, ok_is, read_is, refused_first}

differ : false ≡ true → ⊥
differ e = absurd cc

-- A first line that isn't told to name another version names none.
untold : (text : List ℕ) → has_other_version text ≡ false → NamesOther text → ⊥
untold text b h = differ (sym b ∙ tells text h)

-- Another version is told at line 1.
pub another : (text : List ℕ) → has_other_version text ≡ true → ReadsReport {X = ReportValue} (λ r. r) text (Err (errors.BadVersion 1))
another text b = (told text b, refl)

-- A report's text names no other version.
pub not_another : (text : List ℕ) → has_other_version text ≡ true → ReadsReports {X = ReportValue} (λ r. r) text (Err (errors.BadVersion 1))
not_another text b v k t = differ (sym (names_none v) ∙ (ap has_other_version (sym t) ∙ b))

-- A refusal of the reading is the answer's.
pub refused : (e : ReportError) (text : List ℕ) → has_other_version text ≡ false → Fails e (report_in text)
    → ReadsReport {X = ReportValue} (λ r. r) text (Err e)
refused errors.Memory text b h = tt
refused (errors.BadVersion line) text b h = absurd h
refused (errors.BadReport line) text b h = (untold text b, refused_first text line h)

-- A report's text isn't refused.
pub not_refused : (e : ReportError) (text : List ℕ) → Fails e (report_in text) → ReadsReports {X = ReportValue} (λ r. r) text (Err e)
not_refused errors.Memory text h = λ v k t. tt
not_refused (errors.BadVersion line) text h = absurd h
not_refused (errors.BadReport line) text h = λ v k t. ok_err v line (sym (read_is text v k t) ∙ h)

-- What is read is the one report whose text it is.
pub one_report : (text : List ℕ) (w : ReportValue) → report_in text ≡ Ok w → ReadsReports {X = ReportValue} (λ r. r) text (Ok w)
one_report text w h v k t = ok_is w v (sym h ∙ read_is text v k t)

-- A report that is read is a right answer, where the first line names no other version.
pub whole_report : (text : List ℕ) (w : ReportValue) → has_other_version text ≡ false → report_in text ≡ Ok w
    → ReadsReport {X = ReportValue} (λ r. r) text (Ok w)
whole_report text w b h = let k = is_read text w h in (untold text b, k.0, k.1)
