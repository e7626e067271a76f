-- The first line with which no report agrees is one line.
use Rattle.std.proofs.Common.{◌≡◌, ℕ, zero, suc, ◌-◌, ◌<◌, ◌≤◌, Bool, true, false, List, [], ◌∷◌, ◌++◌, length, take, drop, Result, Ok, Err, refl, ap, sym, ◌∙◌, arith, append_assoc}
use Rattle.std.specs.Prelude.{nat_lt}
use Rattle.std.proofs.lemmas.Bool.Decides.{nat_tests}
use Rattle.std.proofs.lemmas.List.{take-append-drop}
use Rattle.patch_report.specs.declared.line.Line.{Line}
use Rattle.patch_report.specs.Values.{ReportValue}
use Rattle.patch_report.specs.Spelling.{lines_text, report_lines}
use Rattle.patch_report.specs.Grammar.{AgreesTo, IsFirstRefused}
use Rattle.patch_report.specs.Reading.{report_in}
use Rattle.patch_report.specs.Laws.{RefusalsAreFirst}
use Rattle.patch_report.proofs.PrintedLines.{lines_joined}
use Rattle.patch_report.proofs.ExactReading.{is_read, refused_first}

shorter_front : (m n : ℕ) (xs : List Line) → m ≤ n → take m (take n xs) ≡ take m xs
shorter_front zero n xs h = refl
shorter_front (suc m) zero xs h = absurd (omega arith)
shorter_front (suc m) (suc n) [] h = refl
shorter_front (suc m) (suc n) (x ∷ xs) h = ap (λ (l : List Line). x ∷ l) (shorter_front m n xs (omega arith))

-- What agrees with a text in lines agrees with it in fewer.
fewer : (m n : ℕ) (v : ReportValue) (text : List ℕ) → m ≤ n → AgreesTo n v text → AgreesTo m v text
fewer m n v text h a =
    let xs : List Line = take n (report_lines v) in
    let cut : xs ≡ take m (report_lines v) ++ drop m xs = sym (take-append-drop m xs)
    ∙ ap (λ (l : List Line). l ++ drop m xs) (shorter_front m n (report_lines v) h) in
    let e : n ≤ length (report_lines v) = a.enough in
    record {
      rest = lines_text (drop m xs) ++ a.rest;
      enough = omega arith;
      front = a.front ∙ (ap (λ (l : List Line). lines_text l ++ a.rest) cut
          ∙ (ap (λ (t : List ℕ). t ++ a.rest) (lines_joined (take m (report_lines v)) (drop m xs))
          ∙ append_assoc (lines_text (take m (report_lines v))) (lines_text (drop m xs)) a.rest));
    }

not_before : (m n : ℕ) (text : List ℕ) → IsFirstRefused m text → IsFirstRefused n text → m < n → ⊥
not_before m n text f g h = f.none g.least.0 g.least.1 (fewer m (n - 1) g.least.0 text (omega arith) g.least.2)

same : (m n : ℕ) (a b : Bool) → nat_lt m n ≡ a → nat_lt n m ≡ b → (m < n → ⊥) → (n < m → ⊥) → m ≡ n
same m n true b p q f g = absurd (f (let k : m < n = grind (arith, nat_tests) in k))
same m n false true p q f g = absurd (g (let k : n < m = grind (arith, nat_tests) in k))
same m n false false p q f g = grind (arith, nat_tests)

one_line : (m n : ℕ) (text : List ℕ) → IsFirstRefused m text → IsFirstRefused n text → m ≡ n
one_line m n text f g = same m n (nat_lt m n) (nat_lt n m) refl refl (not_before m n text f g) (not_before n m text g f)

first_refused : (text : List ℕ) (n : ℕ) (r : Result ReportValue ℕ) → report_in text ≡ r → IsFirstRefused n text → r ≡ Err n
first_refused text n (Ok v) e f = let k = is_read text v e in absurd (f.other v k.0 k.1)
first_refused text n (Err m) e f = ap (λ (p : ℕ). Err p) (one_line m n text (refused_first text m e) f)

-- A text is refused at a line exactly where it is no report's and that line is the first with which no report agrees.
pub refusals_are_first : RefusalsAreFirst
refusals_are_first text n = (refused_first text n, λ f. first_refused text n (report_in text) refl f)
