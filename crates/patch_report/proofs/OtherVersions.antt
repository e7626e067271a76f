-- The first line names another version exactly where it is `e9report` and a decimal number other than 1 and 2.
use Rattle.std.proofs.Common.{◌≡◌, ℕ, ◌+◌, ◌<◌, ◌≤◌, Bool, true, false, not, ◌&&◌, ◌||◌, List, [], ◌∷◌, ◌++◌, length, Option, Some, None, refl, ap, sym, subst, ◌∙◌, arith, length-take}
use Rattle.std.specs.Prelude.{◌==◌, codes, nat_le}
use Rattle.std.specs.List.{after_first, before_first, list_all, position_or_len}
use Rattle.std.specs.Str.{bytes_eq}
use Rattle.std.proofs.lemmas.Bool.{and_parts, and_from, not-true}
use Rattle.std.proofs.lemmas.Bool.Decides.{nat_tests}
use Rattle.std.proofs.lemmas.List.{drop_all}
use Rattle.std.proofs.lemmas.Slice.Eq.{bytes_eq-Decides}
use Rattle.list_text.specs.Blanks.{is_blank, word, later_words}
use Rattle.list_text.specs.Lines.{is_line_feed}
use Rattle.patch_report.specs.declared.origin.Origin.{Origin}
use Rattle.patch_report.specs.Values.{ReportValue}
use Rattle.patch_report.specs.Spelling.{report_text}
use Rattle.patch_report.specs.Answers.{has_other_version, is_digit, is_numeral, names_other, NamesOther}
use Rattle.patch_report.specs.Laws.{VersionsAreNumbers}
use Rattle.list_text.proofs.WordParts.{before_is, both, IsOneLine, one_line}
use Rattle.patch_report.proofs.TextCuts.{cut_at, longer}

-- ---- what is told

-- Nothing stands behind the last word.
no_more : (xs : List ℕ) → (length (before_first is_blank xs) == length xs) ≡ true → later_words xs ≡ []
no_more xs h =
    let k = position_or_len is_blank xs in
    let e = length-take k xs in
    let l : length xs ≤ k + 1 = grind (arith, nat_tests) in
    drop_all (k + 1) xs l

more_words : (line : List ℕ) → is_numeral (later_words line) ≡ true → (length (before_first is_blank line) == length line) ≡ false
more_words line h = by (length (before_first is_blank line) == length line) refl
  where
    none : is_numeral [] ≡ true → ⊥
    none e = absurd cc

    by : (b : Bool) → (length (before_first is_blank line) == length line) ≡ b → b ≡ false
    by true e = absurd (none (subst (λ (t : List ℕ). is_numeral t ≡ true) (no_more line e) h))
    by false e = refl

same_text : (xs ys : List ℕ) → bytes_eq xs ys ≡ true → xs ≡ ys
same_text xs ys h = (bytes_eq-Decides xs ys).0 h

-- Where another version is told, the first line names it.
pub told : (text : List ℕ) → has_other_version text ≡ true → NamesOther text
told text h =
    let line : List ℕ = before_first is_line_feed text in
    let rest : List ℕ = after_first is_line_feed text in
    let a = and_parts (not (length line == length text)) (names_other line) h in
    let b = and_parts (bytes_eq (word line) (codes "e9report"))
    (is_numeral (later_words line) && (not (bytes_eq (later_words line) (codes "1")) && not (bytes_eq (later_words line) (codes "2")))) a.1
    in
    let c = and_parts (is_numeral (later_words line))
    (not (bytes_eq (later_words line) (codes "1")) && not (bytes_eq (later_words line) (codes "2"))) b.1 in
    let d = and_parts (not (bytes_eq (later_words line) (codes "1"))) (not (bytes_eq (later_words line) (codes "2"))) c.1 in
    let kind : word line ≡ codes "e9report" = same_text (word line) (codes "e9report") b.0 in
    let parts : line ≡ word line ++ 32 ∷ later_words line = cut_at 32 line (more_words line c.0) in
    record {
      digits = later_words line;
      rest = rest;
      numeral = c.0;
      other = differ (later_words line) (codes "1") (not-true (bytes_eq (later_words line) (codes "1")) d.0);
      later = differ (later_words line) (codes "2") (not-true (bytes_eq (later_words line) (codes "2")) d.1);
      front = cut_at 10 text (not-true (length line == length text) a.0) ∙ (ap (λ (l : List ℕ). l ++ 10 ∷ rest) parts
          ∙ ap (λ (w : List ℕ). (w ++ 32 ∷ later_words line) ++ 10 ∷ rest) kind);
    }
  where
    differ : (xs ys : List ℕ) → bytes_eq xs ys ≡ false → xs ≡ ys → ⊥
    differ xs ys h e = let k = (bytes_eq-Decides xs ys).1 e in absurd cc

-- ---- what tells it

digit_in_line : (c : ℕ) → is_digit c ≡ true → 10 < c
digit_in_line c h =
    let p = and_parts (nat_le 48 c) (nat_le c 57) h in
    grind (arith, nat_tests)

digits_in_line : (cs : List ℕ) → list_all is_digit cs ≡ true → IsOneLine cs
digits_in_line [] h = tt
digits_in_line (c ∷ cs) h = let p = and_parts (is_digit c) (list_all is_digit cs) h in (digit_in_line c p.0, digits_in_line cs p.1)

numeral_in_line : (ds : List ℕ) → is_numeral ds ≡ true → IsOneLine ds
numeral_in_line [] h = tt
numeral_in_line (c ∷ cs) h =
    let p = and_parts (is_digit c) (((length cs == 0) || not (c == 48)) && list_all is_digit cs) h in
    let q = and_parts ((length cs == 0) || not (c == 48)) (list_all is_digit cs) p.1 in
    (digit_in_line c p.0, digits_in_line cs q.1)

differs : (xs ys : List ℕ) (b : Bool) → bytes_eq xs ys ≡ b → (xs ≡ ys → ⊥) → not b ≡ true
differs xs ys true e f = absurd (f (same_text xs ys e))
differs xs ys false e f = refl

other_line : (ds : List ℕ) → is_numeral ds ≡ true → (ds ≡ codes "1" → ⊥) → (ds ≡ codes "2" → ⊥)
    → names_other (codes "e9report " ++ ds) ≡ true
other_line ds n f g =
    and_from (is_numeral ds) (not (bytes_eq ds (codes "1")) && not (bytes_eq ds (codes "2"))) n
    (and_from (not (bytes_eq ds (codes "1"))) (not (bytes_eq ds (codes "2"))) (differs ds (codes "1") (bytes_eq ds (codes "1")) refl f)
    (differs ds (codes "2") (bytes_eq ds (codes "2")) refl g))

-- Where the first line names another version, it is told.
pub tells : (text : List ℕ) → NamesOther text → has_other_version text ≡ true
tells text h =
    let line : List ℕ = codes "e9report " ++ h.digits in
    let one : IsOneLine line = both (codes "e9report ") h.digits (one_line (codes "e9report ") refl) (numeral_in_line h.digits h.numeral) in
    let whole : text ≡ line ++ 10 ∷ h.rest = h.front in
    let front : before_first is_line_feed (line ++ 10 ∷ h.rest) ≡ line = before_is 10 line h.rest one in
    let rest : has_other_version (line ++ 10 ∷ h.rest) ≡ true =
    tested line (line ++ 10 ∷ h.rest) (before_first is_line_feed (line ++ 10 ∷ h.rest)) front (longer line h.rest)
    (other_line h.digits h.numeral h.other h.later) in
    ap has_other_version whole ∙ rest
  where
    tested : (line text front : List ℕ) → front ≡ line → (length line == length text) ≡ false → names_other line ≡ true
        → (not (length front == length text) && names_other front) ≡ true
    tested line text front e l n =
        subst (λ (f : List ℕ). (not (length f == length text) && names_other f) ≡ true) (sym e)
        (and_from (not (length line == length text)) (names_other line) (ap not l) n)

-- Another version is told exactly where the first line is `e9report` and a decimal number other than 1 and 2.
pub versions_are_numbers : VersionsAreNumbers
versions_are_numbers text = (told text, tells text)

-- A test and a failed one fail.
and_false : (b : Bool) → (b && false) ≡ false
and_false true = refl
and_false false = refl

-- A report's text names no other version.
pub names_none : (v : ReportValue) → has_other_version (report_text v) ≡ false
names_none v = by v.origin
  where
    by : (o : Option Origin) → has_other_version (report_text (record { body = v.body; origin = o })) ≡ false
    by None = and_false _
    by (Some o) = and_false _
