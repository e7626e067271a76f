-- The lines of a text, and the texts of lines.
use Rattle.std.proofs.Common.{◌≡◌, inl, inr, ℕ, suc, ◌+◌, ◌<◌, true, false, List, [], ◌∷◌, ◌++◌, length, Option, Some, None, refl, ap, arith}
use Rattle.std.specs.List.{before_first, after_first}
use Rattle.std.proofs.lemmas.Bool.{and_parts, cases_Bool}
use Rattle.std.proofs.lemmas.Bool.Decides.{nat_tests}
use Rattle.hex.specs.Hex.{encode_lower}
use Rattle.list_text.specs.Lines.{is_line_feed}
use Rattle.cpu_state.specs.declared.script_regions.RegionBody.{RegionBody}
use Rattle.cpu_state.specs.declared.script_regions.RegionBody.TheVariants.{Zeros, Bytes}
use Rattle.cpu_state.specs.Script.{is_bounded, is_permission}
use Rattle.image_step.specs.declared.line.Line.{Line}
use Rattle.image_step.specs.declared.line.Line.TheVariants as line
use Rattle.image_step.specs.Answers.{onto_line, whole_lines}
use Rattle.image_step.specs.Grammar.{IsBodyOfBytes, LineHolds}
use Rattle.image_step.specs.Spelling.{address_word, hex16, line_text, name, permission, region_text}
use Rattle.image_step.proofs.Numbers.{encoded_above, number_above}
use Rattle.image_step.proofs.ReadBack.{name_plain, permission_plain}
use Rattle.image_step.proofs.Words.{Above, above_append, above_less, after_more, after_none, before_more, before_none}

-- ---- no line holds LF

low : (w : List ℕ) → Above 32 w → Above 10 w
low w a = above_less 10 32 w (omega arith) a

joined : (v w : List ℕ) → Above 32 v → Above 10 w → Above 10 (v ++ 32 ∷ w)
joined v w a b = above_append 10 v (32 ∷ w) (low v a) (omega arith, b)

prefixed : (a b c : ℕ) (w : List ℕ) → 10 < a → 10 < b → 10 < c → Above 10 w → Above 10 (a ∷ b ∷ c ∷ 32 ∷ w)
prefixed a b c w p q r h = (p, (q, (r, (omega arith, h))))

address_above : (a : Option ℕ) → Above 10 (address_word a)
address_above None = (omega arith, tt)
address_above (Some v) = low (hex16 v) (number_above v)

body_above : (lo perms : ℕ) (body : RegionBody) → is_permission perms ≡ true → IsBodyOfBytes body → Above 10 (region_text lo perms body)
body_above lo perms (Zeros n) p b = (
  omega arith,
  prefixed 101 114 111 _ (omega arith) (omega arith) (omega arith)
      (joined (hex16 lo) _ (number_above lo) (joined (hex16 (lo + n)) _ (number_above (lo + n)) (low (permission perms) (permission_plain perms p)))),
)
body_above lo perms (Bytes bs) p b = (
  omega arith,
  (
    omega arith,
    prefixed 116 101 115 _ (omega arith) (omega arith) (omega arith)
        (joined (hex16 lo) _ (number_above lo) (joined (permission perms) _ (permission_plain perms p) (low (encode_lower bs) (encoded_above bs b)))),
  ),
)

-- No character of a line is a line feed.
pub line_above : (x : Line) → LineHolds x → Above 10 (line_text x)
line_above line.Version h =
    (omega arith, (omega arith, (omega arith, (omega arith, (omega arith, (omega arith, (omega arith, (omega arith, (omega arith, tt)))))))))
line_above (line.Value k v) h = joined (name k) (hex16 v) (name_plain k h.fits) (low (hex16 v) (number_above v))
line_above (line.Region r) h =
    body_above r.lo r.perms r.body (and_parts (is_permission r.perms) (is_bounded r.lo r.body) h.fits).0 h.numbers.1
line_above (line.Ask q) h =
    prefixed 97 115 107 _ (omega arith) (omega arith) (omega arith) (joined (encode_lower q.bytes) (address_word q.addr) (encoded_above q.bytes h.numbers.0) (address_above q.addr))
line_above (line.Set k v) h =
    prefixed 115 101 116 _ (omega arith) (omega arith) (omega arith) (joined (name k) (hex16 v) (name_plain k h.fits) (low (hex16 v) (number_above v)))
line_above (line.Mem w) h =
    prefixed 109 101 109 _ (omega arith) (omega arith) (omega arith) (joined (hex16 w.addr) (encode_lower w.bytes) (number_above w.addr) (low (encode_lower w.bytes) (encoded_above w.bytes h.numbers.1)))
line_above line.End h = (omega arith, (omega arith, (omega arith, tt)))

-- ---- the lines of a text

not_feed : (c : ℕ) → 10 < c → is_line_feed c ≡ false
not_feed c h = grind (arith, nat_tests)

-- A line with LF behind it is the first one.
pub whole_first : (w rest : List ℕ) → Above 10 w → whole_lines (w ++ 10 ∷ rest) ≡ w ∷ whole_lines rest
whole_first [] rest a = refl
whole_first (c ∷ w) rest a = rw (not_feed c a.0) (ap (onto_line c) (whole_first w rest a.1))

-- Without LF there is no whole line.
pub whole_none : (text : List ℕ) → length (before_first is_line_feed text) ≡ length text → whole_lines text ≡ []
whole_none [] h = refl
whole_none (c ∷ cs) h = elim (cases_Bool (is_line_feed c)) [
  | inl feed ↦ absurd (let e : length (before_first is_line_feed (c ∷ cs)) ≡ 0 = ap (length {A = ℕ}) (before_none is_line_feed c cs feed) in omega arith)
  | inr other ↦
      let e : length (before_first is_line_feed (c ∷ cs)) ≡ suc (length (before_first is_line_feed cs)) = ap (length {A = ℕ}) (before_more is_line_feed c cs other) in
      rw other (ap (onto_line c) (whole_none cs (omega arith)))
]

-- With LF a text is its first line, LF, and what is behind.
pub first_cut : (text : List ℕ) → (length (before_first is_line_feed text) ≡ length text → ⊥)
    → (text ≡ before_first is_line_feed text ++ 10 ∷ after_first is_line_feed text)
first_cut [] h = absurd (h refl)
first_cut (c ∷ cs) h = elim (cases_Bool (is_line_feed c)) [
  | inl feed ↦
      let e : c ≡ 10 = grind (arith, nat_tests) in
      rw (before_none is_line_feed c cs feed) (rw (after_none is_line_feed c cs feed) (ap (λ (d : ℕ). d ∷ cs) e))
  | inr other ↦
      let e : length (before_first is_line_feed (c ∷ cs)) ≡ suc (length (before_first is_line_feed cs)) = ap (length {A = ℕ}) (before_more is_line_feed c cs other) in
      rw (before_more is_line_feed c cs other) (rw (after_more is_line_feed c cs other)
      (ap (λ (l : List ℕ). c ∷ l) (first_cut cs (λ g. h (omega arith)))))
]

-- The first line is above LF or holds what isn't: it is the first of the whole lines.
pub whole_cut : (text : List ℕ) → (length (before_first is_line_feed text) ≡ length text → ⊥)
    → whole_lines text ≡ before_first is_line_feed text ∷ whole_lines (after_first is_line_feed text)
whole_cut [] h = absurd (h refl)
whole_cut (c ∷ cs) h = elim (cases_Bool (is_line_feed c)) [
  | inl feed ↦ rw (before_none is_line_feed c cs feed) (rw (after_none is_line_feed c cs feed) (rw feed refl))
  | inr other ↦
      let e : length (before_first is_line_feed (c ∷ cs)) ≡ suc (length (before_first is_line_feed cs)) = ap (length {A = ℕ}) (before_more is_line_feed c cs other) in
      let ih = whole_cut cs (λ g. h (omega arith)) in
      rw (before_more is_line_feed c cs other) (rw (after_more is_line_feed c cs other) (rw other (ap (onto_line c) ih)))
]
