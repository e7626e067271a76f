-- A first line of eight hexadecimal digits, read by a table of the digits' values.
use Rattle.std.proofs.Common.{◌-◌, take, drop, length-drop, ◌≡◌, ℕ, ◌+◌, ◌*◌, ◌<◌, ◌≤◌, List, [], ◌∷◌, ◌++◌, map, get_or, length, Some, false, refl, sym, ap, ◌∙◌, subst, arith}
use Rattle.std.specs.Prelude.{◌==◌, ◌&&◌}
use Rattle.std.specs.List.{AllByRecursion, range_with_len, before_first, after_first}
use Rattle.std.proofs.Math.Seq.{drop-cons, take-length}
use Rattle.std.proofs.lemmas.Bool.Decides.{nat_tests}
use Rattle.std.proofs.lemmas.List.FromFn.{get_or-map-range_with_len}
use Rattle.list_text.specs.declared.digits.TheConstants.{HEX_VALUES}
use Rattle.list_text.specs.Digits.{digit_in, number_behind, hex_number}
use Rattle.list_text.specs.Lines.{is_line_feed, digits_of, line_number}
use Rattle.list_text.specs.PlainLines.{hex_value}
use Rattle.list_text.proofs.WordParts.{before_is, after_is}

-- the table has the value of each byte
values : HEX_VALUES ≡ map hex_value (range_with_len 0 256)
values = refl

-- what the table has at a byte is its value
pub value_at : (b i d : ℕ) → i ≡ b → b < 256 → get_or HEX_VALUES i d ≡ hex_value b
value_at b i d e l =
    ap (λ z. get_or z i d) values ∙ ap (λ (z : ℕ). get_or (map hex_value (range_with_len 0 256)) z d) e
    ∙ get_or-map-range_with_len hex_value 0 256 b b d l (omega arith)

-- a value is at most what the table has for a byte that is no digit
pub value_small : (b : ℕ) → hex_value b ≤ 4294967296
value_small b = grind (arith, nat_tests)

-- the first eight bytes of a text
abbrev first_eight : List ℕ → List ℕ
first_eight text = get_or text 0 0 ∷ get_or text 1 0 ∷ get_or text 2 0 ∷ get_or text 3 0 ∷ get_or text 4 0 ∷ get_or text 5 0 ∷ get_or text 6 0 ∷ get_or text 7 0 ∷ []

-- the number that the values of digits behind a number give
abbrev pub packed : ℕ → List ℕ → ℕ
packed n [] = n
packed n (c ∷ cs) = packed (16 * n + hex_value c) cs

least : (n : ℕ) (cs : List ℕ) → n ≤ packed n cs
least n [] = omega arith
least n (c ∷ cs) =
    let l : 16 * n + hex_value c ≤ packed (16 * n + hex_value c) cs = least (16 * n + hex_value c) cs in
    omega arith

is_digit : (c : ℕ) → hex_value c < 4294967296 → digit_in 16 c ≡ Some (hex_value c)
is_digit c h = grind (arith, nat_tests)

-- the first of values that give less is the value of a digit
first_small : (n c : ℕ) (cs : List ℕ) → packed n (c ∷ cs) < 4294967296 → hex_value c < 4294967296
first_small n c cs h =
    let l : 16 * n + hex_value c ≤ packed (16 * n + hex_value c) cs = least (16 * n + hex_value c) cs in
    omega arith

-- values that give less than what stands for no digit spell the number
packed_number : (n : ℕ) (cs : List ℕ) → packed n cs < 4294967296 → number_behind 16 n cs ≡ Some (packed n cs)
packed_number n [] h = refl
packed_number n (c ∷ cs) h = rw (is_digit c (first_small n c cs h)) (packed_number (16 * n + hex_value c) cs h)

above_feed : (c : ℕ) → hex_value c < 4294967296 → 10 < c
above_feed c h = grind (arith, nat_tests)

-- and none of the bytes is an LF
no_feed : (n : ℕ) (cs : List ℕ) → packed n cs < 4294967296 → AllByRecursion (λ (c : ℕ). 10 < c) cs
no_feed n [] h = tt
no_feed n (c ∷ cs) h = (above_feed c (first_small n c cs h), no_feed (16 * n + hex_value c) cs h)

no_mark : (a b : ℕ) → hex_value b < 4294967296 → ((a == 48) && (b == 120)) ≡ false
no_mark a b h = grind (arith, nat_tests)

-- two digits and more have no 0x in front
whole : (n a b : ℕ) (cs : List ℕ) → packed n (a ∷ b ∷ cs) < 4294967296 → digits_of (a ∷ b ∷ cs) ≡ a ∷ b ∷ cs
whole n a b cs h = rw (no_mark a b (first_small (16 * n + hex_value a) b cs h)) refl

-- a text of nine bytes and more, whose ninth is an LF
nine : (text : List ℕ) → 9 ≤ length text → get_or text 8 0 ≡ 10 → text ≡ first_eight text ++ 10 ∷ drop 9 text
nine text l e =
    drop-cons text 0 0 (omega arith) ∙ λ i. get_or text 0 0 ∷ (drop-cons text 1 0 (omega arith) ∙ λ i. get_or text 1 0 ∷ (drop-cons text 2 0 (omega arith)
    ∙ λ i. get_or text 2 0 ∷ (drop-cons text 3 0 (omega arith) ∙ λ i. get_or text 3 0 ∷ (drop-cons text 4 0 (omega arith)
    ∙ λ i. get_or text 4 0 ∷ (drop-cons text 5 0 (omega arith) ∙ λ i. get_or text 5 0 ∷ (drop-cons text 6 0 (omega arith)
    ∙ λ i. get_or text 6 0 ∷ (drop-cons text 7 0 (omega arith) ∙ λ i. get_or text 7 0 ∷ (drop-cons text 8 0 (omega arith) ∙ λ i. e i ∷ drop 9 text) i) i) i) i) i) i) i) i

-- a first line of eight digits, read
pub record IsRead (text : List ℕ) (n : ℕ) : Type 0 where
  pub number : line_number (before_first is_line_feed text) ≡ Some n
  pub later : take (length text - 9) (drop 9 text) ≡ after_first is_line_feed text

eight_read : (text : List ℕ) → 9 ≤ length text → get_or text 8 0 ≡ 10 → packed 0 (first_eight text) < 4294967296 → IsRead text (packed 0 (first_eight text))
eight_read text l e small =
    let line = first_eight text in
    let behind = drop 9 text in
    let above = no_feed 0 line small in
    record {
      number =
          ap (λ t. line_number (before_first is_line_feed t)) (nine text l e)
          ∙ ap line_number (before_is 10 line behind above)
          ∙ ap hex_number (whole 0 (get_or text 0 0) (get_or text 1 0) (drop 2 line) small)
          ∙ packed_number 0 line small;
      later =
          ap (λ k. take k behind) (sym (length-drop 9 text)) ∙ take-length behind
          ∙ sym (ap (after_first is_line_feed) (nine text l e) ∙ after_is 10 line behind above);
    }

-- a number that grew by the values of eight bytes is that of a first line, where it has 32 bits and an LF stands behind them
pub plain_line : (text : List ℕ) (a b c d e f g h : ℕ) → 9 ≤ length text → get_or text 8 0 ≡ 10
    → a ≡ 16 * 0 + hex_value (get_or text 0 0) → b ≡ 16 * a + hex_value (get_or text 1 0) → c ≡ 16 * b + hex_value (get_or text 2 0) → d ≡ 16 * c + hex_value (get_or text 3 0)
    → e ≡ 16 * d + hex_value (get_or text 4 0) → f ≡ 16 * e + hex_value (get_or text 5 0) → g ≡ 16 * f + hex_value (get_or text 6 0) → h ≡ 16 * g + hex_value (get_or text 7 0)
    → h < 4294967296 → IsRead text h
plain_line text a b c d e f g h l end ea eb ec ed ee ef eg eh small =
    let is : h ≡ packed 0 (first_eight text) = rw (eh, eg, ef, ee, ed, ec, eb, ea) refl in
    subst (IsRead text) (sym is) (eight_read text l end (subst (λ n. n < 4294967296) is small))
