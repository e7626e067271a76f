-- Words, up to the byte behind them, and decimal numbers.
use Rattle.std.proofs.Common.{◌≡◌, ℕ, ◌+◌, ◌<◌, ◌*◌, ◌^◌, Bool, true, false, ◌&&◌, List, [], ◌∷◌, ◌++◌, length, take, drop, Some, refl, ap, ◌∙◌, arith, add-one}
use Rattle.std.specs.Prelude.{◌==◌, codes, nat_lt}
use Rattle.std.specs.List.{AllByRecursion, before_first, after_first, position_or_len}
use Rattle.std.specs.Fmt.{decimal}
use Rattle.std.specs.Char.{digit_value}
use Rattle.std.specs.Str.Parse.{AllDigits, digits_value_after}
use Rattle.std.proofs.Math.Numerals.{one-add}
use Rattle.std.proofs.lemmas.Bool.{and_parts}
use Rattle.std.proofs.lemmas.Fmt.{decimal_is_IsNumeral}
use Rattle.std.proofs.lemmas.Bool.Decides.{nat_tests}
pub use Rattle.pun_base.proofs.JoinedLists.{all_appended}
use Rattle.list_text.specs.Blanks.{word, later_words}
use Rattle.list_text.specs.Digits.{digit_in, number_behind, number_in}

-- Bytes that are no blank and no LF.
abbrev pub IsWord : List ℕ → Type 0
IsWord cs = AllByRecursion (λ (c : ℕ). 32 < c) cs

not_found : (b c : ℕ) → b < c → (c == b) ≡ false
not_found b c h = grind (arith, nat_tests)

position : (b : ℕ) (xs ys : List ℕ) → AllByRecursion (λ (c : ℕ). b < c) xs → position_or_len (λ c. c == b) (xs ++ b ∷ ys) ≡ length xs
position b [] ys h = let e : (b == b) ≡ true = grind (arith, nat_tests) in rw e refl
position b (x ∷ xs) ys h = rw (not_found b x h.0, position b xs ys h.1) (one-add (length xs))

taken : (xs ys : List ℕ) → take (length xs) (xs ++ ys) ≡ xs
taken [] ys = refl
taken (x ∷ xs) ys = ap (λ (l : List ℕ). x ∷ l) (taken xs ys)

dropped : (xs ys : List ℕ) (c : ℕ) → drop (length xs + 1) (xs ++ c ∷ ys) ≡ ys
dropped [] ys c = refl
dropped (x ∷ xs) ys c = rw add-one (rw add-one at (dropped xs ys c))

-- What stands before the first of a byte, where the bytes before it are greater.
pub before_is : (b : ℕ) (xs ys : List ℕ) → AllByRecursion (λ (c : ℕ). b < c) xs → before_first (λ c. c == b) (xs ++ b ∷ ys) ≡ xs
before_is b xs ys h = rw (position b xs ys h) (taken xs (b ∷ ys))

-- What stands behind it.
pub after_is : (b : ℕ) (xs ys : List ℕ) → AllByRecursion (λ (c : ℕ). b < c) xs → after_first (λ c. c == b) (xs ++ b ∷ ys) ≡ ys
after_is b xs ys h = rw (position b xs ys h) (dropped xs ys b)

-- The front of a word and what stands behind a blank is the word.
pub first_word : (w t : List ℕ) → IsWord w → word (w ++ 32 ∷ t) ≡ w
first_word w t h = before_is 32 w t h

-- Behind the word and the blank after it stands the rest.
pub behind_word : (w t : List ℕ) → IsWord w → later_words (w ++ 32 ∷ t) ≡ t
behind_word w t h = after_is 32 w t h

-- A word with nothing behind it.
missing : (b : ℕ) (xs : List ℕ) → AllByRecursion (λ (c : ℕ). b < c) xs → position_or_len (λ c. c == b) xs ≡ length xs
missing b [] h = refl
missing b (x ∷ xs) h = rw (not_found b x h.0, missing b xs h.1) (one-add (length xs))

all_taken : (xs : List ℕ) → take (length xs) xs ≡ xs
all_taken [] = refl
all_taken (x ∷ xs) = ap (λ (l : List ℕ). x ∷ l) (all_taken xs)

all_dropped : (xs : List ℕ) → drop (length xs + 1) xs ≡ []
all_dropped [] = refl
all_dropped (x ∷ xs) = rw add-one (rw add-one at (all_dropped xs))

-- A word with nothing behind it is the whole.
pub lone_word : (w : List ℕ) → IsWord w → word w ≡ w
lone_word w h = rw (missing 32 w h) (all_taken w)

-- Nothing stands behind such a word.
pub behind_lone : (w : List ℕ) → IsWord w → later_words w ≡ []
behind_lone w h = rw (missing 32 w h) (all_dropped w)

digit_is_word : (c : ℕ) → digit_value c < 10 → 32 < c
digit_is_word c h = grind (arith, nat_tests)

digits_word : (cs : List ℕ) → AllDigits 10 cs → IsWord cs
digits_word [] h = tt
digits_word (c ∷ cs) h = (digit_is_word c h.0, digits_word cs h.1)

wide : (n : ℕ) → n < 2 ^ 32 → n < 2 ^ 64
wide n h = omega arith

-- A decimal number is a word.
pub decimal_word : (n : ℕ) → n < 2 ^ 32 → IsWord (decimal n)
decimal_word n h = digits_word (decimal n) (decimal_is_IsNumeral n (wide n h)).0.1

digit_read : (c : ℕ) → digit_value c < 10 → digit_in 10 c ≡ Some (digit_value c)
digit_read c h = grind (arith, nat_tests)

digits_read : (n : ℕ) (cs : List ℕ) → AllDigits 10 cs → number_behind 10 n cs ≡ Some (digits_value_after 10 n cs)
digits_read n [] h = refl
digits_read n (c ∷ cs) h =
    let e : 10 * n + digit_value c ≡ n * 10 + digit_value c = omega arith in
    rw (digit_read c h.0, e) (digits_read (n * 10 + digit_value c) cs h.1)

-- The digits of a number of 32 bits are read as that number.
pub decimal_read : (n : ℕ) → n < 2 ^ 32 → number_in 10 (decimal n) ≡ Some n
decimal_read n h =
    digits_read 0 (decimal n) (decimal_is_IsNumeral n (wide n h)).0.1 ∙ ap Some (decimal_is_IsNumeral n (wide n h)).1

-- No byte is an LF.
abbrev pub IsOneLine : List ℕ → Type 0
IsOneLine cs = AllByRecursion (λ (c : ℕ). 10 < c) cs

abbrev above : List ℕ → Bool
above [] = true
above (c ∷ cs) = nat_lt 10 c && above cs

greater : (c : ℕ) → nat_lt 10 c ≡ true → 10 < c
greater c h = grind (arith, nat_tests)

-- Bytes that are all above LF stand on one line.
pub one_line : (cs : List ℕ) → above cs ≡ true → IsOneLine cs
one_line [] h = tt
one_line (c ∷ cs) h = let p = and_parts (nat_lt 10 c) (above cs) h in (greater c p.0, one_line cs p.1)

-- A word stands on one line.
pub of_word : (cs : List ℕ) → IsWord cs → IsOneLine cs
of_word [] h = tt
of_word (c ∷ cs) h = (let k : 32 < c = h.0 in omega arith, of_word cs h.1)

-- Two texts of one line, one behind the other, stand on one line.
pub both : (xs ys : List ℕ) → IsOneLine xs → IsOneLine ys → IsOneLine (xs ++ ys)
both xs ys = all_appended (λ (c : ℕ). 10 < c) xs ys

-- Two texts of one line, parted by a blank, stand on one line.
pub parted : (xs ys : List ℕ) → IsOneLine xs → IsOneLine ys → IsOneLine (xs ++ (codes " " ++ ys))
parted xs ys h k = both xs (codes " " ++ ys) h (both (codes " ") ys (one_line (codes " ") refl) k)
