-- Hexadecimal words: what they read as, and that they hold no blank.
use Rattle.std.proofs.Common.{◌≡◌, ℕ, zero, suc, ◌*◌, ◌/◌, ◌%◌, ◌^◌, ◌<◌, Bool, true, false, cond, List, [], ◌∷◌, length, Some, None, Result, Ok, Err, refl, ap, sym, subst, ◌∙◌, arith}
use Rattle.std.specs.Prelude.{slice_index, option_map}
use Rattle.std.specs.List.{AllByRecursion}
use Rattle.std.specs.Result.{result_ok}
use Rattle.std.specs.Int.{w64, to_be_bytes, from_be_bytes}
use Rattle.std.proofs.lemmas.Nat.{from_be_bytes-to_be_bytes_8}
use Rattle.hex.specs.declared.error.FromHexError.{FromHexError}
use Rattle.hex.specs.Hex.{IsBytes, decode_of, decode_sized, encode_lower, encode_with, lower_digits}
use Rattle.hex.proofs.HexLemmas.{decode_of-encode_lower, decode_of-ok, decode_sized-encode_lower, decode_sized-ok, decode_sized-twice}
use Rattle.image_step.specs.Spelling.{hex16}
use Rattle.image_step.specs.Grammar.{is_within}
use Rattle.image_step.specs.Reading.{bytes_in, counted, number_in}
use Rattle.image_step.proofs.Places.{FactsFrom, fact_at}
use Rattle.image_step.proofs.Words.{Above}

abbrev IsAboveBlank : ℕ → Type 0
IsAboveBlank d = 32 < slice_index lower_digits d

-- The remainder by 256 is a byte.
pub byte_small : (n : ℕ) → n % 256 < 256
byte_small n = omega arith

digits_above : FactsFrom IsAboveBlank 0 16
digits_above = (
  omega arith,
  (
    omega arith,
    (
      omega arith,
      (
        omega arith,
        (
          omega arith,
          (
            omega arith,
            (
              omega arith,
              (
                omega arith,
                (omega arith, (omega arith, (omega arith, (omega arith, (omega arith, (omega arith, (omega arith, (omega arith, tt)))))))),
              ),
            ),
          ),
        ),
      ),
    ),
  ),
)

digit_above : (d : ℕ) → d < 16 → 32 < slice_index lower_digits d
digit_above d h = fact_at IsAboveBlank 16 d h digits_above

-- The digits of bytes.
pub encoded_above : (bs : List ℕ) → IsBytes bs → Above 32 (encode_lower bs)
unfolding encode_with
encoded_above [] h = tt
encoded_above (b ∷ bs) h =
    let fits : b < 256 = h 0 in
    (digit_above (b / 16) (omega arith), (digit_above (b % 16) (omega arith), encoded_above bs (λ k. h (suc k))))

bytes_all : (bs : List ℕ) → AllByRecursion (λ b. b < 256) bs → IsBytes bs
bytes_all [] h i = omega arith
bytes_all (b ∷ bs) h zero = h.0
bytes_all (b ∷ bs) h (suc i) = bytes_all bs h.1 i

-- A number's eight bytes are bytes.
number_bytes : (n : ℕ) → IsBytes (to_be_bytes w64 n)
number_bytes n =
    bytes_all (to_be_bytes w64 n) (byte_small _, (byte_small _, (byte_small _, (byte_small _, (byte_small _, (byte_small _, (byte_small _, (byte_small _, tt))))))))

-- Every digit of a number is above the space.
pub number_above : (n : ℕ) → Above 32 (hex16 n)
unfolding hex16
number_above n = encoded_above (to_be_bytes w64 n) (number_bytes n)

-- A number is read from its digits.
pub number_read : (n : ℕ) → n < 2 ^ 64 → number_in (hex16 n) ≡ Some n
unfolding number_in hex16
number_read n h =
    let e : decode_sized (encode_lower (to_be_bytes w64 n)) 8 ≡ Ok (to_be_bytes w64 n) = decode_sized-encode_lower (to_be_bytes w64 n) 8 refl (number_bytes n) in
    rw e (ap (λ (m : ℕ). Some m) (from_be_bytes-to_be_bytes_8 n h))

-- Bytes are read from their digits.
pub bytes_read : (most : ℕ) (bs : List ℕ) → is_within most (length bs) ≡ true → IsBytes bs → bytes_in most (encode_lower bs) ≡ Some bs
unfolding bytes_in
bytes_read most bs h b = rw (decode_of-encode_lower bs b) (rw h refl)

bound_8 : (bs : List ℕ) → IsBytes bs → from_be_bytes w64 bs < 2 ^ 64
bound_8 bs h = omega (arith, h 0, h 1, h 2, h 3, h 4, h 5, h 6, h 7)

small_from : (digits : List ℕ) (r : Result (List ℕ) FromHexError) (n : ℕ) → decode_sized digits 8 ≡ r
    → option_map (from_be_bytes w64) (result_ok r) ≡ Some n → n < 2 ^ 64
small_from digits (Ok bs) n d e =
    let twice : length digits ≡ 2 * 8 = decode_sized-ok digits 8 bs d in
    let ok = decode_of-ok digits bs (sym (decode_sized-twice digits 8 twice) ∙ d) in
    let same : from_be_bytes w64 bs ≡ n = cc in
    subst (λ (m : ℕ). m < 2 ^ 64) same (bound_8 bs ok.3)
small_from digits (Err r) n d e = absurd cc

-- What is read has 64 bits.
pub number_small : (digits : List ℕ) (n : ℕ) → number_in digits ≡ Some n → n < 2 ^ 64
unfolding number_in
number_small digits n e = small_from digits (decode_sized digits 8) n refl e

counted_from : (b : Bool) (bs cs : List ℕ) → cond b (Some bs) None ≡ Some cs → bs ≡ cs
counted_from true bs cs e = cc
counted_from false bs cs e = absurd cc

bytes_from : (most : ℕ) (digits : List ℕ) (r : Result (List ℕ) FromHexError) (bs : List ℕ) → decode_of digits ≡ r
    → counted most (result_ok r) ≡ Some bs → IsBytes bs
bytes_from most digits (Ok cs) bs d e =
    subst IsBytes (counted_from (is_within most (length cs)) cs bs e) (decode_of-ok digits cs d).3
bytes_from most digits (Err r) bs d e = absurd cc

-- What is read is bytes.
pub bytes_small : (most : ℕ) (digits bs : List ℕ) → bytes_in most digits ≡ Some bs → IsBytes bs
unfolding bytes_in
bytes_small most digits bs e = bytes_from most digits (decode_of digits) bs refl e
