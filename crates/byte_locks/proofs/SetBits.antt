-- One bit of a bitmap made 1.
use Rattle.std.proofs.Common.{◌≡◌, ◌≢◌, ℕ, ◌*◌, ◌/◌, ◌%◌, ◌^◌, ◌<◌, false, ◌||◌, ◌==◌, List, length, get_or, set, bit_or, w64, ap, sym, ◌∙◌, inl, inr, arith, eq-eqb, get_or-set_other, get_or-set_same}
use mir.Val.{bits}
use Rattle.std.specs.Int.{bit_at}
use Rattle.std.proofs.lemmas.Bool.{cases_eq}
use Rattle.std.proofs.lemmas.Bool.Decides.{nat_tests}
use Rattle.std.proofs.lemmas.Nat.Bits.{bit_at_set_same, bit_at_set_other}
use Rattle.byte_locks.specs.Bitmaps.{is_set_in}

-- the bit of a place after a write to its word
word_written : (words : List ℕ) (word other : ℕ) (index : ℕ) → index < length words → other / 64 ≡ index
    → is_set_in (set words index word) other ≡ (bit_at word (other % 64) == 1)
word_written words word other index within same =
    let read : get_or (set words index word) (other / 64) 0 ≡ word =
    ap (λ k. get_or (set words index word) k 0) same ∙ get_or-set_same words index word 0 within in
    ap (λ w. bit_at w (other % 64) == 1) read

-- the bits of the other words
other_word : (words : List ℕ) (word other : ℕ) (index : ℕ) → other / 64 ≢ index
    → is_set_in (set words index word) other ≡ is_set_in words other
other_word words word other index differs = ap (λ w. bit_at w (other % 64) == 1) (get_or-set_other words index (other / 64) word 0 differs)

-- after the bit of a place is made 1, the bits that are 1 are that one and those that were
pub bit_set : (words : List ℕ) (place other : ℕ) → place < 64 * length words
    → is_set_in (set words (place / 64) (bit_or (get_or words (place / 64) 0) (1 * 2 ^ (place % 64) % 2 ^ bits w64))) other
    ≡ (other == place || is_set_in words other)
bit_set words place other within =
    let word : ℕ = get_or words (place / 64) 0 in
    let new : ℕ = bit_or word (1 * 2 ^ (place % 64) % 2 ^ bits w64) in
    let low : place % 64 < bits w64 = omega arith in
    let held : place / 64 < length words = omega arith in
    elim (cases_eq (other / 64) (place / 64)) [
      | inl same ↦ elim (cases_eq (other % 64) (place % 64)) [
        | inl alike ↦
            let is : other ≡ place = omega arith in
            let one : bit_at new (other % 64) ≡ 1 = ap (λ k. bit_at new k) alike ∙ bit_at_set_same w64 word (place % 64) low in
            word_written words new other (place / 64) held same
            ∙ eq-eqb (bit_at new (other % 64)) 1 one
            ∙ ap (λ b. b || is_set_in words other) (sym (eq-eqb other place is))
        | inr unlike ↦
            let not : other ≢ place = λ e. unlike (ap (λ k. k % 64) e) in
            let none : (other == place) ≡ false = grind (arith, nat_tests) in
            word_written words new other (place / 64) held same
            ∙ ap (λ k. k == 1) (bit_at_set_other w64 word (place % 64) low (other % 64) unlike)
            ∙ ap (λ k. bit_at (get_or words k 0) (other % 64) == 1) (sym same)
            ∙ ap (λ b. b || is_set_in words other) (sym none)
      ]
      | inr differs ↦
          let not : other ≢ place = λ e. differs (ap (λ k. k / 64) e) in
          let none : (other == place) ≡ false = grind (arith, nat_tests) in
          other_word words new other (place / 64) differs ∙ ap (λ b. b || is_set_in words other) (sym none)
    ]
