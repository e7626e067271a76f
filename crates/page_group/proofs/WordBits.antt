-- Words of 64 bits, bit by bit.
use Rattle.std.proofs.Common.{◌≡◌, ◌≢◌, ℕ, ◌+◌, ◌*◌, ◌/◌, ◌%◌, ◌^◌, ◌<◌, ◌≤◌, max, min, true, false, ◌||◌, ◌==◌, List, length, get_or, set, replicate, bit_or, bit_and, w64, ap, sym, ◌∙◌, inl, inr, arith, eq-eqb, get_or-set_other, get_or-set_same}
use mir.Val.{bits, Fits}
use Rattle.page_group.specs.Occupancy.{has_bit, AreAmong, ShareBit}
use Rattle.std.specs.Int.{bit_at, trailing_zeros}
use Rattle.std.proofs.lemmas.Bool.{cases_eq, cases_lt, eqb-true, both_ways, or_from, or_left}
use Rattle.std.proofs.lemmas.Bool.Decides.{nat_tests}
use Rattle.std.proofs.lemmas.List.{length-replicate, get_or-replicate, get_or_past}
use Rattle.std.proofs.lemmas.Nat.{and_le_l}
use Rattle.std.proofs.lemmas.Nat.Bits.{bit_at_set_same, bit_at_set_other, bit_at-zero, bit_at_and, bit_at_or, bit_at-lt, bit_at-trailing_zeros}

-- a list of one word has it everywhere, if it is what stands past the end
same_word : (n i z : ℕ) → get_or (replicate n z) i z ≡ z
same_word n i z = elim (cases_lt i n) [
  | inl l ↦ get_or-replicate n i z z l
  | inr l ↦ get_or_past (replicate n z) i z (omega (arith, length-replicate n z))
]

-- words of zeros have no bit
pub none_has : (n k : ℕ) → has_bit (replicate n 0) k ≡ false
none_has n k = ap (λ (w : ℕ). bit_at w (k % 64) == 1) (same_word n (k / 64) 0) ∙ ap (λ (b : ℕ). b == 1) (bit_at-zero (k % 64))

-- the bit of a place after a write to its word
word_written : (words : List ℕ) (word other index : ℕ) → index < length words → other / 64 ≡ index
    → has_bit (set words index word) other ≡ (bit_at word (other % 64) == 1)
word_written words word other index within same =
    let read : get_or (set words index word) (other / 64) 0 ≡ word =
    ap (λ k. get_or (set words index word) k 0) same ∙ get_or-set_same words index word 0 within in
    ap (λ w. bit_at w (other % 64) == 1) read

-- the bits of the other words
other_word : (words : List ℕ) (word other index : ℕ) → other / 64 ≢ index → has_bit (set words index word) other ≡ has_bit words other
other_word words word other index differs = ap (λ w. bit_at w (other % 64) == 1) (get_or-set_other words index (other / 64) word 0 differs)

-- after the bit of a place is made 1, the bits that are 1 are that one and those that were
pub bit_added : (words : List ℕ) (place other : ℕ) → place / 64 < length words
    → has_bit (set words (place / 64) (bit_or (get_or words (place / 64) 0) (1 * 2 ^ (place % 64) % 2 ^ bits w64))) other
    ≡ (other == place || has_bit words other)
bit_added words place other within =
    let word : ℕ = get_or words (place / 64) 0 in
    let new : ℕ = bit_or word (1 * 2 ^ (place % 64) % 2 ^ bits w64) in
    let low : place % 64 < bits w64 = omega arith in
    elim (cases_eq (other / 64) (place / 64)) [
      | inl same ↦ elim (cases_eq (other % 64) (place % 64)) [
        | inl alike ↦
            let is : other ≡ place = omega arith in
            let one : bit_at new (other % 64) ≡ 1 = ap (λ k. bit_at new k) alike ∙ bit_at_set_same w64 word (place % 64) low in
            word_written words new other (place / 64) within same
            ∙ eq-eqb (bit_at new (other % 64)) 1 one
            ∙ ap (λ b. b || has_bit words other) (sym (eq-eqb other place is))
        | inr unlike ↦
            let not : other ≢ place = λ e. unlike (ap (λ k. k % 64) e) in
            let none : (other == place) ≡ false = grind (arith, nat_tests) in
            word_written words new other (place / 64) within same
            ∙ ap (λ k. k == 1) (bit_at_set_other w64 word (place % 64) low (other % 64) unlike)
            ∙ ap (λ k. bit_at (get_or words k 0) (other % 64) == 1) (sym same)
            ∙ ap (λ b. b || has_bit words other) (sym none)
      ]
      | inr differs ↦
          let not : other ≢ place = λ e. differs (ap (λ k. k / 64) e) in
          let none : (other == place) ≡ false = grind (arith, nat_tests) in
          other_word words new other (place / 64) differs ∙ ap (λ b. b || has_bit words other) (sym none)
    ]

-- a bit of a number that is 0 or 1, of two of which both are 1
both_bits : (x y : ℕ) → x < 2 → y < 2 → min x y ≡ 1 → (x ≡ 1) × (y ≡ 1)
both_bits x y l m e = (omega arith, omega arith)

-- a word that two have in common has a bit of both
pub common_bit : (a b : List ℕ) (place word : ℕ) → word ≡ bit_and (get_or a place 0) (get_or b place 0) → word ≢ 0
    → Fits w64 (get_or a place 0)
    → (k : ℕ) × (has_bit a k ≡ true) × (has_bit b k ≡ true)
common_bit a b place word e some held =
    let x : ℕ = get_or a place 0 in
    let y : ℕ = get_or b place 0 in
    let fits : word < 2 ^ bits w64 = omega (arith, and_le_l (get_or a place 0) (get_or b place 0)) in
    let low = bit_at-trailing_zeros w64 word (omega arith) fits in
    let t : ℕ = trailing_zeros w64 word in
    let within : t < 64 = low.0 in
    let k : ℕ = 64 * place + t in
    let one : min (bit_at x t) (bit_at y t) ≡ 1 = sym (bit_at_and x y t) ∙ ap (λ (w : ℕ). bit_at w t) (sym e) ∙ low.1 in
    let both = both_bits (bit_at x t) (bit_at y t) (bit_at-lt x t) (bit_at-lt y t) one in
    let p : place ≡ k / 64 = omega arith in
    let q : t ≡ k % 64 = omega arith in (
      k,
      eq-eqb (bit_at (get_or a (k / 64) 0) (k % 64)) 1 ((λ i. bit_at (get_or a (sym p i) 0) (sym q i)) ∙ both.0),
      eq-eqb (bit_at (get_or b (k / 64) 0) (k % 64)) 1 ((λ i. bit_at (get_or b (sym p i) 0) (sym q i)) ∙ both.1),
    )

-- words that have nothing in common have no bit of both
no_common_bit : (a b : List ℕ) (k : ℕ) → bit_and (get_or a (k / 64) 0) (get_or b (k / 64) 0) ≡ 0
    → has_bit a k ≡ true → has_bit b k ≡ true → ⊥
no_common_bit a b k e f g =
    let x : ℕ = get_or a (k / 64) 0 in
    let y : ℕ = get_or b (k / 64) 0 in
    let p : bit_at x (k % 64) ≡ 1 = eqb-true (bit_at x (k % 64)) 1 f in
    let q : bit_at y (k % 64) ≡ 1 = eqb-true (bit_at y (k % 64)) 1 g in
    let none : min (bit_at x (k % 64)) (bit_at y (k % 64)) ≡ 0 =
    sym (bit_at_and x y (k % 64)) ∙ ap (λ (w : ℕ). bit_at w (k % 64)) e ∙ bit_at-zero (k % 64) in
    absurd (omega arith)

-- of two bits one is 1
either_bit : (x y : ℕ) → x < 2 → y < 2 → (max x y == 1) ≡ (x == 1 || y == 1)
either_bit x y l m = grind (arith, nat_tests)

-- a word that joins two has the bits of both
joined_bit : (new a b : List ℕ) (k : ℕ) → get_or new (k / 64) 0 ≡ bit_or (get_or a (k / 64) 0) (get_or b (k / 64) 0)
    → has_bit new k ≡ (has_bit a k || has_bit b k)
joined_bit new a b k e =
    let x : ℕ = get_or a (k / 64) 0 in
    let y : ℕ = get_or b (k / 64) 0 in
    ap (λ (w : ℕ). bit_at w (k % 64) == 1) e ∙ ap (λ (v : ℕ). v == 1) (bit_at_or x y (k % 64))
    ∙ either_bit (bit_at x (k % 64)) (bit_at y (k % 64)) (bit_at-lt x (k % 64)) (bit_at-lt y (k % 64))

-- past the words no bit is 1
past_end : (words : List ℕ) (k : ℕ) → length words ≤ k / 64 → has_bit words k ≡ false
past_end words k l =
    ap (λ (w : ℕ). bit_at w (k % 64) == 1) (get_or_past words (k / 64) 0 l) ∙ ap (λ (b : ℕ). b == 1) (bit_at-zero (k % 64))

-- lists that have nothing in common where one has its bits share no bit
pub no_shared_bit : (a b : List ℕ) (first end : ℕ) → AreAmong first end b
    → ((i : ℕ) → first ≤ i → i < end → bit_and (get_or a i 0) (get_or b i 0) ≡ 0) → ShareBit a b → ⊥
no_shared_bit a b first end among h m =
    let at = among m.0 m.2 in
    no_common_bit a b m.0 (h (m.0 / 64) at.0 at.1) m.1 m.2

-- a word of zeros has no bit
blank_word : (words : List ℕ) (k : ℕ) → get_or words (k / 64) 0 ≡ 0 → has_bit words k ≡ false
blank_word words k e = ap (λ (w : ℕ). bit_at w (k % 64) == 1) e ∙ ap (λ (b : ℕ). b == 1) (bit_at-zero (k % 64))

-- words of zeros at the front, and no others, have no bit
pub none_set : (words : List ℕ) (index : ℕ) → length words ≤ index → ((i : ℕ) → i < index → get_or words i 0 ≡ 0)
    → (k : ℕ) → has_bit words k ≡ true → ⊥
none_set words index l h k t = elim (cases_lt (k / 64) index) [
  | inl m ↦ both_ways (has_bit words k) (blank_word words k (h (k / 64) m)) t
  | inr m ↦ both_ways (has_bit words k) (past_end words k (omega arith)) t
]

-- where the words from a count on are zeros, a bit lies before it
pub before_blank : (words : List ℕ) (count : ℕ) → ((i : ℕ) → count ≤ i → get_or words i 0 ≡ 0)
    → (k : ℕ) → has_bit words k ≡ true → k / 64 < count
before_blank words count h k t = elim (cases_lt (k / 64) count) [
  | inl m ↦ m
  | inr m ↦ absurd (both_ways (has_bit words k) (blank_word words k (h (k / 64) m)) t)
]

-- the lowest bit of a word behind words of zeros is the least bit
pub least_bit : (words : List ℕ) (index zeros : ℕ) → zeros ≡ trailing_zeros w64 (get_or words index 0) → get_or words index 0 ≢ 0
    → Fits w64 (get_or words index 0) → ((i : ℕ) → i < index → get_or words i 0 ≡ 0) → (k : ℕ) → has_bit words k ≡ true
    → 64 * index + zeros ≤ k
least_bit words index zeros is some fits h k t =
    let word : ℕ = get_or words index 0 in
    let low = bit_at-trailing_zeros w64 word (omega arith) fits.fits in
    let within : trailing_zeros w64 word < 64 = low.0 in
    elim (cases_lt (k / 64) index) [
      | inl m ↦ absurd (both_ways (has_bit words k) (blank_word words k (h (k / 64) m)) t)
      | inr m ↦ elim (cases_eq (k / 64) index) [
        | inr n ↦ omega arith
        | inl e ↦ elim (cases_lt (k % 64) zeros) [
          | inr n ↦ omega arith
          | inl n ↦ (
              let one : bit_at word (k % 64) ≡ 1 = (λ i. bit_at (get_or words (sym e i) 0) (k % 64)) ∙ eqb-true (bit_at (get_or words (k / 64) 0) (k % 64)) 1 t in
              let none : bit_at word (k % 64) ≡ 0 = low.2 (k % 64) (omega arith) in
              absurd (omega arith)
              )
        ]
      ]
    ]

-- the lowest bit of a word that isn't 0 is 1
pub lowest_bit : (words : List ℕ) (index zeros : ℕ) → zeros ≡ trailing_zeros w64 (get_or words index 0) → get_or words index 0 ≢ 0
    → Fits w64 (get_or words index 0) → has_bit words (64 * index + zeros) ≡ true
lowest_bit words index zeros is some fits =
    let word : ℕ = get_or words index 0 in
    let low = bit_at-trailing_zeros w64 word (omega arith) fits.fits in
    let within : trailing_zeros w64 word < 64 = low.0 in
    let k : ℕ = 64 * index + zeros in
    let p : index ≡ k / 64 = omega arith in
    let q : trailing_zeros w64 word ≡ k % 64 = omega arith in
    eq-eqb (bit_at (get_or words (k / 64) 0) (k % 64)) 1 ((λ i. bit_at (get_or words (sym p i) 0) (sym q i)) ∙ low.1)

-- where one list's words add nothing to another's, its bits are the other's too
pub within_bits : (a b : List ℕ) (index : ℕ) → length a ≤ index
    → ((i : ℕ) → i < index → bit_or (get_or a i 0) (get_or b i 0) ≡ get_or b i 0)
    → (k : ℕ) → has_bit a k ≡ true → has_bit b k ≡ true
within_bits a b index l h k t = elim (cases_lt (k / 64) index) [
  | inl m ↦ joined_bit b a b k (sym (h (k / 64) m)) ∙ or_left (has_bit a k) (has_bit b k) t
  | inr m ↦ absurd (both_ways (has_bit a k) (past_end a k (omega arith)) t)
]

-- words that join two lists word by word have the bits of both
pub joined_bits : (new a b : List ℕ) (place : ℕ) → length a ≤ place → length b ≡ length a → length new ≡ length a
    → ((i : ℕ) → i < place → get_or new i 0 ≡ bit_or (get_or a i 0) (get_or b i 0)) → (k : ℕ)
    → has_bit new k ≡ (has_bit a k || has_bit b k)
joined_bits new a b place l e f h k = elim (cases_lt (k / 64) place) [
  | inl n ↦ joined_bit new a b k (h (k / 64) n)
  | inr n ↦
      past_end new k (omega arith)
      ∙ sym (or_from (has_bit a k) (has_bit b k) (past_end a k (omega arith)) (past_end b k (omega arith)))
]
