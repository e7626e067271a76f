-- The bits of words in which numbers are marked.
use Rattle.std.proofs.Common.{◌≡◌, ℕ, ◌+◌, ◌-◌, ◌*◌, ◌/◌, ◌%◌, ◌^◌, ◌<◌, ◌≤◌, ◌⊎◌, ◌↔◌, List, ◌++◌, length, get_or, set, take, drop, replicate, bit_and, bit_or, w64, ap, sym, ◌∙◌, inl, inr, arith, get_or-drop, get_or-set_other, get_or-set_same, get_or-take}
use Rattle.std.specs.Int.{bit_at, trailing_zeros}
use Rattle.std.proofs.lemmas.Bool.{cases_eq, cases_lt}
use Rattle.std.proofs.lemmas.List.{get_or_append_left, get_or-append_right, get_or-replicate, length-drop, length-replicate, length-take-le}
use Rattle.std.proofs.lemmas.Nat.{shr-shr, shr_le}
use Rattle.std.proofs.lemmas.Nat.Bits.{bit_at_and, bit_at_or, bit_at_ones, bit_at_ones_above, bit_at_mask_inside, bit_at_mask_below, bit_at-zero, bit_at-lt, bit_at-trailing_zeros, ones_shl}
use Rattle.address_space.specs.Marks.{IsMarked, IsBetween, MarksMore}
use borrow.Rule.Slice.PartMut.{mid_of, put_mid, post_of}

-- All ones without those from a place on, and without those below another one, have the bits between, and no other.
pub ones_between : (low high k : ℕ) → low < high → high ≤ 64
    → (bit_at (bit_and ((2 ^ 64 - 1) / 2 ^ (64 - high)) ((2 ^ 64 - 1) * 2 ^ low % 2 ^ 64)) k ≡ 1) ↔ IsBetween low high k
ones_between low high k some most =
    let under = (2 ^ 64 - 1) / 2 ^ (64 - high) in
    let over = (2 ^ 64 - 1) * 2 ^ low % 2 ^ 64 in
    let shifted : bit_at under k ≡ bit_at (2 ^ 64 - 1) (64 - high + k) = ap (λ (x : ℕ). x % 2) (shr-shr (2 ^ 64 - 1) (64 - high) k) in
    let masked : low ≤ 64 → bit_at over k ≡ bit_at (2 ^ 64 - 2 ^ low) k = λ l. ap (λ (x : ℕ). bit_at x k) (ones_shl 64 low l) in
    let both = bit_at_and under over k in (
      λ one. elim (cases_lt k high) [
        | inl below ↦ elim (cases_lt k low) [
          | inl less ↦ absurd (omega (arith, both, one, masked (omega (arith, some, most)), bit_at_mask_below low 64 k less))
          | inr from ↦ (from, below)
        ]
        | inr above ↦ absurd (omega (arith, both, one, shifted, bit_at_ones_above 64 (64 - high + k) (omega arith)))
      ],
      λ between. omega (
        arith,
        both,
        shifted,
        bit_at_ones 64 (64 - high + k) (omega (arith, between.1)),
        masked (omega (arith, some, most)),
        bit_at_mask_inside low 64 k between.0 (omega (arith, between.1)),
      ),
    )

-- The bits of two numbers together are those of either.
bit_of_either : (a b k : ℕ) → (bit_at (bit_or a b) k ≡ 1) ↔ ((bit_at a k ≡ 1) ⊎ (bit_at b k ≡ 1))
bit_of_either a b k = (
  λ one. elim (cases_eq (bit_at a k) 1) [
    | inl e ↦ inl e
    | inr differs ↦ inr (omega (arith, bit_at_or a b k, one, differs, bit_at-lt a k))
  ],
  λ one. elim one [
    | inl e ↦ omega (arith, bit_at_or a b k, e, bit_at-lt b k)
    | inr e ↦ omega (arith, bit_at_or a b k, e, bit_at-lt a k)
  ],
)

-- A number is marked as it was where its word stands as it stood.
mark_stays : (old new : List ℕ) (n : ℕ) → get_or new (n / 64) 0 ≡ get_or old (n / 64) 0 → IsMarked new n ↔ IsMarked old n
mark_stays old new n same = (λ m. ap (λ (w : ℕ). bit_at w (n % 64)) (sym same) ∙ m, λ m. ap (λ (w : ℕ). bit_at w (n % 64)) same ∙ m)

-- Where a word takes on more bits, those numbers are marked for which these stand.
pub marked_by_bits : (words : List ℕ) (word more low high : ℕ) → word < length words → high ≤ 64
    → ((k : ℕ) → (bit_at more k ≡ 1) ↔ IsBetween low high k)
    → MarksMore words (IsBetween (word * 64 + low) (word * 64 + high)) (set words word (bit_or (get_or words word 0) more))
marked_by_bits words word more low high within most bits = λ n.
    let one = bit_or (get_or words word 0) more in
    elim (cases_eq (n / 64) word) [
      | inl same ↦
          let new : get_or (set words word one) (n / 64) 0 ≡ one =
          ap (λ (k : ℕ). get_or (set words word one) k 0) same ∙ get_or-set_same words word one 0 within in
          let old : get_or words (n / 64) 0 ≡ get_or words word 0 = ap (λ (k : ℕ). get_or words k 0) same in
          let either = bit_of_either (get_or words word 0) more (n % 64) in (
            λ m. elim (either.0 (ap (λ (w : ℕ). bit_at w (n % 64)) (sym new) ∙ m)) [
              | inl was ↦ inl (ap (λ (w : ℕ). bit_at w (n % 64)) old ∙ was)
              | inr now ↦ (let b = (bits (n % 64)).0 now in inr (omega (arith, same, b.0), omega (arith, same, b.1)))
            ],
            λ m. ap (λ (w : ℕ). bit_at w (n % 64)) new ∙ either.1 (elim m [
              | inl was ↦ inl (ap (λ (w : ℕ). bit_at w (n % 64)) (sym old) ∙ was)
              | inr b ↦ inr ((bits (n % 64)).1 (omega (arith, same, b.0), omega (arith, same, b.1)))
            ]),
          )
      | inr differs ↦
          let stays = mark_stays words (set words word one) n (get_or-set_other words word (n / 64) one 0 differs) in (
            λ m. inl (stays.0 m),
            λ m. elim m [ inl was ↦ stays.1 was | inr b ↦ absurd (differs (omega (arith, b.0, b.1, most))) ],
          )
    ]

-- Words of which those from one place up to another are replaced.
put_mid-cases : (words others : List ℕ) (first end word : ℕ) → first ≤ end → end ≤ length words → length others ≡ end - first
    → (first ≤ word → word < end → get_or (put_mid first (end - first) words others) word 0 ≡ get_or others (word - first) 0)
    × ((word < first) ⊎ (end ≤ word) → get_or (put_mid first (end - first) words others) word 0 ≡ get_or words word 0)
put_mid-cases words others first end word ordered within long =
    let front : length (take first words) ≡ first = length-take-le first words (omega arith) in
    let rest = others ++ post_of first (end - first) words in
    let behind : first ≤ word → get_or (take first words ++ rest) word 0 ≡ get_or rest (word - first) 0 =
    λ from. get_or-append_right (take first words) rest first word 0 front from in (
      λ from below. behind from ∙ get_or_append_left others (post_of first (end - first) words) 0 (word - first) (omega (arith, long, from, below)),
      λ beside. elim beside [
        | inl below ↦ get_or_append_left (take first words) rest 0 word (omega (arith, front, below)) ∙ get_or-take first words word 0 below
        | inr above ↦
            let place : first + (end - first + (word - first - (end - first))) ≡ word = omega (arith, ordered, above) in
            behind (omega (arith, ordered, above)) ∙ get_or-append_right others (post_of first (end - first) words) (end - first) (word - first) 0 long (omega (arith, above))
            ∙ get_or-drop (end - first) (drop first words) (word - first - (end - first)) 0
            ∙ get_or-drop first words (end - first + (word - first - (end - first))) 0 ∙ ap (λ (k : ℕ). get_or words k 0) place
      ],
    )

-- How many words stand between two places.
length-mid_of : (words : List ℕ) (first end : ℕ) → end ≤ length words → length (mid_of first (end - first) words) ≡ end - first
length-mid_of words first end within = length-take-le (end - first) (drop first words) (omega (arith, within, length-drop first words))

-- Where words were made all ones, the numbers are marked that stand in them.
pub marked_by_fill : (words ones : List ℕ) (first end : ℕ) → first ≤ end → end ≤ length words
    → ones ≡ replicate (length (mid_of first (end - first) words)) (2 ^ 64 - 1)
    → MarksMore words (λ n. IsBetween first end (n / 64)) (put_mid first (end - first) words ones)
marked_by_fill words ones first end ordered within filled = λ n.
    let count : length (mid_of first (end - first) words) ≡ end - first = length-mid_of words first end within in
    let long : length ones ≡ end - first = ap length filled ∙ length-replicate _ (2 ^ 64 - 1) ∙ count in
    let cases = put_mid-cases words ones first end (n / 64) ordered within long in
    let marked : IsBetween first end (n / 64) → IsMarked (put_mid first (end - first) words ones) n = λ b.
    let word : get_or (put_mid first (end - first) words ones) (n / 64) 0 ≡ 2 ^ 64 - 1 =
    cases.0 b.0 b.1 ∙ ap (λ (l : List ℕ). get_or l (n / 64 - first) 0) filled
    ∙ get_or-replicate _ (n / 64 - first) (2 ^ 64 - 1) 0 (omega (arith, count, b.0, b.1)) in
    ap (λ (w : ℕ). bit_at w (n % 64)) word ∙ bit_at_ones 64 (n % 64) (omega arith) in
    let beside : (n / 64 < first) ⊎ (end ≤ n / 64) → IsMarked (put_mid first (end - first) words ones) n ↔ IsMarked words n =
    λ b. mark_stays words (put_mid first (end - first) words ones) n (cases.1 b) in (
      λ m. elim (cases_lt (n / 64) first) [
        | inl below ↦ inl ((beside (inl below)).0 m)
        | inr from ↦ elim (cases_lt (n / 64) end) [
          | inl inside ↦ inr (from, inside)
          | inr above ↦ inl ((beside (inr above)).0 m)
        ]
      ],
      λ m. elim m [
        | inl was ↦ elim (cases_lt (n / 64) first) [
          | inl below ↦ (beside (inl below)).1 was
          | inr from ↦ elim (cases_lt (n / 64) end) [
            | inl inside ↦ marked (from, inside)
            | inr above ↦ (beside (inr above)).1 was
          ]
        ]
        | inr b ↦ marked b
      ],
    )

-- Marks of these numbers and then of those are marks of all of them.
pub marked_by_both : (a b c : List ℕ) (P Q R : ℕ → Type 0) → MarksMore a P b → MarksMore b Q c → ((n : ℕ) → (P n ⊎ Q n) ↔ R n) → MarksMore a R c
marked_by_both a b c P Q R first then all = λ n. (
  λ m. elim ((then n).0 m) [
    | inl before ↦ elim ((first n).0 before) [ inl was ↦ inl was | inr p ↦ inr ((all n).0 (inl p)) ]
    | inr q ↦ inr ((all n).0 (inr q))
  ],
  λ m. elim m [
    | inl was ↦ (then n).1 (inl ((first n).1 (inl was)))
    | inr r ↦ elim ((all n).1 r) [ inl p ↦ (then n).1 (inl ((first n).1 (inr p))) | inr q ↦ (then n).1 (inr q) ]
  ],
)

-- Marks of the same numbers, told otherwise.
pub marked_as : (a b : List ℕ) (P Q : ℕ → Type 0) → MarksMore a P b → ((n : ℕ) → P n ↔ Q n) → MarksMore a Q b
marked_as a b P Q marks same = λ n. (
  λ m. elim ((marks n).0 m) [ inl was ↦ inl was | inr p ↦ inr ((same n).0 p) ],
  λ m. (marks n).1 (elim m [ inl was ↦ inl was | inr q ↦ inr ((same n).1 q) ]),
)

-- The lowest 1 of a word's upper bits, if they have one.
pub lowest_one : (word low : ℕ) → word < 2 ^ 64 → low + trailing_zeros w64 (word / 2 ^ low) < 64
    → bit_at word (low + trailing_zeros w64 (word / 2 ^ low)) ≡ 1
unfolding lib.Count.count_trailing_zeros
lowest_one word low small below =
    let far = trailing_zeros w64 (word / 2 ^ low) in
    elim (cases_eq (word / 2 ^ low) 0) [
      | inl none ↦
          let all : far ≡ 64 = ap (λ (n : ℕ). trailing_zeros w64 n) none in
          absurd (omega (arith, below, all))
      | inr some ↦
          let lowest = bit_at-trailing_zeros w64 (word / 2 ^ low) (omega (arith, some)) (omega (arith, small, shr_le word low)) in
          sym (ap (λ (x : ℕ). x % 2) (shr-shr word low far)) ∙ lowest.1
    ]

-- Below the lowest 1 of a word's upper bits those are 0.
pub none_below : (word low k : ℕ) → word < 2 ^ 64 → low ≤ k → k < low + trailing_zeros w64 (word / 2 ^ low) → bit_at word k ≡ 0
none_below word low k small from below =
    let place : low + (k - low) ≡ k = omega arith in
    let shifted : bit_at word k ≡ bit_at (word / 2 ^ low) (k - low) =
    sym (ap (λ (x : ℕ). x % 2) (shr-shr word low (k - low)) ∙ ap (λ (j : ℕ). bit_at word j) place) in
    elim (cases_eq (word / 2 ^ low) 0) [
      | inl none ↦ shifted ∙ ap (λ (x : ℕ). bit_at x (k - low)) none ∙ bit_at-zero (k - low)
      | inr some ↦
          let lowest = bit_at-trailing_zeros w64 (word / 2 ^ low) (omega (arith, some)) (omega (arith, small, shr_le word low)) in
          shifted ∙ lowest.2 (k - low) (omega arith)
    ]
