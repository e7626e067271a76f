-- A field of bytes that was changed has its new number, and other fields keep theirs.
use Rattle.std.proofs.Common.{◌≡◌, ◌⊎◌, inl, inr, ℕ, zero, suc, ◌+◌, ◌-◌, ◌*◌, ◌^◌, ◌≤◌, ◌<◌, List, ◌++◌, length, get_or, take, drop, replicate, refl, sym, ap, ap₂, ◌∙◌, arith}
use Rattle.std.proofs.lemmas.Bool.{cases_lt}
use Rattle.std.proofs.lemmas.List.{get_or_append_left, get_or-append_right, get_or-take, get_or-drop, get_or-replicate, length-append, length-drop, length-take, length-take-le, length-replicate, drop_at, drop-replicate, get_or_past}
use Rattle.byteorder.specs.Endian.{little_from, little_number, little_bytes}
use Rattle.byteorder.specs.Numbers.{length-bytes_low_first, little_number-reads_back}
use Rattle.pun_base.specs.Field.{field, with_field}

-- lists with the same bytes give the same number there
little_from_same : (i n : ℕ) (xs ys : List ℕ) → ((q : ℕ) → q < i + n → get_or xs q 0 ≡ get_or ys q 0)
    → little_from i n xs ≡ little_from i n ys
little_from_same i zero xs ys h = refl
little_from_same i (suc n) xs ys h =
    ap₂ (λ x y. x + 256 * y) (h i (omega arith)) (little_from_same (suc i) n xs ys (λ q k. h q (omega arith)))

-- among zeros the number is 0
zeros_from : (i n m : ℕ) → little_from i n (replicate m 0) ≡ 0
zeros_from i zero m = refl
zeros_from i (suc n) m = ap₂ (λ x y. x + 256 * y) (zero_at i m) (zeros_from (suc i) n m)
  where
    zero_at : (i m : ℕ) → get_or (replicate {A = ℕ} m 0) i 0 ≡ 0
    zero_at i m = elim (cases_lt i m) [
      | inl l ↦ get_or-replicate m i 0 0 l
      | inr l ↦ get_or_past (replicate {A = ℕ} m 0) i 0 (omega (arith, length-replicate {A = ℕ} m 0))
    ]

-- each field of zeros is 0
pub zero_field : (w at m : ℕ) → field w at (replicate m 0) ≡ 0
zero_field w at m = ap (little_number w) (drop-replicate at m 0) ∙ zeros_from 0 w (m - at)

-- setting a field makes no list of bytes shorter
pub length-with_field : (w at v : ℕ) (bytes : List ℕ) → length bytes ≤ length (with_field w at v bytes)
length-with_field w at v bytes = omega (
  arith,
  length-append (take at bytes) (little_bytes w v ++ drop (at + w) bytes),
  length-take at bytes,
  length-append (little_bytes w v) (drop (at + w) bytes),
  length-bytes_low_first 0 w v,
  length-drop (at + w) bytes,
)

-- the field has the number
pub field_same : (w at v : ℕ) (bytes : List ℕ) → at ≤ length bytes → v < 256 ^ w → field w at (with_field w at v bytes) ≡ v
field_same w at v bytes l h =
    ap (little_number w) (drop_at (take at bytes) (little_bytes w v ++ drop (at + w) bytes) at (length-take-le at bytes l))
    ∙ little_number-reads_back w v (drop (at + w) bytes) h

-- bytes away from it are as they were
byte_other : (w at v : ℕ) (bytes : List ℕ) (k : ℕ) → k < length bytes → (k < at) ⊎ (at + w ≤ k)
    → get_or (with_field w at v bytes) k 0 ≡ get_or bytes k 0
byte_other w at v bytes k l (inl b) =
    get_or_append_left (take at bytes) (little_bytes w v ++ drop (at + w) bytes) 0 k (omega (arith, length-take at bytes))
    ∙ get_or-take at bytes k 0 b
byte_other w at v bytes k l (inr b) =
    get_or-append_right (take at bytes) (little_bytes w v ++ drop (at + w) bytes) at k 0 (length-take-le at bytes (omega arith))
    (omega arith)
    ∙ get_or-append_right (little_bytes w v) (drop (at + w) bytes) w (k - at) 0 (length-bytes_low_first 0 w v) (omega arith)
    ∙ get_or-drop (at + w) bytes (k - at - w) 0
    ∙ ap (λ z. get_or bytes z 0) (let e : at + w + (k - at - w) ≡ k = omega arith in e)

-- fields of n bytes that don't meet a changed field are as they were
pub field_other : (n w at to v : ℕ) (bytes : List ℕ) → to + n ≤ length bytes → (to + n ≤ at) ⊎ (at + w ≤ to)
    → field n to (with_field w at v bytes) ≡ field n to bytes
field_other n w at to v bytes l a =
    little_from_same 0 n (drop to (with_field w at v bytes)) (drop to bytes)
    (λ q k. get_or-drop to (with_field w at v bytes) q 0
    ∙ byte_other w at v bytes (to + q) (omega arith) (side q (omega arith) a)
    ∙ sym (get_or-drop to bytes q 0))
  where
    side : (q : ℕ) → q < n → (to + n ≤ at) ⊎ (at + w ≤ to) → (to + q < at) ⊎ (at + w ≤ to + q)
    side q k (inl b) = inl (omega arith)
    side q k (inr b) = inr (omega arith)
