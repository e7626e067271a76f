-- The header's fields, changed and given back, byte by byte.
use Rattle.std.proofs.Common.{◌≡◌, ℕ, zero, suc, ◌+◌, ◌-◌, ◌*◌, ◌/◌, ◌%◌, ◌^◌, ◌<◌, ◌≤◌, ◌⊎◌, inl, inr, List, length, drop, slice_index, Option, Some, None, refl, sym, ap, ◌∙◌, subst, arith, lit<}
use Rattle.std.proofs.Math.Nat.{div-div-eq-div-mul, pow-succ'}
use Rattle.std.proofs.lemmas.Bool.{cases_lt}
use Rattle.std.proofs.lemmas.List.{get_or-drop}
use Rattle.std.specs.Int.{byte_at, bytes_low_first}
use Rattle.byteorder.specs.Endian.{little_from, little_bytes}
use Rattle.byteorder.specs.Numbers.{length-bytes_low_first}
use Rattle.pun_base.specs.Field.{field, with_field}
use Rattle.elf_read.specs.Entries.{table_place, table_count, entry_of}
use Rattle.elf_emit.specs.Frames.{slice, with_entry}
use Rattle.elf_emit.proofs.PlacedSlices.{slice_elsewhere}
use Rattle.elf_emit.proofs.GroupPages.{slice_at}
use Rattle.elf_emit.proofs.OriginalFacts.{placed_field, length_field, field_found}
use Rattle.patch_report.specs.declared.origin.Origin.{Origin}
use Rattle.unpatch.specs.Undone.{with_origin}

-- a number's bytes are those that it was read from
byte_past : (k x : ℕ) → byte_at (suc k) x ≡ byte_at k (x / 256)
byte_past zero x = refl
byte_past (suc k) x =
    ap (λ (y : ℕ). y % 256) (ap (λ (p : ℕ). x / p) (pow-succ' 256 (suc k)) ∙ sym (div-div-eq-div-mul x 256 (256 ^ suc k)))

byte_from : (n k i : ℕ) (xs : List ℕ) → ((j : ℕ) → slice_index xs j < 256) → k < n → byte_at k (little_from i n xs) ≡ slice_index xs (i + k)
byte_from zero k i xs h l = absurd (omega arith)
byte_from (suc n) zero i xs h l =
    let b = h i in let e : i + 0 ≡ i = omega arith in
    low (slice_index xs i) (little_from (suc i) n xs) b ∙ ap (λ (j : ℕ). slice_index xs j) (sym e)
  where
    low : (b r : ℕ) → b < 256 → (b + 256 * r) % 256 ≡ b
    low b r m = omega arith
byte_from (suc n) (suc k) i xs h l =
    let b = h i in let e : suc i + k ≡ i + suc k = omega arith in
    byte_past k (slice_index xs i + 256 * little_from (suc i) n xs)
    ∙ ap (λ (x : ℕ). byte_at k x) (high (slice_index xs i) (little_from (suc i) n xs) b)
    ∙ byte_from n k (suc i) xs h (omega arith) ∙ ap (λ (j : ℕ). slice_index xs j) e
  where
    high : (b r : ℕ) → b < 256 → (b + 256 * r) / 256 ≡ r
    high b r m = omega arith

bytes_at : (i n k x : ℕ) → k < n → slice_index (bytes_low_first i n x) k ≡ byte_at (i + k) x
bytes_at i zero k x l = absurd (omega arith)
bytes_at i (suc n) zero x l = let e : i + 0 ≡ i = omega arith in ap (λ (j : ℕ). byte_at j x) (sym e)
bytes_at i (suc n) (suc k) x l = let e : suc i + k ≡ i + suc k = omega arith in bytes_at (suc i) n k x (omega arith) ∙ ap (λ (j : ℕ). byte_at j x) e

-- a field of a list of bytes, spelled again, has the list's bytes
pub spelled_back : (n at k : ℕ) (xs : List ℕ) → ((j : ℕ) → slice_index xs j < 256) → k < n → slice_index (little_bytes n (field n at xs)) k ≡ slice_index xs (at + k)
spelled_back n at k xs h l =
    let z : 0 + k ≡ k = omega arith in
    bytes_at 0 n k (field n at xs) l ∙ ap (λ (j : ℕ). byte_at j (field n at xs)) z
    ∙ byte_from n k 0 (drop at xs) (λ j. subst (λ (z : ℕ). z < 256) (sym (get_or-drop at xs j 0)) (h (at + j))) l
    ∙ first (drop at xs) ∙ get_or-drop at xs k 0
  where
    first : (ys : List ℕ) → slice_index ys (0 + k) ≡ slice_index ys k
    first ys = let e : 0 + k ≡ k = omega arith in ap (λ (j : ℕ). slice_index ys j) e

-- a slice of one byte is the byte at its place
pub byte_slice : (k : ℕ) (xs : List ℕ) → slice_index (slice 1 k xs) 0 ≡ slice_index xs k
byte_slice k xs = let e : k + 0 ≡ k = omega arith in slice_at 1 k 0 xs (lit< tt) ∙ ap (λ (x : ℕ). slice_index xs x) e

-- a byte in a field that was set is one of the bytes of its number
pub field_at : (n at v k : ℕ) (xs : List ℕ) → at + n ≤ length xs → at ≤ k → k < at + n → slice_index (with_field n at v xs) k ≡ slice_index (little_bytes n v) (k - at)
field_at n at v k xs l a b =
    let e : at + (k - at) ≡ k = omega arith in
    ap (λ (x : ℕ). slice_index (with_field n at v xs) x) (sym e)
    ∙ sym (slice_at n at (k - at) (with_field n at v xs) (omega arith))
    ∙ ap (λ (z : List ℕ). slice_index z (k - at)) (field_found n at v xs l)

-- a byte outside a field that was set is as before
pub field_else : (n at v k : ℕ) (xs : List ℕ) → at + n ≤ length xs → (k < at) ⊎ (at + n ≤ k) → slice_index (with_field n at v xs) k ≡ slice_index xs k
field_else n at v k xs l o =
    let e = length-bytes_low_first 0 n v in
    sym (byte_slice k (with_field n at v xs))
    ∙ ap (λ (z : List ℕ). slice_index (slice 1 k z) 0) (placed_field n at v xs)
    ∙ ap (λ (z : List ℕ). slice_index z 0) (slice_elsewhere 1 k xs at (little_bytes n v) (omega arith) (turned o e))
    ∙ byte_slice k xs
  where
    turned : (k < at) ⊎ (at + n ≤ k) → length (little_bytes n v) ≡ n → (k + 1 ≤ at) ⊎ (at + length (little_bytes n v) ≤ k)
    turned (inl p) e = inl (omega arith)
    turned (inr p) e = inr (omega arith)

-- in one of the three fields: the start, the table's place, the count of its entries
abbrev pub InFields : ℕ → Type 0
InFields k = ((24 ≤ k) × (k < 32)) ⊎ ((32 ≤ k) × (k < 40)) ⊎ ((56 ≤ k) × (k < 58))

-- outside the three fields
abbrev pub OutOfFields : ℕ → Type 0
OutOfFields k = ((k < 24) ⊎ (32 ≤ k)) × ((k < 32) ⊎ (40 ≤ k)) × ((k < 56) ⊎ (58 ≤ k))

-- each place is in one of the three fields or outside them all
pub cases_fields : (k : ℕ) → InFields k ⊎ OutOfFields k
cases_fields k = elim (cases_lt k 24) [
  | inl a ↦ inr (inl a, inl (omega arith), inl (omega arith))
  | inr a ↦ elim (cases_lt k 32) [
    | inl b ↦ inl (inl (a, b))
    | inr b ↦ elim (cases_lt k 40) [
      | inl c ↦ inl (inr (inl (b, c)))
      | inr c ↦ elim (cases_lt k 56) [
        | inl d ↦ inr (inr b, inr c, inl d)
        | inr d ↦ elim (cases_lt k 58) [
          | inl e ↦ inl (inr (inr (d, e)))
          | inr e ↦ inr (inr b, inr c, inr e)
        ]
      ]
    ]
  ]
]

-- with an origin's fields a list has as many bytes as before
pub length_origin : (o : Origin) (xs : List ℕ) → 64 ≤ length xs → length (with_origin o xs) ≡ length xs
length_origin o xs l =
    let a = length_field 8 24 o.entry xs (omega arith) in
    let b = length_field 8 32 o.phoff (with_field 8 24 o.entry xs) (omega arith) in
    length_field 2 56 o.phnum (with_field 8 32 o.phoff (with_field 8 24 o.entry xs)) (omega arith) ∙ b ∙ a

-- what a report tells of a file: its length, and of its header the table's place, the count of its entries and the start
abbrev pub told_of : List ℕ → Origin
told_of file = record { len = length file; phoff = table_place file; phnum = table_count file; entry = entry_of file }

-- outside the three fields an origin leaves each byte
pub origin_out : (o : Origin) (xs : List ℕ) (k : ℕ) → 64 ≤ length xs → OutOfFields k → slice_index (with_origin o xs) k ≡ slice_index xs k
origin_out o xs k l h =
    let a = length_field 8 24 o.entry xs (omega arith) in
    let b = length_field 8 32 o.phoff (with_field 8 24 o.entry xs) (omega arith) in
    field_else 2 56 o.phnum k (with_field 8 32 o.phoff (with_field 8 24 o.entry xs)) (omega arith) h.2
    ∙ field_else 8 32 o.phoff k (with_field 8 24 o.entry xs) (omega arith) h.1
    ∙ field_else 8 24 o.entry k xs (omega arith) h.0

-- in the three fields an original's origin gives the original's bytes
pub origin_in : (orig xs : List ℕ) (k : ℕ) → ((j : ℕ) → slice_index orig j < 256) → 64 ≤ length xs → InFields k → slice_index (with_origin (told_of orig) xs) k ≡ slice_index orig k
unfolding table_place table_count entry_of
origin_in orig xs k h l (inl p) =
    let p0 = p.0 in let p1 = p.1 in
    let o = told_of orig in
    let a = length_field 8 24 o.entry xs (omega arith) in
    let b = length_field 8 32 o.phoff (with_field 8 24 o.entry xs) (omega arith) in
    let e : 24 + (k - 24) ≡ k = omega arith in
    field_else 2 56 o.phnum k (with_field 8 32 o.phoff (with_field 8 24 o.entry xs)) (omega arith) (inl (omega arith))
    ∙ field_else 8 32 o.phoff k (with_field 8 24 o.entry xs) (omega arith) (inl (omega arith))
    ∙ field_at 8 24 o.entry k xs (omega arith) p0 (omega arith)
    ∙ spelled_back 8 24 (k - 24) orig h (omega arith) ∙ ap (λ (j : ℕ). slice_index orig j) e
origin_in orig xs k h l (inr (inl p)) =
    let p0 = p.0 in let p1 = p.1 in
    let o = told_of orig in
    let a = length_field 8 24 o.entry xs (omega arith) in
    let b = length_field 8 32 o.phoff (with_field 8 24 o.entry xs) (omega arith) in
    let e : 32 + (k - 32) ≡ k = omega arith in
    field_else 2 56 o.phnum k (with_field 8 32 o.phoff (with_field 8 24 o.entry xs)) (omega arith) (inl (omega arith))
    ∙ field_at 8 32 o.phoff k (with_field 8 24 o.entry xs) (omega arith) p0 (omega arith)
    ∙ spelled_back 8 32 (k - 32) orig h (omega arith) ∙ ap (λ (j : ℕ). slice_index orig j) e
origin_in orig xs k h l (inr (inr p)) =
    let p0 = p.0 in let p1 = p.1 in
    let o = told_of orig in
    let a = length_field 8 24 o.entry xs (omega arith) in
    let b = length_field 8 32 o.phoff (with_field 8 24 o.entry xs) (omega arith) in
    let e : 56 + (k - 56) ≡ k = omega arith in
    field_at 2 56 o.phnum k (with_field 8 32 o.phoff (with_field 8 24 o.entry xs)) (omega arith) p0 (omega arith)
    ∙ spelled_back 2 56 (k - 56) orig h (omega arith) ∙ ap (λ (j : ℕ). slice_index orig j) e

-- a new entry point leaves what is outside the fields
pub entry_out : (entry : Option ℕ) (orig : List ℕ) (k : ℕ) → 64 ≤ length orig → OutOfFields k → slice_index (with_entry entry orig) k ≡ slice_index orig k
entry_out None orig k l h = refl
entry_out (Some e) orig k l h = field_else 8 24 e k orig (omega (arith, l)) h.0
