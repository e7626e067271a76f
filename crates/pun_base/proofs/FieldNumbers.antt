-- A field's bytes and its number give each other, at each width.
use Rattle.std.proofs.Common.{◌≡◌, ℕ, ◌+◌, ◌-◌, ◌^◌, ◌<◌, ◌≤◌, List, ◌++◌, length, take, drop, ap, ◌∙◌, subst, arith, append_assoc, zero, suc, ◌*◌, ◌/◌, ◌%◌, [], ◌∷◌, get_or, refl, sym}
use Rattle.std.proofs.lemmas.List.{length-take, length-drop, get_or-drop, take-append-drop}
use Rattle.std.proofs.Math.Nat.{pow-succ', div-div-eq-div-mul}
use Rattle.std.specs.Int.{byte_at, bytes_low_first}
use Rattle.std.proofs.Math.Seq.{drop-append_seam}
use Rattle.byteorder.specs.Endian.{little_from, little_number, little_bytes}
use Rattle.byteorder.specs.Numbers.{little_from-append, little_number-reads_back}
use Rattle.pun_base.specs.Field.{field}
use borrow.Rule.Slice.PartMut.{put_mid, post_of}

past_front : (at : ℕ) (xs ys : List ℕ) → at ≤ length xs → drop at (take at xs ++ ys) ≡ ys
past_front at xs ys l = let e : length (take at xs) ≡ at = omega (arith, length-take {A = ℕ}) in
    subst (λ (n : ℕ). drop n (take at xs ++ ys) ≡ ys) e (drop-append_seam (take at xs) ys)

-- a part of a slice begins with the number's bytes
pub field-put_mid : (n at k value : ℕ) (xs rest ys : List ℕ) → at ≤ length xs → value < 256 ^ n
    → ys ≡ little_bytes n value ++ rest → field n at (put_mid at k xs ys) ≡ value
field-put_mid n at k value xs rest ys l f e =
    let p = past_front at xs (ys ++ post_of at k xs) l in
    ap (little_number n) (p ∙ ap (λ zs. zs ++ post_of at k xs) e ∙ append_assoc (little_bytes n value) rest (post_of at k xs))
    ∙ little_number-reads_back n value (rest ++ post_of at k xs) f

byte_at-next : (i x : ℕ) → byte_at (suc i) x ≡ byte_at i (x / 256)
byte_at-next zero x = refl
byte_at-next (suc i) x =
    ap (λ (k : ℕ). x / k % 256) (pow-succ' 256 (suc i)) ∙ ap (λ (k : ℕ). k % 256) (sym (div-div-eq-div-mul x 256 (256 ^ suc i)))

low_first-next : (i k x : ℕ) → bytes_low_first (suc i) k x ≡ bytes_low_first i k (x / 256)
low_first-next i zero x = refl
low_first-next i (suc k) x = let e = byte_at-next i x in let f = low_first-next (suc i) k x in cc

-- the number of n bytes from place i + 1 on is that from place i on in the bytes without the first
pub little_from-next : (i n b : ℕ) (bs : List ℕ) → little_from (suc i) n (b ∷ bs) ≡ little_from i n bs
little_from-next i zero b bs = refl
little_from-next i (suc n) b bs = ap (λ m. get_or bs i 0 + 256 * m) (little_from-next (suc i) n b bs)

-- the number of the first n bytes has these bytes
pub little_bytes-little_number : (n : ℕ) (bs : List ℕ) → n ≤ length bs → ((i : ℕ) → get_or bs i 0 < 256)
    → little_bytes n (little_number n bs) ≡ take n bs
little_bytes-little_number zero bs l f = refl
little_bytes-little_number (suc n) [] l f = absurd (omega arith)
little_bytes-little_number (suc n) (b ∷ bs) l f =
    let m = little_from 0 n bs in
    let x = little_from 0 (suc n) (b ∷ bs) in
    let e : x ≡ b + 256 * m = ap (λ k. b + 256 * k) (little_from-next 0 n b bs) in
    let fits : b < 256 = f 0 in
    let low : x % 256 ≡ b = omega arith in
    let high : x / 256 ≡ m = omega arith in
    let rest = little_bytes-little_number n bs (omega arith) (λ i. f (suc i)) in
    ap (λ y. y ∷ bytes_low_first 1 n x) low ∙ ap (λ ys. b ∷ ys) (low_first-next 0 n x ∙ ap (bytes_low_first 0 n) high ∙ rest)

-- the number of a field anywhere has the field's bytes
pub little_bytes-field : (n at : ℕ) (bs : List ℕ) → at + n ≤ length bs → ((i : ℕ) → get_or bs i 0 < 256)
    → little_bytes n (field n at bs) ≡ take n (drop at bs)
little_bytes-field n at bs l f =
    little_bytes-little_number n (drop at bs) (omega (arith, length-drop {A = ℕ})) (λ i. rw (get_or-drop at bs i 0) (f (at + i)))

-- the number of the bytes cut out at a field's place is the field's
pub little_number-part : (n at : ℕ) (bs : List ℕ) → at + n ≤ length bs → little_number n (take (at + n - at) (drop at bs)) ≡ field n at bs
little_number-part n at bs l =
    let e : at + n - at ≡ n = omega arith in
    let long : n ≤ length (take n (drop at bs)) = omega (arith, length-take {A = ℕ}, length-drop {A = ℕ}) in
    ap (λ k. little_number n (take k (drop at bs))) e
    ∙ sym (little_from-append n (take n (drop at bs)) (drop n (drop at bs)) long)
    ∙ ap (little_number n) (take-append-drop n (drop at bs))
