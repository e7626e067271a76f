-- Numbers as lists of bytes, the lowest first.
use Rattle.std.proofs.Common.{◌≡◌, ℕ, zero, suc, ◌+◌, ◌*◌, ◌/◌, ◌%◌, ◌^◌, ◌<◌, List, [], ◌∷◌, ◌++◌, length, replicate, refl, ap, ap₂, ◌∙◌, arith}
use Rattle.std.proofs.Math.Nat.{pow-suc, mul-add, mul_assoc, mul_comm}
use Rattle.pun_base.specs.Field.{field}
pub use Rattle.pun_base.specs.Field.{number_of as number}
use Rattle.jump_form.specs.Jumps.{AreBytes}

-- A field of four bytes holds their number.
pub field-number : (bs : List ℕ) → length bs ≡ 4 → field 4 0 bs ≡ number bs
field-number [] e = absurd (omega arith)
field-number (a ∷ []) e = absurd (omega arith)
field-number (a ∷ b ∷ []) e = absurd (omega arith)
field-number (a ∷ b ∷ c ∷ []) e = absurd (omega arith)
field-number (a ∷ b ∷ c ∷ d ∷ []) e = refl
field-number (a ∷ b ∷ c ∷ d ∷ x ∷ xs) e = absurd (omega arith)

-- The number of two lists one behind the other is that of the first and, above it, that of the second.
pub number-append : (xs ys : List ℕ) → number (xs ++ ys) ≡ number xs + 256 ^ length xs * number ys
number-append [] ys = omega arith
number-append (x ∷ xs) ys =
    let e = number-append xs ys in
    let m = mul_assoc 256 (256 ^ length xs) (number ys) in
    let p = ap (λ k. k * number ys) (pow-suc 256 (length xs) ∙ mul_comm (256 ^ length xs) 256) in
    omega (arith, e, m, p)

-- The number of n bytes is below 256^n.
pub number_below : (bs : List ℕ) → AreBytes bs → number bs < 256 ^ length bs
number_below [] small = omega arith
number_below (b ∷ bs) small = omega (arith, number_below bs small.1, pow-suc 256 (length bs), small.0)

-- The n low bytes of a number.
abbrev pub digits : ℕ → ℕ → List ℕ
digits zero k = []
digits (suc n) k = (k % 256) ∷ digits n (k / 256)

-- There are n of them.
pub length-digits : (n k : ℕ) → length (digits n k) ≡ n
length-digits zero k = refl
length-digits (suc n) k = omega (arith, length-digits n (k / 256))

-- Each is a byte.
pub digits_are_bytes : (n k : ℕ) → AreBytes (digits n k)
digits_are_bytes zero k = tt
digits_are_bytes (suc n) k = (omega arith, digits_are_bytes n (k / 256))

-- Their number is the number itself, where that is below 256^n.
pub number-digits : (n k : ℕ) → k < 256 ^ n → number (digits n k) ≡ k
number-digits zero k below = omega arith
number-digits (suc n) k below =
    let e = pow-suc 256 n in
    let below' = rw e at below in
    omega (arith, number-digits n (k / 256) (omega arith))

-- Two lists of bytes, one behind the other, are bytes.
pub bytes-append : (xs ys : List ℕ) → AreBytes xs → AreBytes ys → AreBytes (xs ++ ys)
bytes-append [] ys p q = q
bytes-append (x ∷ xs) ys p q = (p.0, bytes-append xs ys p.1 q)

-- The front of bytes is bytes.
pub bytes_front : (xs ys : List ℕ) → AreBytes (xs ++ ys) → AreBytes xs
bytes_front [] ys p = tt
bytes_front (x ∷ xs) ys p = (p.0, bytes_front xs ys p.1)

-- What stands behind the front of bytes is bytes.
pub bytes_back : (xs ys : List ℕ) → AreBytes (xs ++ ys) → AreBytes ys
bytes_back [] ys p = p
bytes_back (x ∷ xs) ys p = bytes_back xs ys p.1

-- The number of zeros is 0.
pub number-zeros : (n : ℕ) → number (replicate n 0) ≡ 0
number-zeros zero = refl
number-zeros (suc n) = omega (arith, number-zeros n)

-- The number of bytes in three parts.
pub number-parts : (low mid high : List ℕ) (free : ℕ) → length mid ≡ free → number (low ++ (mid ++ high)) ≡ number low + 256 ^ length low * number mid + 256 ^ length low * 256 ^ free * number high
number-parts low mid high free e =
    let p = number-append low (mid ++ high) in
    let q = ap (λ x. 256 ^ length low * x) (number-append mid high) in
    let r = mul-add (256 ^ length low) (number mid) (256 ^ length mid * number high) in
    let s = mul_assoc (256 ^ length low) (256 ^ length mid) (number high) in
    let t = ap (λ x. 256 ^ length low * 256 ^ x * number high) e in
    omega (arith, p, q, r, s, t)

-- As many bytes with the same number are the same.
pub same_bytes : (xs ys : List ℕ) → length xs ≡ length ys → AreBytes xs → AreBytes ys → number xs ≡ number ys → xs ≡ ys
same_bytes [] [] e p q n = refl
same_bytes [] (y ∷ ys) e p q n = absurd (omega arith)
same_bytes (x ∷ xs) [] e p q n = absurd (omega arith)
same_bytes (x ∷ xs) (y ∷ ys) e p q n =
    let first : x ≡ y = omega (arith, n, p.0, q.0) in
    let rest : number xs ≡ number ys = omega (arith, n, p.0, q.0) in
    ap₂ (λ b bs. b ∷ bs) first (same_bytes xs ys (omega arith) p.1 q.1 rest)
