-- The place of the free bytes' number among the targets: its own value, or half a turn on where it has the sign.
use Rattle.std.proofs.Common.{◌≡◌, ℕ, zero, suc, pos, ◌+◌, ◌*◌, ◌-◌, ◌^◌, ◌<◌, ◌≤◌, ◌+ℤ◌, ◌-ℤ◌, List, [], ◌∷◌, length, replicate, refl, sym, ap, ap₂, subst, ◌∙◌, arith, if◌then◌else◌, nat_lt, inl, inr, ◌⊎◌, true, false, ltb, length-append}
use Rattle.std.proofs.lemmas.Bool.{cases_lt}
use Rattle.std.proofs.lemmas.Bool.Decides.{nat_tests}
use Rattle.std.proofs.lemmas.Int.{ints}
use Rattle.std.proofs.lemmas.List.{length-replicate}
use Rattle.std.proofs.Math.Nat.{pow-suc, mul-add, mul_comm, lt_of_mul-lt-mul_left, mul-le-mul_left}
use Rattle.jump_form.specs.Jumps.{AreBytes, signed}
use Rattle.jump_form.specs.Windows.{filler}
use Rattle.jump_form.proofs.ByteNumbers.{number, number-append, number-zeros, bytes-append}

-- Half the number of the values that n + 1 bytes have.
abbrev pub half : ℕ → ℕ
half n = 128 * 256 ^ n

-- The place of the free bytes' number k: half a turn on where the highest free byte has the sign, and else k.
abbrev pub place : ℕ → List ℕ → ℕ → ℕ
place zero high k = k
place (suc n) [] k = if nat_lt k (half n) then k + half n else k - half n
place (suc n) (b ∷ bs) k = k

-- A place is below the number of values.
pub place_below : (free : ℕ) (high : List ℕ) (k : ℕ) → k < 256 ^ free → place free high k < 256 ^ free
place_below zero high k h = h
place_below (suc n) [] k h = grind (arith, nat_tests, pow-suc 256 n)
place_below (suc n) (b ∷ bs) k h = h

-- The place of a place is the number itself.
pub place_twice : (free : ℕ) (high : List ℕ) (k : ℕ) → k < 256 ^ free → place free high (place free high k) ≡ k
place_twice zero high k h = refl
place_twice (suc n) [] k h = grind (arith, nat_tests, pow-suc 256 n)
place_twice (suc n) (b ∷ bs) k h = refl

-- A number below 2^31 is its own signed number.
pub signed_low : (n : ℕ) → n < 2 ^ 31 → signed n ≡ pos n
signed_low n h = let t : ltb n (2 ^ 31) ≡ true = grind (arith, nat_tests) in rw t refl

-- From 2^31 on the signed number is 2^32 less.
pub signed_high : (n : ℕ) → 2 ^ 31 ≤ n → signed n ≡ pos n -ℤ pos (2 ^ 32)
signed_high n h = let t : ltb n (2 ^ 31) ≡ false = grind (arith, nat_tests) in rw t refl

-- More is added, and the sign stays.
signed_up : (n m : ℕ) → (n < 2 ^ 31 → n + m < 2 ^ 31) → signed (n + m) ≡ signed n +ℤ pos m
signed_up n m kept = by_case (cases_lt n (2 ^ 31))
  where
    by_case : (n < 2 ^ 31) ⊎ (2 ^ 31 ≤ n) → signed (n + m) ≡ signed n +ℤ pos m
    by_case (inl lt) = omega (arith, ints, signed_low n lt, signed_low (n + m) (kept lt))
    by_case (inr ge) = omega (arith, ints, signed_high n ge, signed_high (n + m) (omega arith))

-- The filler has as many bytes as are free.
pub length-filler : (free : ℕ) (high : List ℕ) → length (filler free high) ≡ free
length-filler zero high = refl
length-filler (suc n) [] = omega (arith, length-append {A = ℕ} (replicate n 0) (0x80 ∷ []), length-replicate {A = ℕ} n 0)
length-filler (suc n) (b ∷ bs) = length-replicate {A = ℕ} (suc n) 0

zeros_are_bytes : (n : ℕ) → AreBytes (replicate n 0)
zeros_are_bytes zero = tt
zeros_are_bytes (suc n) = (omega arith, zeros_are_bytes n)

-- Each is a byte.
pub filler_bytes : (free : ℕ) (high : List ℕ) → AreBytes (filler free high)
filler_bytes zero high = tt
filler_bytes (suc n) [] = bytes-append (replicate n 0) (0x80 ∷ []) (zeros_are_bytes n) (omega arith, tt)
filler_bytes (suc n) (b ∷ bs) = zeros_are_bytes (suc n)

number-sign : (n : ℕ) → number (filler (suc n) []) ≡ half n
number-sign n =
    let e = number-append (replicate n 0) (0x80 ∷ []) in
    let l = ap (λ k. 256 ^ k * (0x80 + 256 * 0)) (length-replicate {A = ℕ} n 0) in
    omega (arith, e, number-zeros n, l)

-- Values of the free bytes keep the sign, which stands above them.
kept : (N L F H V k : ℕ) → N < L → k < F → N + L * F * H < L * F * V → N + L * F * H + L * k < L * F * V
kept N L F H V k small few below =
    let under : L * F * H < L * F * V = omega arith in
    let less : H < V = lt_of_mul-lt-mul_left (L * F) under in
    let more : H + 1 ≤ V = omega arith in
    let a = mul-le-mul_left (L * F) more in
    let b = mul-add (L * F) H 1 in
    let few' : k + 1 ≤ F = omega arith in
    let c = mul-le-mul_left L few' in
    let d = mul-add L k 1 in
    omega (arith, a, b, c, d)

-- Free bytes that have the sign: from the half on the values are negative, and come first.
high_half : (N L P k : ℕ) → L * P ≡ 2 ^ 31 → signed (N + L * (k + P)) ≡ signed (N + L * P) +ℤ pos (k * L)
high_half N L P k e =
    let s = mul-add L k P in
    let t = mul_comm k L in
    omega (arith, ints, s, t, signed_high (N + L * (k + P)) (omega (arith, s)), signed_high (N + L * P) (omega arith))

low_half : (N L P j : ℕ) → N < L → L * P ≡ 2 ^ 31 → j < P → signed (N + L * j) ≡ signed (N + L * P) +ℤ pos ((j + P) * L)
low_half N L P j small e few =
    let s = mul-add L j P in
    let t = mul_comm (j + P) L in
    let more : j + 1 ≤ P = omega arith in
    let u = mul-le-mul_left L more in
    let v = mul-add L j 1 in
    omega (arith, ints, s, t, signed_low (N + L * j) (omega (arith, u, v)), signed_high (N + L * P) (omega arith))

-- The number of the low bytes, N below L, then the number M of the free bytes, then that of the high bytes.
abbrev pub whole : ℕ → ℕ → ℕ → ℕ → ℕ → ℕ
whole N L F H M = N + L * M + L * F * H

half_of : (n L : ℕ) → L * 256 ^ suc n * 256 ^ zero ≡ 2 ^ 32 → L * half n ≡ 2 ^ 31
half_of n L all =
    let two : 256 ^ suc n ≡ half n + half n = omega (arith, pow-suc 256 n) in
    omega (arith, all, ap (λ x. L * x) two, mul-add L (half n) (half n))

-- The displacement whose free bytes stand at place k is k steps above the lowest.
pub signed_place : (free : ℕ) (high : List ℕ) (N L k : ℕ) → N < L → L * 256 ^ free * 256 ^ length high ≡ 2 ^ 32 → k < 256 ^ free
    → signed (whole N L (256 ^ free) (number high) (place free high k)) ≡ signed (whole N L (256 ^ free) (number high) (number (filler free high))) +ℤ pos (k * L)
signed_place zero high N L k small all few =
    let none : k ≡ 0 = omega arith in
    let P : ℕ → Type 0 = λ x. signed (whole N L (256 ^ zero) (number high) x) ≡ signed (whole N L (256 ^ zero) (number high) 0) +ℤ pos (x * L) in
    let at : P 0 = omega (arith, ints) in
    subst P (sym none) at
signed_place (suc n) [] N L k small all few = by_case (cases_lt k (half n))
  where
    by_place : (M : ℕ) → signed (N + L * M) ≡ signed (N + L * half n) +ℤ pos (k * L) → signed (whole N L (256 ^ suc n) 0 M) ≡ signed (whole N L (256 ^ suc n) 0 (number (filler (suc n) []))) +ℤ pos (k * L)
    by_place M e =
        let first : whole N L (256 ^ suc n) 0 M ≡ N + L * M = omega arith in
        let sign = number-sign n in
        let second : whole N L (256 ^ suc n) 0 (number (filler (suc n) [])) ≡ N + L * half n = omega (arith, ap (λ x. L * x) sign) in
        ap (λ x. signed x) first ∙ e ∙ ap (λ x. signed x +ℤ pos (k * L)) (sym second)

    by_case : (k < half n) ⊎ (half n ≤ k) → signed (whole N L (256 ^ suc n) 0 (place (suc n) [] k)) ≡ signed (whole N L (256 ^ suc n) 0 (number (filler (suc n) []))) +ℤ pos (k * L)
    by_case (inl lt) =
        let test : ltb k (half n) ≡ true = grind (arith, nat_tests) in
        rw test (by_place (k + half n) (high_half N L (half n) k (half_of n L all)))
    by_case (inr ge) =
        let test : ltb k (half n) ≡ false = grind (arith, nat_tests) in
        let j = k - half n in
        let back : j + half n ≡ k = omega arith in
        let few' : j < half n = omega (arith, pow-suc 256 n) in
        rw test (by_place j (low_half N L (half n) j small (half_of n L all) few' ∙ ap (λ x. signed (N + L * half n) +ℤ pos (x * L)) back))
signed_place (suc n) (b ∷ bs) N L k small all few =
    let F = 256 ^ suc n in
    let H = number (b ∷ bs) in
    let V = half (length bs) in
    let zeros = number-zeros (suc n) in
    let two : 256 ^ suc (length bs) ≡ V + V = omega (arith, pow-suc 256 (length bs)) in
    let sign : L * F * V ≡ 2 ^ 31 = omega (arith, all, ap (λ x. L * F * x) two, mul-add (L * F) V V) in
    let first : whole N L F H k ≡ N + L * F * H + L * k = omega arith in
    let second : whole N L F H (number (filler (suc n) (b ∷ bs))) ≡ N + L * F * H = omega (arith, ap (λ x. L * x) zeros) in
    let up = signed_up (N + L * F * H) (L * k) (λ h. let below = kept N L F H V k small few (omega (arith, h, sign)) in omega (arith, below, sign)) in
    ap (λ x. signed x) first ∙ up ∙ ap₂ (λ x y. signed x +ℤ pos y) (sym second) (mul_comm L k)
