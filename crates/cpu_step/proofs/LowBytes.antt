-- The low bytes of a number, taken off its eight bytes.
use Rattle.std.proofs.Common.{◌≡◌, ℕ, zero, suc, ◌/◌, ◌%◌, ◌^◌, ◌≤◌, ◌∷◌, take, refl, sym, ap, ◌∙◌, arith}
use Rattle.std.proofs.Math.Nat.{div-div-eq-div-mul, pow-suc}
use Rattle.std.specs.Int.{w64, to_le_bytes, byte_at, bytes_low_first}
use Rattle.cpu_state.specs.Bytes.{bytes_of}

byte_is : (i v : ℕ) → byte_at i v ≡ v / 256 ^ i % 256
byte_is zero v = let e : v ≡ v / 1 = omega arith in ap (λ z. z % 256) e
byte_is (suc i) v = refl

-- the first n bytes of a number from its byte i on are the low n bytes of what is left above that place
pub bytes_from : (i k n v : ℕ) → n ≤ k → take n (bytes_low_first i k v) ≡ bytes_of n (v / 256 ^ i)
bytes_from i k zero v l = refl
bytes_from i zero (suc n) v l = absurd (omega arith)
bytes_from i (suc k) (suc n) v l =
    let h = byte_is i v in
    let e : v / 256 ^ suc i ≡ v / 256 ^ i / 256 = ap (λ z. v / z) (pow-suc 256 i) ∙ sym (div-div-eq-div-mul v (256 ^ i) 256) in
    let t = bytes_from (suc i) k n v (omega arith) ∙ ap (bytes_of n) e in
    λ j. h j ∷ t j

-- The first n of the eight bytes of a number are its low n bytes.
pub low_bytes : (n v : ℕ) → n ≤ 8 → take n (to_le_bytes w64 v) ≡ bytes_of n v
low_bytes n v l = let e : v / 1 ≡ v = omega arith in bytes_from 0 8 n v l ∙ ap (bytes_of n) e
