-- Lists of numbers that are bytes.
use Rattle.std.proofs.Common.{◌≡◌, ℕ, zero, suc, ◌<◌, true, List, [], ◌∷◌, ◌++◌, replicate, arith}
use Rattle.std.specs.Prelude.{nat_lt}
use Rattle.std.specs.List.{list_all}
use Rattle.std.proofs.lemmas.Bool.{and_parts, ltb-true}
use Rattle.hex.specs.Hex.{IsBytes}

-- A byte in front of bytes.
pub more_bytes : (b : ℕ) (bs : List ℕ) → b < 256 → IsBytes bs → IsBytes (b ∷ bs)
more_bytes b bs h k zero = h
more_bytes b bs h k (suc i) = k i

-- Bytes behind bytes.
pub bytes_append : (xs ys : List ℕ) → IsBytes xs → IsBytes ys → IsBytes (xs ++ ys)
bytes_append [] ys h k i = k i
bytes_append (x ∷ xs) ys h k zero = h 0
bytes_append (x ∷ xs) ys h k (suc i) = bytes_append xs ys (λ j. h (suc j)) k i

-- Numbers that pass the test of being below 256, one by one.
pub bytes_all : (bs : List ℕ) → list_all (λ b. nat_lt b 256) bs ≡ true → IsBytes bs
bytes_all [] h i = omega arith
bytes_all (b ∷ bs) h zero = ltb-true b 256 (and_parts (nat_lt b 256) (list_all (λ b. nat_lt b 256) bs) h).0
bytes_all (b ∷ bs) h (suc i) = bytes_all bs (and_parts (nat_lt b 256) (list_all (λ b. nat_lt b 256) bs) h).1 i

-- Zeros.
pub bytes_zeros : (n : ℕ) → IsBytes (replicate n 0)
bytes_zeros zero i = omega arith
bytes_zeros (suc n) zero = omega arith
bytes_zeros (suc n) (suc i) = bytes_zeros n i
