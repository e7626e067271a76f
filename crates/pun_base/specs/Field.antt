-- A number as the bytes of a field, low byte first. Theorems cite it.
use Rattle.std.specs.Prelude.{ℕ, ◌+◌, ◌*◌, ◌++◌, List, [], ◌∷◌, take, drop}
use Rattle.byteorder.specs.Endian.{little_number, little_bytes}

-- The number of the field of n bytes at a place.
abbrev pub field : ℕ → ℕ → List ℕ → ℕ
field n at bytes = little_number n (drop at bytes)

-- The bytes with the field of n bytes at a place changed to that of a number.
abbrev pub with_field : ℕ → ℕ → ℕ → List ℕ → List ℕ
with_field n at value bytes = take at bytes ++ (little_bytes n value ++ drop (at + n) bytes)

-- The number of bytes, the lowest first (Intel SDM, volume 1, section 1.3.1).
abbrev pub number_of : List ℕ → ℕ
number_of [] = 0
number_of (b ∷ bs) = b + 256 * number_of bs
