-- Marks of numbers, one bit for each, in words of 64 bits, the lowest bit of a word first. Contracts alone cite it.
use Rattle.std.specs.Prelude.{◌≡◌, ℕ, ◌/◌, ◌%◌, ◌<◌, ◌≤◌, ◌⊎◌, ◌↔◌, List, slice_index}
use Rattle.std.specs.Int.{bit_at}

-- A number is marked: its bit is 1.
abbrev pub IsMarked : List ℕ → ℕ → Type 0
IsMarked words n = bit_at (slice_index words (n / 64)) (n % 64) ≡ 1

-- What was marked is, and these numbers are, and no other.
abbrev pub MarksMore : List ℕ → (ℕ → Type 0) → List ℕ → Type 0
MarksMore old More new = (n : ℕ) → IsMarked new n ↔ (IsMarked old n ⊎ More n)

-- One of the numbers from low up to and without high.
abbrev pub IsBetween : ℕ → ℕ → ℕ → Type 0
IsBetween low high n = (low ≤ n) × (n < high)

-- The remainder by count of one of these.
pub record IsRemainder (low high count m : ℕ) : Type 0 where
  pub number : ℕ
  pub between : IsBetween low high number
  pub is : number % count ≡ m
