-- Bitmaps: words of 64 bits, the lowest bit of a word first. Contracts of private functions alone cite it.
use Rattle.std.specs.Prelude.{ℕ, ◌/◌, ◌%◌, ◌==◌, Bool, List, slice_index}
use Rattle.std.specs.Int.{bit_at}

-- Whether the bit of a place is 1. Past the words every bit is 0.
abbrev pub is_set_in : List ℕ → ℕ → Bool
is_set_in words place = bit_at (slice_index words (place / 64)) (place % 64) == 1
