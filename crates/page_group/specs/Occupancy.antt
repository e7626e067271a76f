-- Which offsets of a page are occupied, as the code keeps them. Contracts of private functions alone cite it.
use Rattle.std.specs.Prelude.{◌≡◌, ℕ, ◌/◌, ◌%◌, ◌<◌, ◌≤◌, ◌==◌, Bool, true, List, length, slice_index}
use Rattle.std.specs.Int.{bit_at}
use Rattle.std.specs.List.{slice_index_or}
use Rattle.page_group.specs.declared.offsets.Offsets.{Offsets}
use Rattle.page_group.specs.Pages.{is_occupied}

-- The bit of a place among words of 64 bits is 1, the lowest bit of a word first. Past the words
-- every bit is 0.
abbrev pub has_bit : List ℕ → ℕ → Bool
has_bit words k = bit_at (slice_index words (k / 64)) (k % 64) == 1

-- A place is 1 in two lists of words.
abbrev pub ShareBit : List ℕ → List ℕ → Type 0
ShareBit words others = (k : ℕ) × (has_bit words k ≡ true) × (has_bit others k ≡ true)

-- The places that are 1 lie in the words from the first up to and without the end.
abbrev pub AreAmong : ℕ → ℕ → List ℕ → Type 0
AreAmong first end words = (k : ℕ) → has_bit words k ≡ true → (first ≤ k / 64) × (k / 64 < end)

-- A set has an offset.
abbrev pub has : Offsets → ℕ → Bool
has offsets k = has_bit offsets.words k

-- The offsets of one set are offsets of another.
abbrev pub IsWithin : Offsets → Offsets → Type 0
IsWithin some others = (k : ℕ) → has some k ≡ true → has others k ≡ true

-- Two sets have an offset in common.
abbrev pub ShareOffset : Offsets → Offsets → Type 0
ShareOffset some others = (k : ℕ) × (has some k ≡ true) × (has others k ≡ true)

-- The sets are the occupied offsets of the pages, in their order.
pub record AreOccupied (pieces : List (ℕ × ℕ)) (pages : List ℕ) (sets : List Offsets) : Type 0 where
  pub size : length sets ≡ length pages
  pub exact : (place k : ℕ) (d : Offsets) → place < length pages
      → has (slice_index_or sets place d) k ≡ is_occupied pieces (slice_index pages place) k
