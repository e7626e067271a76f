-- Blocks of free ranges, and the list that they make. Contracts of private functions alone cite it.
use Rattle.std.specs.Prelude.{ℕ, ◌+◌, ◌-◌, ◌<◌, ◌≤◌, ◌⊎◌, List, [], Option, Some, None, length, take, slice_index_or}
use Rattle.std.specs.List.{flat_map}
use Rattle.address_space.specs.declared.free_range.FreeRange.{FreeRange}
use Rattle.address_space.specs.declared.block.Block.{Block}
use Rattle.address_space.specs.Ranges.{IsTaken}

-- The ranges of all blocks.
abbrev pub flat : List Block → List FreeRange
flat blocks = flat_map (λ block. block.ranges.items) blocks

-- A range of no address, in place of one that isn't there.
abbrev pub no_range : FreeRange
no_range = record { lo = 0; hi = 0 }

-- Where the first range of a block begins.
abbrev pub low_of : Block → ℕ
low_of block = (slice_index_or block.ranges.items 0 no_range).lo

-- Where the last one ends.
abbrev pub high_of : Block → ℕ
high_of block = (slice_index_or block.ranges.items (length block.ranges.items - 1) no_range).hi

-- How many ranges stand in the first `count` blocks.
abbrev pub begin : List Block → ℕ → ℕ
begin blocks count = length (flat (take count blocks))

-- The ranges of a block that there may be.
abbrev pub ranges_if : Option Block → List FreeRange
ranges_if None = []
ranges_if (Some block) = block.ranges.items

-- All ranges of the first `count` blocks end at or below an address, and the last one of the block behind them doesn't.
pub record BlocksEnded (blocks : List Block) (addr count : ℕ) : Type 0 where
  pub first : (k : ℕ) (d : FreeRange) → k < begin blocks count → (slice_index_or (flat blocks) k d).hi ≤ addr
  pub others : (k : ℕ) (d : FreeRange) → count < length blocks → begin blocks (count + 1) ≤ k + 1 → k < length (flat blocks)
      → addr < (slice_index_or (flat blocks) k d).hi

-- All ranges behind the first `count` blocks begin at or above an address.
abbrev pub BlocksBegun : List Block → ℕ → ℕ → Type 0
BlocksBegun blocks addr count = (k : ℕ) (d : FreeRange) → begin blocks count ≤ k → k < length (flat blocks) → addr ≤ (slice_index_or (flat blocks) k d).lo

-- A range does not take all of a block: another one is left, or a part of the one that it lies in.
abbrev pub LeavesSome : List FreeRange → ℕ → ℕ → ℕ → Type 0
LeavesSome ranges place lo hi =
    (2 ≤ length ranges) ⊎ ((d : FreeRange) → ((slice_index_or ranges place d).lo < lo) ⊎ (hi < (slice_index_or ranges place d).hi))

-- A range is taken from the free range at a place in the block with a number.
pub record StandsAt (blocks : List Block) (number place lo hi : ℕ) : Type 0 where
  pub within : number < length blocks
  pub place_within : (d : Block) → place < length (slice_index_or blocks number d).ranges.items
  pub taken : IsTaken (flat blocks) (begin blocks number + place) lo hi
