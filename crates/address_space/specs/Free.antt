-- Free addresses: what is taken, and what misses it. Theorems cite it.
use Rattle.std.specs.Prelude.{ℕ, ◌+◌, ◌*◌, ◌/◌, ◌≤◌, ◌⊎◌, List}
use Rattle.std.specs.Int.{div_ceil}
use Rattle.std.specs.List.{All}
use Rattle.pun_base.specs.declared.range.Range.{Range}
use Rattle.address_space.specs.declared.extent.Extent.{Extent}

-- What is taken, and how many more ranges may be taken before more memory is.
pub record SpaceState : Type 0 where
  pub taken : List Extent
  pub spare : ℕ

-- The n addresses from t on are none of the extent's.
abbrev pub Misses : ℕ → ℕ → Extent → Type 0
Misses t n extent = (t + n ≤ extent.lo) ⊎ (extent.hi ≤ t)

-- The n addresses from t on are free: they lie in [0x20000, 0x7FFF0000) and meet nothing that is taken.
pub record IsFree (taken : List Extent) (t n : ℕ) : Type 0 where
  pub above : 0x20000 ≤ t
  pub below : t + n ≤ 0x7FFF0000
  pub misses : All (Misses t n) taken

-- The addresses of a range.
abbrev pub extent_of : Range → Extent
extent_of range = record { lo = range.lo; hi = range.hi }

-- A range widened to whole pages, of 4,096 bytes each.
abbrev pub whole_pages : Range → Extent
whole_pages range = record { lo = range.lo / 4096 * 4096; hi = div_ceil range.hi 4096 * 4096 }
