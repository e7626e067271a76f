-- Places where a range fits, and the least of them. Theorems cite it.
use Rattle.std.specs.Prelude.{◌≡◌, ℕ, ℤ, pos, ◌+◌, ◌*◌, ◌<◌, ◌+ℤ◌, ◌<ℤ◌, ◌≤ℤ◌, List, Option, Some, None}
use Rattle.pun_base.specs.declared.range.Range.{Range}
use Rattle.address_space.specs.declared.extent.Extent.{Extent}
use Rattle.address_space.specs.Free.{Misses, IsFree, extent_of}

-- The n addresses from t on are none of a range that is to be avoided, if there is one.
abbrev pub IsAway : Option Range → ℕ → ℕ → Type 0
IsAway None t n = Unit {0}
IsAway (Some range) t n = Misses t n (extent_of range)

-- n addresses fit at t: they are free and avoid the range, and t is one of lo up to and without hi.
pub record Fits (taken : List Extent) (lo hi : ℤ) (n : ℕ) (avoid : Option Range) (t : ℕ) : Type 0 where
  pub from : lo ≤ℤ pos t
  pub before : pos t <ℤ hi
  pub free : IsFree taken t n
  pub away : IsAway avoid t n

-- t is one of lo, lo + step, lo + 2 * step and so on.
abbrev pub Steps : ℤ → ℕ → ℕ → Type 0
Steps lo step t = (k : ℕ) × (pos t ≡ lo +ℤ pos (k * step))

-- n addresses fit at t, and t lies a multiple of the step above lo.
pub record FitsStep (taken : List Extent) (lo hi : ℤ) (step n : ℕ) (avoid : Option Range) (t : ℕ) : Type 0 where
  pub fits : Fits taken lo hi n avoid t
  pub steps : Steps lo step t

-- t is one of the `width` addresses from lo on, of those from lo + step on, of those from lo + 2 *
-- step on, and so on.
pub record NearSteps (lo : ℤ) (step width t : ℕ) : Type 0 where
  pub steps : ℕ
  pub more : ℕ
  pub few : more < width
  pub is : pos t ≡ lo +ℤ pos (steps * step + more)

-- n addresses fit at t, and t is one of the `width` addresses from lo on or a multiple of the step
-- above one of them.
pub record FitsNear (taken : List Extent) (lo hi : ℤ) (step width n t : ℕ) : Type 0 where
  pub fits : Fits taken lo hi n None t
  pub near : NearSteps lo step width t

-- So many pages are free from t on, which is the address of a page.
pub record FitsPages (taken : List Extent) (pages t : ℕ) : Type 0 where
  pub page : (k : ℕ) × (t ≡ k * 4096)
  pub free : IsFree taken t (pages * 4096)

-- They fit at some address that lies a multiple of the step above the one so far, and less than the step, above lo.
pub record FitsAside (taken : List Extent) (lo hi : ℤ) (step n far : ℕ) : Type 0 where
  pub less : far < step
  pub place : ℕ
  pub fits : Fits taken lo hi n None place
  pub steps : Steps (lo +ℤ pos far) step place
