-- The maximal free ranges, in ascending order, and what fits in them. Contracts of private functions alone cite it.
use Rattle.std.specs.Prelude.{◌≡◌, ℕ, ◌+◌, ◌%◌, ◌<◌, ◌≤◌, ◌^◌, ◌⊎◌, List, [], ◌∷◌, length, slice_index_or, nat_lt, if◌then◌else◌, ◌++◌}
use Rattle.pun_base.specs.declared.range.Range.{Range}
use Rattle.address_space.specs.declared.extent.Extent.{Extent}
use Rattle.address_space.specs.declared.free_range.FreeRange.{FreeRange}
use Rattle.address_space.specs.declared.window.Window.{Window}
use Rattle.address_space.specs.Fit.{IsAway}
use Rattle.address_space.specs.Windows.{IsNearFrom}

-- Each range has an address, none touches the one before, the first begins at or above low, and the last ends by 0x7FFF0000.
abbrev pub Ascending : ℕ → List FreeRange → Type 0
Ascending low [] = Unit {0}
Ascending low (r ∷ rs) = (low ≤ r.lo) × (r.lo < r.hi) × (r.hi ≤ 0x7FFF0000) × Ascending (r.hi + 1) rs

-- The gaps before, between and after the ranges, from low on.
abbrev pub gaps : ℕ → List FreeRange → List Extent
gaps low [] = record { lo = low; hi = 0x7FFF0000 } ∷ []
gaps low (r ∷ rs) = record { lo = low; hi = r.lo } ∷ gaps r.hi rs

-- The n addresses from t on lie in the range.
abbrev pub LiesIn : FreeRange → ℕ → ℕ → Type 0
LiesIn range t n = (range.lo ≤ t) × (t + n ≤ range.hi)

-- The n addresses from t on lie in one of the ranges.
abbrev pub LiesAmong : List FreeRange → ℕ → ℕ → Type 0
LiesAmong [] t n = ⊥
LiesAmong (r ∷ rs) t n = LiesIn r t n ⊎ LiesAmong rs t n

-- The range from lo up to and without hi, if it has an address.
abbrev pub range_if : ℕ → ℕ → List FreeRange
range_if lo hi = if nat_lt lo hi then (record { lo = lo; hi = hi } ∷ []) else []

-- What a range leaves of a free one below it and above it.
abbrev pub left_of : FreeRange → Range → List FreeRange
left_of whole range = range_if whole.lo range.lo ++ range_if range.hi whole.hi

-- The addresses from lo up to hi, one at least, lie in a free range.
pub record IsWithin (whole : FreeRange) (lo hi : ℕ) : Type 0 where
  pub above : whole.lo ≤ lo
  pub some : lo < hi
  pub below : hi ≤ whole.hi

-- The addresses from lo up to hi lie in the range at an index.
pub record IsTaken (rs : List FreeRange) (place lo hi : ℕ) : Type 0 where
  pub below : place < length rs
  pub within : (d : FreeRange) → IsWithin (slice_index_or rs place d) lo hi

-- No range touches a later one.
abbrev pub IsApart : List FreeRange → Type 0
IsApart ranges = (i j : ℕ) (d : FreeRange) → i < j → j < length ranges → (slice_index_or ranges i d).hi < (slice_index_or ranges j d).lo

-- The sums that a search makes fit 64 bits.
pub record IsSmall (w : Window) : Type 0 where
  pub top : w.top ≤ 2 ^ 32
  pub some : 0 < w.step
  pub step : w.step < 2 ^ 33
  pub width : 0 < w.width
  pub size : w.size < 2 ^ 48
  pub full : 0 < w.size

-- t lies less than width above one of from, from + step and so on, and at or above low.
pub record StepsFrom (from step width low t : ℕ) : Type 0 where
  pub steps : IsNearFrom from step width t
  pub above : low ≤ t

-- t lies less than width above one of the window's steps and at or above low, and the window's
-- addresses from t on avoid its range.
pub record PlacesFrom (w : Window) (low t : ℕ) : Type 0 where
  pub steps : StepsFrom w.from w.step w.width low t
  pub away : IsAway w.avoid t w.size

-- A window's addresses fit at t in a range.
pub record FitsIn (w : Window) (range : FreeRange) (t : ℕ) : Type 0 where
  pub steps : IsNearFrom w.from w.step w.width t
  pub before : t < w.top
  pub inside : LiesIn range t w.size
  pub away : IsAway w.avoid t w.size

-- A window's addresses fit at t in one of the ranges.
pub record FitsAmong (w : Window) (ranges : List FreeRange) (t : ℕ) : Type 0 where
  pub place : ℕ
  pub below : place < length ranges
  pub fits : (d : FreeRange) → FitsIn w (slice_index_or ranges place d) t

-- m is the remainder by the step of place + shift, where place is an address in a range at which a window's addresses fit.
pub record IsPlaceIn (w : Window) (shift : ℕ) (range : FreeRange) (m : ℕ) : Type 0 where
  pub place : ℕ
  pub inside : LiesIn range place w.size
  pub from : w.from ≤ place
  pub before : place < w.top
  pub is : (place + shift) % w.step ≡ m

-- m is such a remainder for one of the first `count` ranges.
pub record IsPlaceAmong (w : Window) (shift : ℕ) (ranges : List FreeRange) (count m : ℕ) : Type 0 where
  pub index : ℕ
  pub below : index < count
  pub there : (d : FreeRange) → IsPlaceIn w shift (slice_index_or ranges index d) m

-- The first `count` ranges end at or below an address, and the others don't.
pub record EndedFirst (ranges : List FreeRange) (addr count : ℕ) : Type 0 where
  pub first : (k : ℕ) (d : FreeRange) → k < count → (slice_index_or ranges k d).hi ≤ addr
  pub others : (k : ℕ) (d : FreeRange) → count ≤ k → k < length ranges → addr < (slice_index_or ranges k d).hi
