-- Two places whose jumps share displacement bytes. The number that these bytes spell, the shared value, says which targets each jump has. Theorems cite it.
use Rattle.std.specs.Prelude.{ℕ, pos, negsuc, ◌+ℤ◌, ◌<ℤ◌, ◌≤ℤ◌, ◌^◌, ◌≤◌, ◌+◌, ◌*◌, ◌<◌, List}
use Rattle.address_space.specs.declared.extent.Extent.{Extent}
use Rattle.address_space.specs.Free.{IsFree, Misses}
use Rattle.address_space.specs.Fit.{Steps}
use Rattle.scheme_search.specs.declared.shared.Way.{Way}
use Rattle.scheme_search.specs.declared.shared.Pick.{Pick}
use Rattle.scheme_search.specs.Order.{by, then_by}

-- A target of a way for the shared value x.
abbrev pub InWay : Way → ℕ → ℕ → Type 0
InWay w x t = Steps (w.lo +ℤ pos (x * w.scale)) w.step t × (pos t <ℤ (w.lo +ℤ pos (x * w.scale + w.width)))

-- A target of a way for the shared value x at which the code is free.
pub record FitsWay (taken : List Extent) (w : Way) (x t : ℕ) : Type 0 where
  pub target : InWay w x t
  pub free : IsFree taken t w.size

-- x is the first value from `from` on and below `to` that leaves the jump a free target, or `to` where there is none.
pub record IsNextValue (taken : List Extent) (w : Way) (from to x : ℕ) : Type 0 where
  pub least : from ≤ x
  pub most : x ≤ to
  pub none : (y t : ℕ) → from ≤ y → y < x → FitsWay taken w y t → ⊥
  pub found : x < to → (t : ℕ) × FitsWay taken w x t

-- From the value x up to and without `next`, which is at most `to`, no value leaves both jumps a free target.
pub record PassesBoth (taken : List Extent) (a b : Way) (x to next : ℕ) : Type 0 where
  pub least : x ≤ next
  pub most : next ≤ to
  pub none : (y t u : ℕ) → x ≤ y → y < next → FitsWay taken a y t → FitsWay taken b y u → ⊥

-- The first place is the least free one for the shared value, and the second is a free one for it
-- at which the codes don't meet.
pub record IsPick (taken : List Extent) (a b : Way) (p : Pick) : Type 0 where
  pub first : FitsWay taken a p.x p.first
  pub least : (t : ℕ) → FitsWay taken a p.x t → p.first ≤ t
  pub second : FitsWay taken b p.x p.second
  pub away : Misses p.second b.size (record { lo = p.first; hi = p.first + a.size })

-- A pick whose shared value is one of `from` up to and without `to`.
pub record IsPickIn (taken : List Extent) (a b : Way) (from to : ℕ) (p : Pick) : Type 0 where
  pub pick : IsPick taken a b p
  pub above : from ≤ p.x
  pub below : p.x < to

-- The shared value of a pick, the first part by which picks are ordered.
abbrev pub x_of : Pick → ℕ
x_of p = p.x

-- The first place of a pick.
abbrev pub first_of : Pick → ℕ
first_of p = p.first

-- The second place of a pick.
abbrev pub second_of : Pick → ℕ
second_of p = p.second

-- The order of picks: by the shared value, then by the first place, then by the second.
abbrev pub pick_order : Pick → Pick → Type 0
pick_order = then_by x_of (then_by first_of (by second_of))

-- The order of choices by what they pick.
abbrev pub by_pick : {P : Type 0} → (P → Pick) → P → P → Type 0
by_pick pick p q = pick_order (pick p) (pick q)

-- A way whose numbers stay small up to a shared value.
pub record IsWay (w : Way) (to : ℕ) : Type 0 where
  pub step : 0 < w.step
  pub size : 0 < w.size
  pub small : w.size ≤ 256
  pub scale : 0 < w.scale
  pub width : (0 < w.width) × (w.width ≤ 2 ^ 32)
  pub low : negsuc (2 ^ 33) ≤ℤ w.lo
  pub high : w.lo ≤ℤ pos (2 ^ 33)
  pub parts : to * w.scale ≤ 2 ^ 32
