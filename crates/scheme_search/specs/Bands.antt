-- Where a jump's targets are free, by how far they lie above the lowest one. Contracts of private functions alone cite it.
use Rattle.std.specs.Prelude.{◌≡◌, ℕ, pos, ◌+ℤ◌, ◌+◌, ◌*◌, ◌<◌, ◌≤◌, List}
use Rattle.address_space.specs.declared.extent.Extent.{Extent}
use Rattle.address_space.specs.Free.{IsFree}
use Rattle.scheme_search.specs.declared.shared.Way.{Way}

-- The lowest targets of two values beside each other lie one address apart, and those from x up to and without `to` are at most as many as a
-- step has addresses.
pub record IsStepped (w : Way) (x to : ℕ) : Type 0 where
  pub near : to ≤ x + w.step
  pub each : w.scale ≡ 1
  pub narrow : w.step ≤ 0x20000

-- The code is free at the address that lies d above a way's low end.
pub record IsOpenAt (taken : List Extent) (w : Way) (d : ℕ) : Type 0 where
  pub place : ℕ
  pub is : pos place ≡ w.lo +ℤ pos d
  pub free : IsFree taken place w.size

-- The code is free at a distance d below `high` that is one of the `width` distances from `low` on,
-- or whole steps of the way above one of them.
pub record IsOpenNear (taken : List Extent) (w : Way) (low high width d : ℕ) : Type 0 where
  pub steps : ℕ
  pub more : ℕ
  pub few : more < width
  pub near : d ≡ low + (steps * w.step + more)
  pub below : d < high
  pub there : IsOpenAt taken w d
