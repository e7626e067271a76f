-- Windows of addresses as a search sees them: from 0 on, by steps. Contracts of private functions alone cite it.
use Rattle.std.specs.Prelude.{◌≡◌, ℕ, ℤ, pos, ◌+◌, ◌*◌, ◌<◌, ◌^◌, ◌<ℤ◌, ◌↔◌}
use Rattle.address_space.specs.Fit.{Steps}

-- t lies less than width above one of from, from + step and so on.
pub record IsNearFrom (from step width t : ℕ) : Type 0 where
  pub steps : ℕ
  pub more : ℕ
  pub few : more < width
  pub is : t ≡ from + steps * step + more

-- The least of lo, lo + step and so on that isn't negative.
pub record IsStart (lo : ℤ) (step s : ℕ) : Type 0 where
  pub steps : Steps lo step s
  pub from : (t : ℕ) → Steps lo step t → (j : ℕ) × (t ≡ s + j * step)

-- An address below 2^32 is below top exactly where it is below hi.
abbrev pub IsTop : ℤ → ℕ → Type 0
IsTop hi top = (t : ℕ) → t < 2 ^ 32 → (t < top) ↔ (pos t <ℤ hi)
