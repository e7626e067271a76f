-- The least number of which something holds. Theorems cite it.
use Rattle.std.specs.Prelude.{ℕ, ◌≤◌, Option, None, Some}

-- The least number that is good.
pub record IsLeast (Good : ℕ → Type 0) (t : ℕ) : Type 0 where
  pub good : Good t
  pub least : (s : ℕ) → Good s → t ≤ s

-- The answer is the least number that is good, and None exactly where there is none.
abbrev pub Least : (ℕ → Type 0) → Option ℕ → Type 0
Least Good None = (s : ℕ) → Good s → ⊥
Least Good (Some t) = IsLeast Good t
