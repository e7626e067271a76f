-- The first of all choices of a kind, by an order of their parts. Theorems cite it.
use Rattle.std.specs.Prelude.{◌≡◌, ℕ, ◌<◌, ◌⊎◌, [], ◌∷◌, Option, Some, None}
use Rattle.start_list.specs.Admissible.{IsNoLater}

-- The first of two choices comes no later by one part.
abbrev pub by : {P : Type 0} → (P → ℕ) → P → P → Type 0
by part p q = IsNoLater (part p ∷ []) (part q ∷ [])

-- The first of two choices comes no later: by one part or, where that is the same, by the rest.
abbrev pub then_by : {P : Type 0} → (P → ℕ) → (P → P → Type 0) → P → P → Type 0
then_by part rest p q = (part p < part q) ⊎ ((part p ≡ part q) × rest p q)

-- A good choice that no other good one comes before.
pub record IsFirstBy {P : Type 0} (order : P → P → Type 0) (Good : P → Type 0) (p : P) : Type 0 where
  pub good : Good p
  pub first : (q : P) → Good q → order p q

-- The answer is the first good choice, and None exactly where none is good.
abbrev pub FirstBy : {P : Type 0} → (P → P → Type 0) → (P → Type 0) → Option P → Type 0
FirstBy {P} order Good None = (q : P) → Good q → ⊥
FirstBy order Good (Some p) = IsFirstBy order Good p
