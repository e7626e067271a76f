-- When the part of a list near an address suffices to count what meets that address. Contracts of private functions alone cite it.
use Rattle.std.specs.Prelude.{◌≡◌, ℕ, ◌+◌, ◌<◌, ◌≤◌, Bool, true, List}
use Rattle.std.specs.List.{count_by}

-- Any test that only elements pass which begin at the address or less than `size` bytes below it
-- counts as many near ones as elements of the whole list.
abbrev pub IsNear : {X Y : Type 0} → (X → Y) → (X → ℕ) → ℕ → ℕ → List X → List Y → Type 0
IsNear {X} {Y} view first size x near all =
    (p : Y → Bool) → ((y : X) → p (view y) ≡ true → (first y ≤ x) × (x < first y + size))
    → count_by (λ y. p (view y)) near ≡ count_by p all
