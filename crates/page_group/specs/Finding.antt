-- How a list of pages grows. Contracts of private functions alone cite it.
use Rattle.std.specs.Prelude.{ℕ, ◌+◌, ◌≤◌, ◌⊎◌, ◌↔◌, List, [], ◌∷◌, Contains}
use Rattle.page_group.specs.Pages.{MeetsPage}

-- The new list has the pages of the old one and those that meet the piece.
abbrev pub Adds : ℕ × ℕ → List ℕ → List ℕ → Type 0
Adds piece old new = (page : ℕ) → Contains new page ↔ (Contains old page ⊎ MeetsPage (piece ∷ []) page)

-- Each page ends at or below the bound.
abbrev pub EndBelow : ℕ → List ℕ → Type 0
EndBelow bound pages = (page : ℕ) → Contains pages page → page + 4096 ≤ bound
