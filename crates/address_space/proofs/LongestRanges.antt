-- The longest of some ranges.
use Rattle.std.proofs.Common.{◌≡◌, ℕ, zero, suc, ◌+◌, ◌-◌, ◌<◌, ◌≤◌, List, [], ◌∷◌, ◌++◌, length, take, drop, get_or, arith, sym, ap, ◌∙◌, take-append-drop}
use Rattle.std.proofs.lemmas.List.{drop_more}
use Rattle.address_space.specs.declared.free_range.FreeRange.{FreeRange}
use Rattle.address_space.specs.Longest.{greatest}

-- No range is longer than the longest.
pub greatest_at : (rs : List FreeRange) (k : ℕ) (d : FreeRange) → k < length rs → (get_or rs k d).hi - (get_or rs k d).lo ≤ greatest rs
greatest_at [] k d h = absurd (omega (arith, h))
greatest_at (r ∷ rs) zero d h = omega arith
greatest_at (r ∷ rs) (suc k) d h = let rest = greatest_at rs k d (omega (arith, h)) in omega arith

-- A list is what stands before one of its elements, that element, and what stands behind it.
pub around : (rs : List FreeRange) (k : ℕ) (d : FreeRange) → k < length rs → rs ≡ take k rs ++ get_or rs k d ∷ drop (k + 1) rs
around rs k d h = sym (take-append-drop k rs) ∙ ap (λ xs. take k rs ++ xs) (drop_more rs k d h)
