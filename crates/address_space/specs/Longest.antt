-- The longest of some free ranges. Contracts of private functions alone cite it.
use Rattle.std.specs.Prelude.{ℕ, ◌-◌, max, List, [], ◌∷◌}
use Rattle.address_space.specs.declared.free_range.FreeRange.{FreeRange}

-- The length of the longest of the ranges, 0 where there is none.
abbrev pub greatest : List FreeRange → ℕ
greatest [] = 0
greatest (r ∷ rs) = max (r.hi - r.lo) (greatest rs)
