use Rattle.std.proofs.Common.{ℕ, ◌<◌, get_or}
use Rattle.address_space.specs.declared.free_range.FreeRange.{FreeRange}
use Rattle.address_space.specs.Ranges.{FitsIn}
use Rattle.address_space.proofs.search.fit_among.Given as goal

abbrev pub invariant-loop-range : goal.invariant-loop-range
invariant-loop-range l = (j : ℕ) (d : FreeRange) → j < l.range-index → (s : ℕ) → FitsIn l.window (get_or l.ranges j d) s → ⊥
