-- Ranges of addresses. Theorems cite it.
use Rattle.std.specs.Prelude.{ℕ, ◌-◌, Bool, ◌&&◌, nat_le, nat_lt}
use Rattle.pun_base.specs.declared.range.Range.{Range}

-- A range by its ends: its first address, and the one after its last.
abbrev pub ends : Range → ℕ × ℕ
ends range = (range.lo, range.hi)

-- The address is one of the n from `lo` on.
abbrev pub is_within : ℕ → ℕ → ℕ → Bool
is_within lo n a = nat_le lo a && nat_lt (a - lo) n
