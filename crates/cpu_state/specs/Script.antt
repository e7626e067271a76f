-- Which regions a script may have. Theorems cite it.
use Rattle.std.specs.Prelude.{ℕ, ◌+◌, ◌^◌, Bool, true, ◌&&◌, ◌||◌, ◌==◌, nat_le, nat_lt, List, [], ◌∷◌, length}
use Rattle.cpu_state.specs.declared.script_regions.RegionBody.{RegionBody}
use Rattle.cpu_state.specs.declared.script_regions.RegionBody.TheVariants.{Zeros, Bytes}
use Rattle.cpu_state.specs.declared.script_regions.Region.{Region}

-- bytes of a region
abbrev pub body_size : RegionBody → ℕ
body_size (Zeros n) = n
body_size (Bytes bs) = length bs

-- 1 to 16,777,216 zeros that end below 2 ^ 64, or 1 to 4,096 bytes that don't pass it
abbrev pub is_bounded : ℕ → RegionBody → Bool
is_bounded lo (Zeros n) = nat_lt 0 n && (nat_le n 16777216 && nat_lt (lo + n) (2 ^ 64))
is_bounded lo (Bytes bs) = nat_lt 0 (length bs) && (nat_le (length bs) 4096 && nat_le (lo + length bs) (2 ^ 64))

-- readable, and beside it writable, executable, both or neither
abbrev pub is_permission : ℕ → Bool
is_permission p = p == 4 || (p == 6 || (p == 5 || p == 7))

-- the first begins at or above an address, and each other one at or above the end of the one before
abbrev pub ascend : ℕ → List Region → Bool
ascend low [] = true
ascend low (r ∷ rs) = nat_le low r.lo && (is_permission r.perms && (is_bounded r.lo r.body && ascend (r.lo + body_size r.body) rs))

-- at most 16 of them, ascending and disjoint
abbrev pub are_regions : List Region → Bool
are_regions rs = nat_le (length rs) 16 && ascend 0 rs
