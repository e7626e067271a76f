-- The map that a list of regions stands for. Theorems cite it.
use Rattle.std.specs.Prelude.{ℕ, suc, ◌+◌, ◌-◌, ◌^◌, ◌<◌, ◌≤◌, Bool, ◌&&◌, nat_le, nat_lt, if◌then◌else◌, List, [], ◌∷◌, length, map, slice_index, Option, Some, None, option_map}
use Rattle.pun_base.specs.Memory.{Cell, Bytes}
use Rattle.cpu_state.specs.declared.regions.MemoryRegion.{MemoryRegion}
use Rattle.cpu_state.specs.declared.regions.HeldByte.{HeldByte}

-- a region holds an address
abbrev pub holds : MemoryRegion → ℕ → Bool
holds r a = nat_le r.lo a && nat_lt (a - r.lo) (length r.bytes.items)

-- its byte at an address, with its permissions
abbrev pub cell_in : MemoryRegion → ℕ → Cell
cell_in r a = record { byte = slice_index r.bytes.items (a - r.lo); perms = r.perms }

-- the map: at each address the byte of the first region that holds it
abbrev pub cell_at : List MemoryRegion → Bytes
cell_at [] a = None
cell_at (r ∷ rs) a = if holds r a then Some (cell_in r a) else cell_at rs a

-- a byte that is held, as the map has it
abbrev pub cell_of : HeldByte → Cell
cell_of h = record { byte = h.byte; perms = h.perms }

-- each region has a byte and begins at or above the end of the one before, the first at or above low; the last ends by 2 ^ 64
abbrev pub Ascending : ℕ → List MemoryRegion → Type 0
Ascending low [] = low ≤ 2 ^ 64
Ascending low (r ∷ rs) = (low ≤ r.lo) × (0 < length r.bytes.items) × Ascending (r.lo + length r.bytes.items) rs

-- how many from the front begin at or below an address
abbrev pub begun : List MemoryRegion → ℕ → ℕ
begun [] a = 0
begun (r ∷ rs) a = if nat_le r.lo a then suc (begun rs a) else 0

-- the place of the region that holds an address
abbrev pub place_of : List MemoryRegion → ℕ → Option ℕ
place_of [] a = None
place_of (r ∷ rs) a = if holds r a then Some 0 else option_map suc (place_of rs a)

-- where each region lies: its first address, its permissions and how many bytes it has
abbrev pub extents : List MemoryRegion → List (ℕ × ℕ × ℕ)
extents rs = map (λ (r : MemoryRegion). (r.lo, r.perms, length r.bytes.items)) rs
