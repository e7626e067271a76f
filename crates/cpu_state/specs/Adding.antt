-- A region added to memory: what that does, and when it meets what is held. Theorems cite it.
use Rattle.std.specs.Prelude.{◌≡◌, ℕ, ◌+◌, ◌-◌, ◌<◌, ◌≤◌, Bool, ◌&&◌, nat_le, nat_lt, if◌then◌else◌, List, [], ◌∷◌, length, insert, slice_index, Option, Some, None, Result, Ok, Err}
use Rattle.pun_base.specs.Memory.{Bytes, joined}
use Rattle.cpu_state.specs.declared.regions.MemoryRegion.{MemoryRegion}
use Rattle.cpu_state.specs.declared.memory.AddError.{AddError}
use Rattle.cpu_state.specs.declared.memory.AddError.TheVariants as add_error
use Rattle.cpu_state.specs.Regions.{cell_at, begun}

-- the bytes of a list from an address on, and no other
abbrev pub laid : ℕ → ℕ → List ℕ → Bytes
laid lo perms bytes a = if nat_le lo a && nat_lt (a - lo) (length bytes) then Some (record { byte = slice_index bytes (a - lo); perms = perms }) else None

-- the region has an address from lo up to and without hi
abbrev pub meets : ℕ → ℕ → MemoryRegion → Bool
meets lo hi r = nat_lt r.lo hi && nat_lt lo (r.lo + length r.bytes.items)

-- the lower of two addresses, of which the second may be missing
abbrev pub lower : ℕ → Option ℕ → Option ℕ
lower a None = Some a
lower a (Some b) = Some (if nat_le a b then a else b)

-- the least beginning of the regions that have such an address
abbrev pub least_met : ℕ → ℕ → List MemoryRegion → Option ℕ
least_met lo hi [] = None
least_met lo hi (r ∷ rs) = if meets lo hi r then lower r.lo (least_met lo hi rs) else least_met lo hi rs

-- a region from an address on, of these bytes
abbrev pub IsRegion : ℕ → ℕ → List ℕ → MemoryRegion → Type 0
IsRegion lo perms bytes q = (q.lo ≡ lo) × (q.perms ≡ perms) × (q.bytes.items ≡ bytes)

-- the regions and exactly that one more, behind those that begin at or below its address
abbrev pub OneMore : ℕ → ℕ → List ℕ → List MemoryRegion → List MemoryRegion → Type 0
OneMore lo perms bytes old new = (q : MemoryRegion) × IsRegion lo perms bytes q × (new ≡ insert old (begun old lo) q)

-- what adding these bytes does
abbrev pub Added : ℕ → ℕ → List ℕ → List MemoryRegion → List MemoryRegion → Result (Unit {0}) AddError → Type 0
Added lo perms bytes old new (Ok u) = (least_met lo (lo + length bytes) old ≡ None) × OneMore lo perms bytes old new × (cell_at new ≡ joined (cell_at old) (laid lo perms bytes))
Added lo perms bytes old new (Err (add_error.Meets least)) = (least_met lo (lo + length bytes) old ≡ Some least) × (new ≡ old)
Added lo perms bytes old new (Err add_error.Memory) = (least_met lo (lo + length bytes) old ≡ None) × (new ≡ old)

-- no byte is held from lo up to and without hi
abbrev pub IsFree : Bytes → ℕ → ℕ → Type 0
IsFree m lo hi = (a : ℕ) → lo ≤ a → a < hi → m a ≡ None

-- a region is met exactly where a byte is held
abbrev pub MeetsHeld : ℕ → ℕ → Bytes → Result (Unit {0}) AddError → Type 0
MeetsHeld lo hi old (Ok u) = IsFree old lo hi
MeetsHeld lo hi old (Err (add_error.Meets least)) = IsFree old lo hi → ⊥
MeetsHeld lo hi old (Err add_error.Memory) = IsFree old lo hi
