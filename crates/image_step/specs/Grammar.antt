-- What a script that a text spells keeps. Theorems cite it.
use Rattle.std.specs.Prelude.{◌≡◌, ℕ, ◌+◌, ◌^◌, ◌<◌, Bool, true, ◌&&◌, nat_le, nat_lt, length, IfSome}
use Rattle.std.specs.List.{AllByRecursion}
use Rattle.hex.specs.Hex.{IsBytes}
use Rattle.cpu_state.specs.declared.script_regions.RegionBody.{RegionBody}
use Rattle.cpu_state.specs.declared.script_regions.RegionBody.TheVariants.{Zeros, Bytes}
use Rattle.cpu_state.specs.Script.{are_regions, is_bounded, is_permission}
use Rattle.image_step.specs.declared.line.Line.{Line}
use Rattle.image_step.specs.declared.line.Line.TheVariants as line
use Rattle.image_step.specs.Values.{EntryValue, ScriptValue}
use Rattle.image_step.specs.Spelling.{script_lines}

-- A number of things, at least one and at most so many.
abbrev pub is_within : ℕ → ℕ → Bool
is_within most count = nat_lt 0 count && nat_le count most

-- The bounds of one line: nineteen names, regions as `cpu_state` has them, 1 to 15 bytes of an instruction, and 1 to 4,096
-- bytes of a write that end at 2 ^ 64 at the latest.
abbrev pub line_fits : Line → Bool
line_fits line.Version = true
line_fits (line.Value k v) = nat_lt k 19
line_fits (line.Region r) = is_permission r.perms && is_bounded r.lo r.body
line_fits (line.Ask q) = is_within 15 (length q.bytes)
line_fits (line.Set k v) = nat_lt k 19
line_fits (line.Mem w) = is_within 4096 (length w.bytes) && nat_le (w.addr + length w.bytes) (2 ^ 64)
line_fits line.End = true

-- What a region lists are bytes.
abbrev pub IsBodyOfBytes : RegionBody → Type 0
IsBodyOfBytes (Zeros n) = Unit {0}
IsBodyOfBytes (Bytes bs) = IsBytes bs

-- Values and addresses have 64 bits, and bytes are bytes.
abbrev pub HasNumbers : Line → Type 0
HasNumbers line.Version = Unit {0}
HasNumbers (line.Value k v) = v < 2 ^ 64
HasNumbers (line.Region r) = (r.lo < 2 ^ 64) × IsBodyOfBytes r.body
HasNumbers (line.Ask q) = IsBytes q.bytes × IfSome q.addr (λ a. a < 2 ^ 64)
HasNumbers (line.Set k v) = v < 2 ^ 64
HasNumbers (line.Mem w) = (w.addr < 2 ^ 64) × IsBytes w.bytes
HasNumbers line.End = Unit {0}

-- A line is within its bounds, and its numbers and bytes are such.
pub record LineHolds (x : Line) : Type 0 where
  pub fits : line_fits x ≡ true
  pub numbers : HasNumbers x

-- An entry has a place for each name.
abbrev pub HasNames : EntryValue → Type 0
HasNames e = length e.given ≡ 19

-- A script that a text spells: a value for each name; regions that ascend, at most sixteen; each line within its bounds.
pub record IsScript (v : ScriptValue) : Type 0 where
  pub values : length v.values ≡ 19
  pub regions : are_regions v.regions ≡ true
  pub entries : AllByRecursion HasNames v.entries
  pub lines : AllByRecursion LineHolds (script_lines v)
