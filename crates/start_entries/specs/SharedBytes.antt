-- Which listed instructions share bytes. Theorems cite it.
use Rattle.std.specs.Prelude.{◌≢◌, ℕ, ◌+◌, ◌==◌, ◌<◌, ◌≤◌, nat_le, nat_lt, Bool, not, ◌&&◌, ◌||◌, List, Contains}
use Rattle.std.specs.List.{list_any}
use Rattle.start_entries.specs.declared.entry.StartEntry.{StartEntry}

-- An address is one of an instruction's bytes.
abbrev pub has_byte : ℕ → StartEntry → Bool
has_byte x e = nat_le e.addr x && nat_lt x (e.addr + e.len)

-- The first byte of one of two instructions is a byte of the other, and they begin at different addresses.
abbrev pub meets : StartEntry → StartEntry → Bool
meets e f = not (f.addr == e.addr) && (has_byte e.addr f || has_byte f.addr e)

-- An instruction meets another one.
unfoldable pub is_shared : List StartEntry → StartEntry → Bool
is_shared es e = list_any (meets e) es

-- An instruction, marked as shared where it meets another one.
abbrev pub marked : List StartEntry → StartEntry → StartEntry
marked es e = record { addr = e.addr; len = e.len; form = e.form; shared = is_shared es e }

-- One of an instruction's bytes is a byte of another listed instruction.
abbrev pub SharesByte : List StartEntry → StartEntry → Type 0
SharesByte es e =
    (f : StartEntry) × Contains es f × (f.addr ≢ e.addr)
    × ((x : ℕ) × (e.addr ≤ x) × (x < e.addr + e.len) × (f.addr ≤ x) × (x < f.addr + f.len))
