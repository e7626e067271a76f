-- Addresses of listed instructions. Theorems cite it.
use Rattle.std.specs.Prelude.{◌≡◌, ℕ, ◌+◌, ◌<◌, ◌≤◌, ◌==◌, nat_le, nat_lt, Bool, true, false, ◌&&◌, List, is_some}
use Rattle.std.specs.List.{AllWithin, list_all, list_any}
use Rattle.std.specs.List.Sorted.{IsPartitionPoint}
use Rattle.start_entries.specs.declared.entry.StartEntry.{StartEntry}

-- The address is a listed start.
abbrev pub is_start : List StartEntry → ℕ → Bool
is_start ls a = list_any (λ l. l.addr == a) ls

-- The address is a listed start of known length.
abbrev pub is_known_start : List StartEntry → ℕ → Bool
is_known_start ls a = list_any (λ l. (l.addr == a) && is_some l.form) ls

-- The address is that of a byte of a listed instruction.
abbrev pub is_listed_byte : List StartEntry → ℕ → Bool
is_listed_byte ls a = list_any (λ l. nat_le l.addr a && nat_lt a (l.addr + l.len)) ls

-- Each listed instruction has at most 15 bytes (Intel SDM, volume 2, section 2.3.11).
abbrev pub are_short : List StartEntry → Bool
are_short ls = list_all (λ l. nat_le l.len 15) ls

-- The first i entries begin n bytes below an address or further below, and the others don't.
abbrev pub IsParted : List StartEntry → ℕ → ℕ → ℕ → Type 0
IsParted ls n a i = IsPartitionPoint (λ l. nat_le (l.addr + n) a ≡ true) (λ l. nat_le (l.addr + n) a ≡ false) ls i

-- The first n entries begin 15 bytes below an address or further below.
abbrev pub BeginBelow : List StartEntry → ℕ → ℕ → Type 0
BeginBelow ls n a = AllWithin (λ l. nat_le (l.addr + 15) a ≡ true) ls 0 n

-- No entry has a byte from an address a on and below b.
abbrev pub HaveNone : List StartEntry → ℕ → ℕ → Type 0
HaveNone ls a b = (x : ℕ) → a ≤ x → x < b → is_listed_byte ls x ≡ false
