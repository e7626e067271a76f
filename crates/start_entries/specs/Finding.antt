-- Entries that are looked up by their addresses. Theorems cite it.
use Rattle.std.specs.Prelude.{ℕ, ◌==◌, ◌<◌, ◌≤◌, nat_lt, List, map, Option, Contains}
use Rattle.std.specs.List.{find}
use Rattle.start_entries.specs.declared.entry.StartEntry.{StartEntry}

-- The addresses of entries.
abbrev pub addresses : List StartEntry → List ℕ
addresses es = map (λ e. e.addr) es

-- The entry at an address.
abbrev pub entry_at : List StartEntry → ℕ → Option StartEntry
entry_at es a = find (λ e. e.addr == a) es

-- The first entry above an address.
abbrev pub entry_after : List StartEntry → ℕ → Option StartEntry
entry_after es a = find (λ e. nat_lt a e.addr) es

-- The entry e lies above an address, and no entry above that address lies below e.
abbrev pub IsLeastAbove : List StartEntry → ℕ → StartEntry → Type 0
IsLeastAbove es a e = (a < e.addr) × ((f : StartEntry) → Contains es f → a < f.addr → e.addr ≤ f.addr)
