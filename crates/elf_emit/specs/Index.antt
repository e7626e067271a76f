-- An index: where the things of a list that have to do with a number are found. Contracts of private functions alone cite it.
use Rattle.std.specs.Prelude.{◌≡◌, ℕ, ◌+◌, ◌*◌, ◌/◌, ◌^◌, ◌<◌, ◌≤◌, ◌==◌, Bool, true, ◌&&◌, nat_le, List, length, Contains}
use Rattle.std.specs.List.{AllByRecursion, slice_index_or}
use Rattle.std.specs.List.Sorted.{IsStrictlyIncreasing}
use Rattle.elf_emit.specs.declared.runs.Page.{Page}
use Rattle.elf_emit.specs.Job.{BytesAt}

-- A number and a place in the list, as one number.
abbrev pub pair : ℕ → ℕ → ℕ
pair key place = key * 0x100000000 + place

-- Bytes have to do with the pages from that of their first address to that of the address behind them.
abbrev pub meets_page : BytesAt → ℕ → Bool
meets_page w number = nat_le (w.addr / 4096) number && nat_le number ((w.addr + length w.now) / 4096)

-- A page has to do with its group.
abbrev pub shows : Page → ℕ → Bool
shows p group = p.group == group

-- Ascending pairs, among which are the place of each thing under each number that it has to do with.
pub record Finds {X : Type 0} (has : X → ℕ → Bool) (items : List X) (pairs : List ℕ) : Type 0 where
  pub few : length items < 2 ^ 32
  pub ascending : IsStrictlyIncreasing pairs
  pub each : (key place : ℕ) (d : X) → place < length items → has (slice_index_or items place d) key ≡ true → Contains pairs (pair key place)

-- The pairs of one number, and maybe others behind it.
pub record ArePairsOf (key : ℕ) (pairs part : List ℕ) : Type 0 where
  pub ascending : IsStrictlyIncreasing part
  pub above : AllByRecursion (λ p. key * 0x100000000 ≤ p) part
  pub each : (place : ℕ) → place < 2 ^ 32 → Contains pairs (pair key place) → Contains part (pair key place)

-- The pairs of the things in front of a place are among these.
abbrev pub FindsBefore : {X : Type 0} → (X → ℕ → Bool) → List X → ℕ → List ℕ → Type 0
FindsBefore {X} has items end pairs =
    (key place : ℕ) (d : X) → place < end → has (slice_index_or items place d) key ≡ true → Contains pairs (pair key place)

-- The new list has what the old one has, and the pairs of a place under the numbers from one up to and with another.
pub record AddsPairs (first last place : ℕ) (old new : List ℕ) : Type 0 where
  pub old_ones : (p : ℕ) → Contains old p → Contains new p
  pub new_ones : (key : ℕ) → first ≤ key → key ≤ last → Contains new (pair key place)
