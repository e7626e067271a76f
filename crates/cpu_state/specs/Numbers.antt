-- What a load and a store do. Theorems cite it.
use Rattle.std.specs.Prelude.{◌≡◌, ℕ, List, Option, Some, None, Result, Ok, Err}
use Rattle.pun_base.specs.Memory.{Bytes}
use Rattle.cpu_state.specs.declared.memory.NoByte.{NoByte}
use Rattle.cpu_state.specs.declared.regions.MemoryRegion.{MemoryRegion}
use Rattle.cpu_state.specs.Regions.{cell_at}
use Rattle.cpu_state.specs.Bytes.{lacking, number_at, put_number}

-- a number, unless an address lacks its byte
abbrev pub unless_lacking : Option ℕ → ℕ → Result ℕ NoByte
unless_lacking None n = Ok n
unless_lacking (Some a) n = Err (record { addr = a })

-- the number of the n bytes from a on, where each is held with R
abbrev pub loaded : Bytes → ℕ → ℕ → Result ℕ NoByte
loaded m a n = unless_lacking (lacking 4 m a n) (number_at m a n)

-- the low n bytes of v are written from a on where each is held with W, and else nothing
abbrev pub Stored : ℕ → ℕ → ℕ → List MemoryRegion → List MemoryRegion → Result (Unit {0}) NoByte → Type 0
Stored a n v old new (Ok u) = (lacking 2 (cell_at old) a n ≡ None) × (cell_at new ≡ put_number (cell_at old) a n v)
Stored a n v old new (Err e) = (lacking 2 (cell_at old) a n ≡ Some e.addr) × (new ≡ old)
