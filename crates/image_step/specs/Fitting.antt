-- Where a delivery doesn't fit. Theorems cite it.
use Rattle.std.specs.Prelude.{◌≡◌, ◌↔◌, ℕ, zero, suc, Bool, not, ◌&&◌, if◌then◌else◌, List, [], ◌∷◌, ◌++◌, length, Option, Some, None}
use Rattle.pun_base.specs.Memory.{Bytes}
use Rattle.cpu_state.specs.declared.world.MemWrite.{MemWrite}
use Rattle.cpu_state.specs.Bytes.{advanced, allows}
use Rattle.cpu_state.specs.Processor.{IsProcessorCore}
use Rattle.insn_form.specs.Machine.{Machine}
use Rattle.insn_form.specs.Plan.{or_first}
use Rattle.start_entries.specs.declared.entry.StartEntry.{StartEntry}
use Rattle.image_runs.specs.Listed.{is_start, is_listed_byte}
use Rattle.image_runs.specs.declared.delivery.Delivery.{Delivery}
use Rattle.image_runs.specs.Deliveries.{Fits}

-- The first of these addresses that a test refuses.
abbrev pub first_refused : (ℕ → Bool) → List ℕ → Option ℕ
first_refused test [] = None
first_refused test (a ∷ rest) = if test a then first_refused test rest else Some a

-- The n addresses from a on.
abbrev pub addresses_from : ℕ → ℕ → List ℕ
addresses_from a zero = []
addresses_from a (suc n) = a ∷ addresses_from (advanced a 1) n

-- The addresses that writes have, in order.
abbrev pub written : List MemWrite → List ℕ
written [] = []
written (w ∷ ws) = addresses_from w.addr (length w.bytes) ++ written ws

-- A delivery may write the byte: it is held with W, and is of no listed instruction.
abbrev pub is_open : List StartEntry → Bytes → ℕ → Bool
is_open listed m a = allows 2 (m a) && not (is_listed_byte listed a)

-- The first address at which a delivery doesn't fit a state, in this order: where the state stands, where the delivery leads
-- to, the bytes that it writes.
abbrev pub unfit_at : List StartEntry → Machine → Delivery → Option ℕ
unfit_at listed s d =
    or_first (first_refused (is_start listed) (s.rip ∷ d.rip ∷ []))
    (first_refused (is_open listed s.mem) (written d.writes))

-- A delivery of a processor's registers fits exactly where there is none.
abbrev pub FitsWhereOpen : Type 0
FitsWhereOpen = (listed : List StartEntry) (s : Machine) (d : Delivery) → IsProcessorCore d.core →
    Fits listed s d ↔ (unfit_at listed s d ≡ None)

-- A delivery doesn't fit, at this address first.
pub record IsUnfit (listed : List StartEntry) (s : Machine) (d : Delivery) (addr : ℕ) : Type 0 where
  pub first : unfit_at listed s d ≡ Some addr
  pub none : Fits listed s d → ⊥
