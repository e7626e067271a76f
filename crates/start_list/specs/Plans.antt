-- A plan as it is answered: its runs of written and of punned bytes, and its trampolines. Theorems cite it.
use Rattle.std.specs.Prelude.{◌≡◌, ℕ, zero, suc, ◌+◌, ◌<◌, Bool, List, [], ◌∷◌, map, length, Option, Some, None}
use Rattle.std.specs.List.{AllByRecursion, list_any}
use Rattle.pun_base.specs.Memory.{Bytes}
use Rattle.pun_base.specs.Ranges.{is_within}
use Rattle.pun_base.specs.declared.scheme.Scheme.{Scheme}
use Rattle.pun_base.specs.declared.outcome.Plan.{Plan}
use Rattle.pun_base.specs.declared.plan.Write.{Write}
use Rattle.pun_base.specs.declared.pun.Pun.{Pun}
use Rattle.pun_base.specs.declared.tramp.Tramp.{Tramp}
use Rattle.cpu_state.specs.Bytes.{byte_of}
use Rattle.start_entries.specs.declared.entry.StartEntry.{StartEntry}
use Rattle.start_list.specs.TurnViews.{TurnView, memory_now}
use Rattle.start_list.specs.PlanJumps.{is_written, is_punned, after_writes}
use Rattle.start_list.specs.Forms.{Candidate, Trampoline, scheme_of, jumps_of, trampolines_of}
use Rattle.start_list.specs.Admissible.{IsAdmissible, IsFirst}

-- A run: an address, and how many bytes from it on.
pub record Run : Type 0 where
  pub addr : ℕ
  pub size : ℕ

-- Runs ascend: none is empty, and each lies above the one before without touching it.
abbrev pub Ascend : List Run → Type 0
Ascend [] = Unit {0}
Ascend (r ∷ rs) = (0 < r.size) × AllByRecursion (λ s. r.addr + r.size < s.addr) rs × Ascend rs

-- The maximal runs of a set of addresses, in ascending order.
pub record AreRuns (set : ℕ → Bool) (runs : List Run) : Type 0 where
  pub ascend : Ascend runs
  pub told : (a : ℕ) → list_any (λ r. is_within r.addr r.size a) runs ≡ set a

-- The n bytes that stand from an address on.
abbrev pub bytes_from : Bytes → ℕ → ℕ → List ℕ
bytes_from m a zero = []
bytes_from m a (suc n) = byte_of (m a) ∷ bytes_from m (a + 1) n

-- The run of a write.
abbrev pub write_run : Write → Run
write_run w = record { addr = w.addr; size = length w.was }

-- The run of a pun.
abbrev pub pun_run : Pun → Run
pun_run p = record { addr = p.addr; size = length p.bytes }

-- A write tells the bytes that stand before and after the writes.
abbrev pub TellsWrite : Bytes → Bytes → Write → Type 0
TellsWrite before after w = (w.was ≡ bytes_from before w.addr (length w.was)) × (w.now ≡ bytes_from after w.addr (length w.was))

-- A pun tells the bytes that stand before the writes.
abbrev pub TellsPun : Bytes → Pun → Type 0
TellsPun before p = p.bytes ≡ bytes_from before p.addr (length p.bytes)

-- A trampoline as a plan tells it.
abbrev pub tramp_of : Trampoline → Tramp
tramp_of t = record { place = t.place; start = t.entry.addr; event = t.event }

-- The plan tells a candidate's scheme, its trampolines, its maximal runs of written bytes as they stand before and after
-- the writes, and its maximal runs of punned bytes as they stand.
pub record IsPlanOf (v : TurnView) (site : StartEntry) (c : Candidate) (plan : Plan) : Type 0 where
  pub scheme : plan.scheme ≡ scheme_of c
  pub tramps : plan.tramps ≡ map tramp_of (trampolines_of site c)
  pub written : AreRuns (is_written (jumps_of site c)) (map write_run plan.writes)
  pub writes : AllByRecursion (TellsWrite (memory_now v) (after_writes (memory_now v) (jumps_of site c))) plan.writes
  pub punned : AreRuns (is_punned (jumps_of site c)) (map pun_run plan.puns)
  pub puns : AllByRecursion (TellsPun (memory_now v)) plan.puns

-- The answer is the first admissible plan of the scheme, and None exactly where none is admissible.
abbrev pub FirstPlan : TurnView → StartEntry → Scheme → Option Plan → Type 0
FirstPlan v site s None = (c : Candidate) → scheme_of c ≡ s → IsAdmissible v site c → ⊥
FirstPlan v site s (Some plan) = (c : Candidate) × IsFirst v site s c × IsPlanOf v site c plan
