-- Events that are lists: what one must say to be recorded. Theorems cite it.
use Rattle.std.specs.Prelude.{◌≡◌, ◌⊎◌, ℕ, ◌+◌, ◌-◌, ◌^◌, ◌<◌, ◌≤◌, Bool, true, List, [], ◌∷◌, ◌++◌, length, map, Some}
use Rattle.pun_base.specs.Memory.{Bytes, without}
use Rattle.cpu_alu.specs.declared.flag_word.Flags.{Flags}
use Rattle.cpu_state.specs.declared.state.Core.{Core}
use Rattle.cpu_state.specs.Processor.{IsProcessorCore}
use Rattle.insn_form.specs.Operands.{with_reg, with_flags}
use Rattle.insn_form.specs.Machine.{Machine}
use Rattle.insn_form.specs.Step.{Step}
use Rattle.insn_form.specs.Runs.{IsRun, last_of}
use Rattle.relocate_insn.specs.Running.{IsReady, Inside}
use Rattle.trampoline.specs.Events.{bytes_at}
use Rattle.event_steps.specs.declared.step.Place.{Place}
use Rattle.event_steps.specs.declared.step.Datum.{Datum}
use Rattle.event_steps.specs.EventSteps.{long, code, AreSteps}
use Rattle.event_steps.specs.DoneSteps.{Local, started, ended}
use Rattle.event_steps.specs.WholeEvents.{left_in, FitAll}
use Rattle.event_steps.specs.EventSteps.Mode.{Alone}
use Rattle.event_steps.specs.declared.step.Place.TheVariants.{At, Below}
use Rattle.event_steps.specs.Interleaved.{Killed, Listed, numbers_in}
use Rattle.event_steps.specs.Interleaved.Killed.{Nothing, Five, Six, Register}

-- registers, flags and bases d are c but for that
abbrev pub AgreeBut : Killed → Core → Core → Type 0
AgreeBut Nothing c d = d ≡ c
AgreeBut Five c d = (f : Flags) × (f.cf ≡ c.flags.cf) × (f.rest ≡ c.flags.rest) × (d ≡ with_flags c f)
AgreeBut Six c d = (f : Flags) × (f.rest ≡ c.flags.rest) × (d ≡ with_flags c f)
AgreeBut (Register r) c d = (x : ℕ) × (d ≡ with_reg c r x)

-- any bytes may stand in the data part
abbrev pub any_data : List ℕ → Bool
any_data bytes = true

-- a datum lies at an address, from one address on and below another
abbrev pub IsLaid : ℕ → ℕ → Place → ℕ → Type 0
IsLaid lo hi (At a) n = (lo ≤ a) × (a + n ≤ hi)
IsLaid lo hi (Below d) n = ⊥

-- the address behind it
abbrev pub behind : Place → ℕ → ℕ
behind (At a) n = a + n
behind (Below d) n = 0

-- data lie so, one behind the other
abbrev pub AreLaid : ℕ → ℕ → List Datum → Type 0
AreLaid lo hi [] = Unit {0}
AreLaid lo hi (d ∷ ds) = IsLaid lo hi d.place d.size × AreLaid (behind d.place d.size) hi ds

-- what steps do from registers, flags and memory
abbrev pub coming : List Datum → Core → Bytes → Local
coming ds c m = started c (numbers_in ds c m)

-- An event says enough to be recorded in a private range of n bytes: its steps are a processor's, its data lie in the range, it restores registers and
-- flags but for what is killed, and marks the data part.
pub record SaysEnough (e : Listed) (private n : ℕ) (can : List ℕ → Bool) (marks : List ℕ → List ℕ → List ℕ) : Type 0 where
  pub steps : AreSteps Alone e.uses e.steps
  pub laid : AreLaid private (private + n) e.uses
  pub few : length e.steps ≤ 16
  pub fits : (c : Core) (m : Bytes) (bytes : List ℕ) → IsProcessorCore c → private + n ≤ 0x7FFF0000 → bytes_at m (private + 64) (n - 64) ≡ map Some bytes → can bytes ≡ true
      → FitAll e.uses 0 e.steps (coming e.uses c m)
  pub restores : (c : Core) (m : Bytes) → IsProcessorCore c → AgreeBut e.kills c (ended 0 e.steps (coming e.uses c m)).core
  pub marked : (c : Core) (m : Bytes) (bytes : List ℕ) → IsProcessorCore c → private + n ≤ 0x7FFF0000 → bytes_at m (private + 64) (n - 64) ≡ map Some bytes → can bytes ≡ true
      → bytes_at (left_in e.uses c 0 e.steps (coming e.uses c m) m) (private + 64) (n - 64) ≡ map Some (marks c.regs bytes)

-- What running it leaves, of any event.
pub record IsRecorded (set : ℕ → Bool) (e : Listed) (private n place : ℕ) (after : List ℕ) (s t : Machine) (us : List Machine) : Type 0 where
  pub run : IsRun Step t us
  pub few : length us ≤ 16
  pub there : (last_of t us).rip ≡ place + long e.steps
  pub inside : Inside (place + 1) (place + long e.steps + 1) us
  pub core : AgreeBut e.kills s.core (last_of t us).core
  pub world : (last_of t us).world ≡ s.world
  pub hidden : without set (last_of t us).mem ≡ without set s.mem
  pub marked : bytes_at (last_of t us).mem (private + 64) (n - 64) ≡ map Some after
  pub kept : (x : ℕ) → set x ≡ true → (x < private) ⊎ (private + n ≤ x) → (last_of t us).mem x ≡ t.mem x

-- An event that says enough is recorded wherever its code stands.
abbrev pub ListedEventsAreRecorded : Type 0
ListedEventsAreRecorded = (set : ℕ → Bool) (e : Listed) (private n place : ℕ) (can : List ℕ → Bool) (marks : List ℕ → List ℕ → List ℕ) (rest bytes : List ℕ) (s t : Machine) → SaysEnough e private n can marks
    → place + long e.steps < 2 ^ 31 → IsReady set private n place (code e.uses e.steps ++ rest) s t → bytes_at t.mem (private + 64) (n - 64) ≡ map Some bytes → can bytes ≡ true
    → (us : List Machine) × IsRecorded set e private n place (marks s.core.regs bytes) s t us
