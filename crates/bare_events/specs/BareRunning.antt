-- Events that use a killed place alone, and the code behind them. Theorems cite it.
use Rattle.std.specs.Prelude.{◌≡◌, ◌⊎◌, ℕ, ◌+◌, ◌-◌, ◌<◌, ◌≤◌, Bool, true, List, [], ◌∷◌, ◌++◌, length, map, Some}
use Rattle.pun_base.specs.Memory.{Bytes}
use Rattle.pun_base.specs.declared.action.Action.TheVariants.{Count, When}
use Rattle.pun_base.specs.declared.action.Base.{Base}
use Rattle.pun_base.specs.declared.action.Comparisons.{Comparisons}
use Rattle.pun_base.specs.Actions.{listed, AreComparisons}
use Rattle.length_decode.specs.Spelling.{Fields, IsInstruction, spelling}
use Rattle.cpu_state.specs.Fixed.{IsFixed}
use Rattle.cpu_state.specs.declared.state.Core.{Core}
use Rattle.cpu_state.specs.Processor.{IsProcessorCore}
use Rattle.insn_form.specs.Operands.{with_reg, rax, rsp}
use Rattle.insn_form.specs.Laws.{SameView, Keeps}
use Rattle.insn_form.specs.Instruction.{insn_of}
use Rattle.insn_form.specs.Displacing.{displaced_len}
use Rattle.insn_form.specs.Machine.{Machine}
use Rattle.insn_form.specs.Step.{StepsBy, Step, next_after}
use Rattle.insn_form.specs.Runs.{IsRun, last_of}
use Rattle.killing.specs.declared.place.Place.{Place}
use Rattle.killing.specs.declared.place.Place.TheVariants.{FiveFlags, SixFlags, Register}
use Rattle.killing.specs.Places.{cleared, SameViewBut}
use Rattle.killing.specs.Table.{kills}
use Rattle.relocate_insn.specs.Relocating.{relocated_code}
use Rattle.relocate_insn.specs.Running.{Inside, IsReady, Works}
use Rattle.event_steps.specs.declared.step.EventStep.{EventStep}
use Rattle.event_steps.specs.EventSteps.{long, AreSteps}
use Rattle.event_steps.specs.EventSteps.Mode.{Alone}
use Rattle.event_steps.specs.DoneSteps.{core_done, ended}
use Rattle.event_steps.specs.WholeEvents.{left_in, FitAll}
use Rattle.event_steps.specs.Interleaved.{Listed}
use Rattle.trampoline.specs.Events.{mark, event_room, bytes_at}
use Rattle.trampoline.specs.Recording.{AreLaid, coming}
use Rattle.trampoline.specs.Trampolines.{work_code}
use Rattle.trampoline.specs.Running.{Returns}
use Rattle.bare_events.specs.BareLists.{changed, flags_count, register_count, flags_when, code_of_list}

-- Code at a place is about to run in t for the instruction at which s stands: t looks like s, but for the set, a place of the processor and
-- the instruction pointer, and has the code, executable and not writable.
pub record IsReadyBut (set : ℕ → Bool) (p : Place) (place : ℕ) (code : List ℕ) (s t : Machine) : Type 0 where
  pub seen : SameViewBut set p t s
  pub there : t.rip ≡ place
  pub stands : IsFixed t.mem place code

-- The relocated code of an instruction that kills a place does its work from such a state: what is seen then is all equal, the place too. No
-- byte of the set changes.
abbrev pub KilledCodeWorks : Type 0
KilledCodeWorks = (p : Place) (f : Fields) (from place private n : ℕ) → kills p (insn_of f) ≡ true → IsInstruction f
    → displaced_len (insn_of f) (length (spelling f)) from ≡ Some n → from + length (spelling f) ≤ 0x7FFF0000
    → place < 0x7FFF0080
    → (set : ℕ → Bool) (s s' t : Machine) → s.rip ≡ from → StepsBy set f s s'
    → IsReadyBut set p place (relocated_code private f (from + length (spelling f)) place) s t
    → (w : Works set (insn_of f) private (next_after from f) place (length (relocated_code private f (from + length (spelling f)) place)) s' t)
    × Keeps set t w.end

-- Registers and flags without what an event that uses a place may change meanwhile: of flags the place alone; where it uses a register that, rax
-- and six flags.
abbrev pub meanwhile : Place → Core → Core
meanwhile FiveFlags c = cleared FiveFlags c
meanwhile SixFlags c = cleared SixFlags c
meanwhile (Register r) c = cleared SixFlags (with_reg (with_reg c rax 0) r 0)

-- the state without that
abbrev pub meanwhile_in : Place → Machine → Machine
meanwhile_in p s = record { core = meanwhile p s.core; rip = s.rip; mem = s.mem; world = s.world }

-- each state looks like s but for that
abbrev pub AllMeanwhile : (ℕ → Bool) → Place → Machine → List Machine → Type 0
AllMeanwhile set p s [] = Unit {0}
AllMeanwhile set p s (v ∷ vs) = SameView set (meanwhile_in p v) (meanwhile_in p s) × AllMeanwhile set p s vs

-- each step changes no more of registers and flags, whatever its datum holds
abbrev pub AllChangeLittle : Place → List EventStep → Type 0
AllChangeLittle p [] = Unit {0}
AllChangeLittle p (s ∷ ss) = ((x : ℕ) (c : Core) → meanwhile p (core_done s x c) ≡ meanwhile p c) × AllChangeLittle p ss

-- An event that is a list uses a place alone, in a private range of n bytes: its steps are a processor's, its data lie in the data part, it
-- gives registers and flags back but for the place, changes no more meanwhile, and marks the data part.
pub record IsBare (p : Place) (e : Listed) (private n : ℕ) (marks : List ℕ → List ℕ → List ℕ) : Type 0 where
  pub kills : e.kills ≡ changed p
  pub steps : AreSteps Alone e.uses e.steps
  pub laid : AreLaid (private + 64) (private + n) e.uses
  pub fits : (c : Core) (m : Bytes) → FitAll e.uses 0 e.steps (coming e.uses c m)
  pub little : AllChangeLittle p e.steps
  pub restores : (c : Core) (m : Bytes) → IsProcessorCore c → cleared p (ended 0 e.steps (coming e.uses c m)).core ≡ cleared p c
  pub marked : (c : Core) (m : Bytes) (bytes : List ℕ) → IsProcessorCore c → private + n ≤ 0x7FFF0000 → bytes_at m (private + 64) (n - 64) ≡ map Some bytes
      → bytes_at (left_in e.uses c 0 e.steps (coming e.uses c m) m) (private + 64) (n - 64) ≡ map Some (marks c.regs bytes)

-- The states us, run from t, lead behind such an event: what is seen is that of s but for the place, and the data part holds these bytes.
pub record BareRecorded (set : ℕ → Bool) (p : Place) (e : Listed) (private n place : ℕ) (after : List ℕ) (s t : Machine) (us : List Machine) : Type 0 where
  pub run : IsRun Step t us
  pub few : length us ≤ length e.steps
  pub there : (last_of t us).rip ≡ place + long e.steps
  pub inside : Inside (place + 1) (place + long e.steps + 1) us
  pub seen : SameViewBut set p (last_of t us) s
  -- inside the event too all is as it was but what the event may change meanwhile
  pub inner : AllMeanwhile set p s us
  pub marked : bytes_at (last_of t us).mem (private + 64) (n - 64) ≡ map Some after
  -- no byte changes but those of the data part
  pub kept : (x : ℕ) → (x < private + 64) ⊎ (private + n ≤ x) → (last_of t us).mem x ≡ t.mem x

-- A trampoline with an event that uses a place which its instruction kills: the event is recorded, whether or not the instruction then has a
-- step, and where it has one the trampoline returns to what is seen behind that step, the place too. Behind the event no byte of the set
-- changes: nothing is saved in memory.
abbrev pub BareTrampolinesWork : Type 0
BareTrampolinesWork = (p : Place) (e : Listed) (private n : ℕ) (marks : List ℕ → List ℕ → List ℕ) → IsBare p e private n marks
    → (f : Fields) (from place k : ℕ) → kills p (insn_of f) ≡ true → IsInstruction f
    → displaced_len (insn_of f) (length (spelling f)) from ≡ Some k → from + length (spelling f) ≤ 0x7FFF0000
    → place + long e.steps < 0x7FFF0080
    → (set : ℕ → Bool) (bytes : List ℕ) (s t : Machine) → s.rip ≡ from
    → IsReady set private n place (code_of_list e ++ work_code private f (from + length (spelling f)) (place + long e.steps)) s t
    → bytes_at t.mem (private + 64) (n - 64) ≡ map Some bytes
    → (us : List Machine) × BareRecorded set p e private n place (marks s.core.regs bytes) s t us
    × ((s' : Machine) → StepsBy set f s s'
    → (r : Returns set private (place + long e.steps) (place + length (code_of_list e ++ work_code private f (from + length (spelling f)) (place + long e.steps))) s' (last_of t us))
    × Keeps set (last_of t us) r.end)

-- INC alone uses five flags, and marks as `count` does
abbrev pub CountsAreBare : Type 0
CountsAreBare = (p i n : ℕ) → event_room Count i ≤ n → IsBare FiveFlags (flags_count p i) p n (mark Count i)

-- with the flags kept in a register it uses that
abbrev pub RegisterCountsAreBare : Type 0
RegisterCountsAreBare = (r p i n : ℕ) → r < 16 → (r ≡ rsp → ⊥) → event_room Count i ≤ n → IsBare (Register r) (register_count r p i) p n (mark Count i)

-- under a condition it uses six flags
abbrev pub WhensAreBare : Type 0
WhensAreBare = (b : Base) (list : Comparisons) (p i n : ℕ) → AreComparisons (listed list) → event_room (When b list) i ≤ n
    → IsBare SixFlags (flags_when b (listed list) p i) p n (mark (When b list) i)
