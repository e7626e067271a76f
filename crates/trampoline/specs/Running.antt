-- Trampolines at work: the event, then the instruction's work, and nothing else is seen. Theorems cite it.
use Rattle.std.specs.Prelude.{◌≡◌, ◌≢◌, ◌⊎◌, ℕ, ◌+◌, ◌-◌, ◌^◌, ◌<◌, ◌≤◌, Bool, true, List, [], ◌∷◌, ◌++◌, length, map, Option, Some, None, IfSome, ℤ}
use Rattle.pun_base.specs.Memory.{Bytes}
use Rattle.pun_base.specs.declared.action.Action.{Action}
use Rattle.pun_base.specs.Actions.{IsAction}
use Rattle.pun_base.specs.Limits.{most_sites}
use Rattle.cpu_state.specs.Bytes.{Stands}
use Rattle.length_decode.specs.Spelling.{Fields, IsInstruction, spelling}
use Rattle.insn_form.specs.declared.form.Insn.TheVariants.{Exact}
use Rattle.insn_form.specs.declared.form.Op.TheVariants.{Jmp}
use Rattle.insn_form.specs.declared.form.Target.TheVariants.{Rel}
use Rattle.insn_form.specs.Instruction.{insn_of}
use Rattle.insn_form.specs.Displacing.{displaced_len}
use Rattle.insn_form.specs.Machine.{Machine, view}
use Rattle.insn_form.specs.Step.{StepsBy, Step}
use Rattle.insn_form.specs.Runs.{IsRun, last_of}
use Rattle.insn_form.specs.Laws.{SameView}
use Rattle.relocate_insn.specs.Running.{IsPrivate, IsReady, Inside}
use Rattle.trampoline.specs.declared.event.Event.{Event}
use Rattle.trampoline.specs.Events.{IsData, bytes_at, event_code, event_room, mark}
use Rattle.trampoline.specs.Trampolines.{code_of, event_part, part_length}

-- the private bytes that a trampoline needs: those of its event, and 24 without one
abbrev pub room_of : Option Event → ℕ
room_of None = 24
room_of (Some e) = event_room e.action e.number

-- the bytes may stand in the data part
abbrev pub IsDataOf : Option Event → List ℕ → Type 0
IsDataOf None bytes = Unit {0}
IsDataOf (Some e) bytes = IsData e.action bytes

-- the data after the event, where the registers were these
abbrev pub mark_of : Option Event → List ℕ → List ℕ → List ℕ
mark_of None regs bytes = bytes
mark_of (Some e) regs bytes = mark e.action e.number regs bytes

-- the event's action can be asked for, and its number has 16 bits
pub record IsEvent (e : Event) : Type 0 where
  pub action : IsAction e.action
  pub number : e.number < most_sites

-- of the private range's n bytes the data part holds these, and they may stand there
pub record HasData (event : Option Event) (private n : ℕ) (bytes : List ℕ)
    (t : Machine) : Type 0 where
  pub held : bytes_at t.mem (private + 64) (n - 64) ≡ map Some bytes
  pub is_data : IsDataOf event bytes

-- Some bytes it always holds, so an event needs only that they may stand there. Under cover and
-- count any may: these events are recorded whatever the data part holds.
abbrev pub DataIsHeld : Type 0
DataIsHeld = (set : ℕ → Bool) (private n : ℕ) (m : Bytes) → IsPrivate set private n m
    → (bytes : List ℕ) × (bytes_at m (private + 64) (n - 64) ≡ map Some bytes)

-- The states us, run from t, lead to the first address of the relocated code: what is seen is still
-- that of s, and the data part, which held these bytes, has the event's mark.
pub record Recorded (set : ℕ → Bool) (event : Option Event) (private n place : ℕ) (bytes : List ℕ)
    (s t : Machine) (us : List Machine) : Type 0 where
  pub run : IsRun Step t us
  pub few : length us ≤ 16
  pub there : (last_of t us).rip ≡ place + part_length event
  pub inside : Inside (place + 1) (place + part_length event + 1) us
  pub seen : SameView set (last_of t us) s
  pub marked : bytes_at (last_of t us).mem (private + 64) (n - 64)
      ≡ map Some (mark_of event s.core.regs bytes)
  -- of the set no byte changes but those of the private range
  pub kept : (x : ℕ) → set x ≡ true → (x < private) ⊎ (private + n ≤ x) → (last_of t us).mem x ≡ t.mem x

-- An event is recorded wherever its code stands, whatever code stands behind it.
abbrev pub EventsAreRecorded : Type 0
EventsAreRecorded =
    (set : ℕ → Bool) (event : Option Event) (private n place : ℕ) (rest bytes : List ℕ)
    (s t : Machine) → IfSome event IsEvent → room_of event ≤ n → place + part_length event < 2 ^ 31
    → IsReady set private n place (event_part event private ++ rest) s t
    → HasData event private n bytes t
    → (us : List Machine) × Recorded set event private n place bytes s t us

-- Where the code of an event stands, the instruction at its first address is no direct jump.
abbrev pub BeginsWithNoJump : Type 0
BeginsWithNoJump = (action : Action) (private number a : ℕ) (m : Bytes) (f : Fields) (rel : ℤ)
    → Stands m a (event_code action private number) → IsInstruction f → Stands m a (spelling f)
    → insn_of f ≢ Exact (Jmp (Rel rel))

-- What running the rest of a trampoline from t leaves, between two addresses: what is seen of s', where the
-- instruction leads.
pub record Returns (set : ℕ → Bool) (private lo hi : ℕ) (s' t : Machine) : Type 0 where
  pub inner : List Machine
  pub end : Machine
  pub run : IsRun Step t (inner ++ end ∷ [])
  pub few : length inner ≤ 5
  pub inside : Inside (lo + 1) hi inner
  pub seen : view set end ≡ view set s'
  -- of the set no byte changes but 24 at the front of the private range
  pub kept : (x : ℕ) → set x ≡ true → (x < private) ⊎ (private + 24 ≤ x) → end.mem x ≡ t.mem x

-- Code at a place is a trampoline of the instruction of these fields at an address: it records the event, whether or
-- not the instruction then has a step, and where it has one it returns to what is seen behind that step.
abbrev pub IsTrampoline : List ℕ → Option Event → Fields → ℕ → ℕ → ℕ → Type 0
IsTrampoline code event f from place private =
    (set : ℕ → Bool) (n : ℕ) (bytes : List ℕ) (s t : Machine) → s.rip ≡ from → room_of event ≤ n
    → IsReady set private n place code s t → HasData event private n bytes t
    → (us : List Machine) × Recorded set event private n place bytes s t us
    × ((s' : Machine) → StepsBy set f s s'
    → Returns set private (place + part_length event) (place + length code) s' (last_of t us))

-- The law of trampolines: what is built is one.
abbrev pub TrampolinesWork : Type 0
TrampolinesWork = (event : Option Event) (f : Fields) (from place private len : ℕ) → IsInstruction f
    → IfSome event IsEvent → displaced_len (insn_of f) (length (spelling f)) from ≡ Some len
    → from + length (spelling f) ≤ 0x7FFF0000 → place + part_length event < 0x7FFF0080
    → IsTrampoline (code_of event private f (from + length (spelling f)) place) event f from place private
