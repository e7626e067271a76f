-- Killed places in the steps of threads. Theorems cite it.
use Rattle.std.specs.Prelude.{◌≡◌, ℕ, ◌+◌, ◌%◌, ◌^◌, ◌<◌, ◌≤◌, Bool, true, [], ◌∷◌, None}
use Rattle.pun_base.specs.declared.action.Base.TheVariants as base
use Rattle.length_decode.specs.Spelling.{Fields}
use Rattle.cpu_state.specs.Bytes.{lacking, number_at, put_list, bytes_of}
use Rattle.cpu_state.specs.Fixed.{IsFixed}
use Rattle.insn_form.specs.Instruction.{insn_of}
use Rattle.insn_form.specs.Machine.{Machine, leaves}
use Rattle.insn_form.specs.Step.{IsAt}
use Rattle.insn_form.specs.Touched.{reads_none}
use Rattle.killing.specs.declared.place.Place.{Place}
use Rattle.killing.specs.declared.place.Place.TheVariants.{FiveFlags}
use Rattle.killing.specs.Places.{cleared, AgreeBut, IsAlikeBut}
use Rattle.killing.specs.Table.{kills}
use Rattle.event_steps.specs.ThreadSteps.{thread_task, ThreadStepsBy, ThreadStep}
use Rattle.relocate_insn.specs.Pieces.{four}
use Rattle.event_steps.specs.declared.step.EventStep.TheVariants.{CountUp}
use Rattle.event_steps.specs.EventSteps.{code}
use Rattle.event_steps.specs.Interleaved.{Listed}
use Rattle.event_steps.specs.Interleaved.Killed.{Five}
use Rattle.cond_action.specs.CondLists.{counter_at, marked_datum}
use Rattle.thread_runs.specs.Work.{IsWork, Worked}

-- Each step that a thread has by the instruction from a state, it has from each state that is equal but for the place, to the very same state.
abbrev pub ThreadKills : Place → Fields → Type 0
ThreadKills p f = (s u t : Machine) → AgreeBut p s u → ThreadStepsBy f s t → ThreadStepsBy f u t

-- what the table lists is killed for a thread
abbrev pub IsKilledThread : Type 0
IsKilledThread = (p : Place) (f : Fields) → kills p (insn_of f) ≡ true → ThreadKills p f

-- s stands at an instruction, and u, which is like it but for a place of the processor, at its relocated code
pub record AtWorkBut (hidden stale : ℕ → Bool) (p : Place) (f : Fields) (next to : ℕ) (s u : Machine) : Type 0 where
  pub here : IsAt s f
  pub there : u.rip ≡ to
  pub work : IsWork f s.rip next to u
  pub alike : IsAlikeBut hidden stale p s u
  pub apart : leaves hidden (thread_task f next) next s ≡ true
  pub fresh : reads_none stale (thread_task f next) next s ≡ true

-- Where one of an instruction that kills the place and its relocated code has the instruction's step, the other has it too, and the effect
-- step leads to the relocated code's tail, where the place is equal too.
abbrev pub IsKilledEffectStep : Type 0
IsKilledEffectStep = (hidden stale : ℕ → Bool) (p : Place) (f : Fields) (next to : ℕ) (s u : Machine) → kills p (insn_of f) ≡ true → AtWorkBut hidden stale p f next to s u
    → ((s' : Machine) → ThreadStepsBy f s s' → (u' : Machine) × Worked hidden stale f next to s u s' u')
    × ((u' : Machine) → ThreadStep u u' → (s' : Machine) × Worked hidden stale f next to s u s' u')

-- the event of threads that counts by LOCK INC alone: p is the first address of the private range, i the number of the site
abbrev pub thread_count : ℕ → ℕ → Listed
thread_count p i = record { uses = marked_datum base.Count p i ∷ []; steps = CountUp true 0 ∷ []; kills = Five }

-- a thread at such an event, whose code stands at an address
pub record AtCounter (p i at : ℕ) (v : Machine) : Type 0 where
  pub rip : v.rip ≡ at
  pub stands : IsFixed v.mem at (code (thread_count p i).uses (thread_count p i).steps)
  pub low : at + 9 < 2 ^ 31
  pub room : counter_at p i + 8 ≤ 0x7FFF0000

-- it has counted: the counter is one higher, and of registers and flags five flags alone may have changed
pub record HasCounted (p i at : ℕ) (v w : Machine) : Type 0 where
  pub same : cleared FiveFlags w.core ≡ cleared FiveFlags v.core
  pub rip : w.rip ≡ at + 9
  pub mem : w.mem ≡ put_list v.mem (counter_at p i) (bytes_of 8 ((number_at v.mem (counter_at p i) 8 + 1) % 2 ^ 64))
  pub world : w.world ≡ v.world

-- the step that a thread makes there counts
abbrev pub IsBareCountStep : Type 0
IsBareCountStep = (p i at : ℕ) (v w : Machine) → AtCounter p i at v → ThreadStep v w → HasCounted p i at v w

-- where the counter can be read and written, it makes one
abbrev pub BareCountGoes : Type 0
BareCountGoes = (p i at : ℕ) (v : Machine) → AtCounter p i at v → lacking 4 v.mem (counter_at p i) 8 ≡ None → lacking 2 v.mem (counter_at p i) 8 ≡ None
    → (w : Machine) × ThreadStep v w × HasCounted p i at v w

-- its bytes: LOCK INC qword [counter]
abbrev pub BareCountBytes : Type 0
BareCountBytes = (p i : ℕ) → code (thread_count p i).uses (thread_count p i).steps ≡ 0xf0 ∷ 0x48 ∷ 0xff ∷ 0x04 ∷ 0x25 ∷ four (counter_at p i)
