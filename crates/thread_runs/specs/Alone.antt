-- The event that counts under no condition, of a thread that runs alone: what it needs, and what it leaves. Theorems cite it.
use Rattle.std.specs.Prelude.{◌≡◌, ℕ, ◌+◌, ◌%◌, ◌^◌, ◌<◌, ◌≤◌, true, false, List, [], length, None}
use Rattle.pun_base.specs.Memory.{Bytes}
use Rattle.pun_base.specs.declared.action.Base.{Base}
use Rattle.pun_base.specs.declared.action.Base.TheVariants.{Count}
use Rattle.cpu_state.specs.declared.state.Core.{Core}
use Rattle.cpu_state.specs.Bytes.{lacking, number_at}
use Rattle.cpu_state.specs.Fixed.{IsFixed}
use Rattle.cpu_state.specs.Processor.{IsProcessorCore}
use Rattle.insn_form.specs.Machine.{Machine}
use Rattle.insn_form.specs.Runs.{IsPath, last_of}
use Rattle.event_steps.specs.ThreadSteps.{ThreadStep}
use Rattle.trampoline.specs.EventLists.{counter_at, mark_at, mark_len}
use Rattle.thread_runs.specs.ThreadCode.{thread_event, slot}
use Rattle.event_steps.specs.DoneSteps.{is_one_of}
use Rattle.thread_runs.specs.Threading.{is_saved}

-- the bytes that an event uses can be read and written
pub record CanMark (b : Base) (p i : ℕ) (c : Core) (m : Bytes) : Type 0 where
  pub slot_read : lacking 4 m (slot c) 8 ≡ None
  pub slot_written : lacking 2 m (slot c) 8 ≡ None
  pub mark_read : lacking 4 m (mark_at b p i) (mark_len b) ≡ None
  pub mark_written : lacking 2 m (mark_at b p i) (mark_len b) ≡ None

-- a thread stands at the event of site i, which counts; the eight bytes in which rax is saved and those of the counter can be read and written, and lie apart
pub record CanCountAlone (p i place : ℕ) (s : Machine) : Type 0 where
  pub processor : IsProcessorCore s.core
  pub rip : s.rip ≡ place
  pub stands : IsFixed s.mem place (thread_event Count [] p i)
  pub low : place + 32 < 2 ^ 31
  pub room : counter_at p i + 8 ≤ 0x7FFF0000
  pub can : CanMark Count p i s.core s.mem
  pub apart : (x : ℕ) → is_saved s.core x ≡ true → is_one_of (counter_at p i) 8 x ≡ false

-- Seven steps lead to the end of the event. The counter is one more; registers, flags, bases and
-- world are as they were, and so are all bytes but the counter's and the saved ones.
pub record HasCountedAlone (p i place : ℕ) (s : Machine) (us : List Machine) : Type 0 where
  pub run : IsPath ThreadStep s us
  pub seven : length us ≡ 7
  pub there : (last_of s us).rip ≡ place + 32
  pub core : (last_of s us).core ≡ s.core
  pub world : (last_of s us).world ≡ s.world
  pub counter : number_at (last_of s us).mem (counter_at p i) 8 ≡ (number_at s.mem (counter_at p i) 8 + 1) % 2 ^ 64
  pub kept : (x : ℕ) → is_saved s.core x ≡ false → is_one_of (counter_at p i) 8 x ≡ false → (last_of s us).mem x ≡ s.mem x

-- Each event that counts, whose bytes can be read and written, adds one when its thread runs alone.
abbrev pub EventCountsAlone : Type 0
EventCountsAlone = (p i place : ℕ) (s : Machine) → CanCountAlone p i place s → (us : List Machine) × HasCountedAlone p i place s us
