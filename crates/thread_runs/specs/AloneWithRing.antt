-- The event that keeps a ring, of a thread that runs alone: what it needs, and what it leaves. Theorems cite it.
use Rattle.std.specs.Prelude.{◌≡◌, ℕ, ◌+◌, ◌%◌, ◌^◌, ◌<◌, ◌≤◌, true, false, List, length, None}
use Rattle.pun_base.specs.Memory.{Bytes}
use Rattle.cpu_state.specs.declared.state.Core.{Core}
use Rattle.cpu_state.specs.Bytes.{lacking, number_at}
use Rattle.cpu_state.specs.Fixed.{IsFixed}
use Rattle.cpu_state.specs.Processor.{IsProcessorCore}
use Rattle.insn_form.specs.Machine.{Machine}
use Rattle.insn_form.specs.Runs.{IsPath, last_of}
use Rattle.event_steps.specs.ThreadSteps.{ThreadStep}
use Rattle.thread_runs.specs.ThreadCode.{ring_event, ring_len, is_ring_length, position_at, slot_at, flag_slot}
use Rattle.event_steps.specs.DoneSteps.{is_one_of}

-- the bytes that an event with a ring of n slots uses can be read and written
pub record CanKeep (n p : ℕ) (c : Core) (m : Bytes) : Type 0 where
  pub saved_read : lacking 4 m (flag_slot c) 16 ≡ None
  pub saved_written : lacking 2 m (flag_slot c) 16 ≡ None
  pub position_read : lacking 4 m (position_at p) 4 ≡ None
  pub position_written : lacking 2 m (position_at p) 4 ≡ None
  pub slots_written : (j : ℕ) → j < n → lacking 2 m (slot_at p j) 4 ≡ None

-- a thread stands at the event of site i, which keeps a ring of n slots; the bytes that the event uses can be read and written, and the
-- sixteen in which rax and the flags are saved are none of the position and of the slots
pub record CanKeepAlone (n p i place : ℕ) (s : Machine) : Type 0 where
  pub processor : IsProcessorCore s.core
  pub rip : s.rip ≡ place
  pub stands : IsFixed s.mem place (ring_event n p i)
  pub size : is_ring_length n ≡ true
  pub low : place + ring_len < 2 ^ 31
  pub room : slot_at p n ≤ 0x7FFF0000
  pub number : i + 1 < 2 ^ 31
  pub can : CanKeep n p s.core s.mem
  pub apart : (x : ℕ) → is_one_of (flag_slot s.core) 16 x ≡ true
      → (is_one_of (position_at p) 4 x ≡ false) × ((j : ℕ) → j < n → is_one_of (slot_at p j) 4 x ≡ false)

-- the slot to which the position leads, which the next claim is for
abbrev pub next_slot : ℕ → ℕ → Bytes → ℕ
next_slot n p m = slot_at p (number_at m (position_at p) 4 % n)

-- Twelve steps lead to the end of the event. The position is one more, and the slot to which it led holds one more than the number of
-- the site; registers, flags, bases and world are as they were, and so are all bytes but those of both and the saved ones.
pub record HasKeptAlone (n p i place : ℕ) (s : Machine) (us : List Machine) : Type 0 where
  pub run : IsPath ThreadStep s us
  pub twelve : length us ≡ 12
  pub there : (last_of s us).rip ≡ place + 67
  pub core : (last_of s us).core ≡ s.core
  pub world : (last_of s us).world ≡ s.world
  pub position : number_at (last_of s us).mem (position_at p) 4 ≡ (number_at s.mem (position_at p) 4 + 1) % 2 ^ 32
  pub slot : number_at (last_of s us).mem (next_slot n p s.mem) 4 ≡ i + 1
  pub kept : (x : ℕ) → is_one_of (flag_slot s.core) 16 x ≡ false → is_one_of (position_at p) 4 x ≡ false → is_one_of (next_slot n p s.mem) 4 x ≡ false
      → (last_of s us).mem x ≡ s.mem x

-- Each event that keeps a ring, whose bytes can be read and written, claims one slot and fills it when its thread runs alone.
abbrev pub EventKeepsAlone : Type 0
EventKeepsAlone = (n p i place : ℕ) (s : Machine) → CanKeepAlone n p i place s → (us : List Machine) × HasKeptAlone n p i place s us
