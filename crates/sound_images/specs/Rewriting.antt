-- What was rewritten, as the original, the written file, the starts and the report tell it. Theorems cite it.
use Rattle.std.specs.Prelude.{ℕ, Bool, not, ◌&&◌, ◌||◌, List, filter, is_some}
use Rattle.pun_base.specs.Memory.{Bytes}
use Rattle.pun_base.specs.declared.action.Action.{Action}
use Rattle.start_entries.specs.declared.entry.StartEntry.{StartEntry}
use Rattle.insn_form.specs.Machine.{Machine, view}
use Rattle.image_runs.specs.Listed.{is_start, is_listed_byte}

-- A patched site: its number, its address, the first address of its trampoline and that of the relocated code in it.
pub record Site : Type 0 where
  pub number : ℕ
  pub addr : ℕ
  pub place : ℕ
  pub relocated : ℕ

-- A trampoline that records an event: the event's number, and the first address.
pub record EventTramp : Type 0 where
  pub number : ℕ
  pub place : ℕ

-- An original and what it was rewritten to.
pub record Rewriting : Type 0 where
  -- what loading the original and the written file gives
  pub original : Bytes
  pub patched : Bytes
  pub entry : ℕ
  -- each listed start, with its length and, where this is known, its form
  pub listed : List StartEntry
  pub sites : List Site
  pub event_tramps : List EventTramp
  pub action : Action
  -- the data part: its first address and its number of bytes
  pub data_lo : ℕ
  pub data_len : ℕ

-- The address is new: the patched image holds it and the original's doesn't.
abbrev pub is_new : Rewriting → ℕ → Bool
is_new r a = is_some (r.patched a) && not (is_some (r.original a))

-- The view of a state: its registers, instruction pointer, flags, bases and rest of the world, and its
-- memory without the bytes of listed instructions and the new addresses.
abbrev pub shown : Rewriting → Machine → Machine
shown r s = view (λ a. is_listed_byte r.listed a || is_new r a) s

-- The outside states of a run: those that stand at a listed start.
abbrev pub outside : Rewriting → List Machine → List Machine
outside r states = filter (λ s. is_start r.listed s.rip) states
