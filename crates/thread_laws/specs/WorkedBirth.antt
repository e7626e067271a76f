-- A worked run: a thread makes the system call clone, a second thread begins, and goes through the trampoline of a site that covers. The
-- premises of the theorem are met. Worked examples alone cite it.
use Rattle.std.specs.Prelude.{◌≡◌, ℕ, true, List, [], ◌∷◌, Some, None, slice_get}
use Rattle.pun_base.specs.Memory.{Bytes, joined}
use Rattle.pun_base.specs.declared.action.Base.TheVariants.{Cover}
use Rattle.cpu_state.specs.Bytes.{byte_of}
use Rattle.start_entries.specs.Standing.{AreEntries}
use Rattle.image_runs.specs.Listed.{is_start}
use Rattle.thread_runs.specs.ThreadCode.{Marks}
use Rattle.thread_runs.specs.Guest.{Guest}
use Rattle.thread_runs.specs.Threading.{Threading, IsThreadSound}
use Rattle.thread_runs.specs.Theorem.{AreStartGuests}
use Rattle.thread_runs.specs.GuestDeliveries.{Goes}
use Rattle.thread_laws.specs.Beginning.{BirthItem, Does, Begins, child_of, GrowingWatch, growing_watch, IsProperGrowing, last_growing}
use Rattle.thread_laws.specs.WorkedGuest.{patched_with, stacks, caller, parent, child}

-- the trampoline: MOV byte [0x20040], 1; and the jump to 0x401002
abbrev pub cover_code : List ℕ
cover_code = 0xc6 ∷ 0x04 ∷ 0x25 ∷ 0x40 ∷ 0x00 ∷ 0x02 ∷ 0x00 ∷ 0x01 ∷ 0xe9 ∷ 0xee ∷ 0xff ∷ 0xff ∷ 0xfd ∷ []

-- what was patched
abbrev pub covering : Threading
covering = patched_with 0x401000 (Some (Marks Cover)) [] None cover_code

-- one thread beside an image
abbrev pub guest_on : Bytes → Guest
guest_on image = record { threads = caller ∷ []; mem = joined image stacks }

-- the call, the thread that begins, and its three instructions: the jump to the trampoline, the store and the displaced jump
abbrev pub items : List BirthItem
items = Does (Goes 0) ∷ Begins child ∷ Does (Goes 1) ∷ Does (Goes 1) ∷ Does (Goes 1) ∷ []

-- One thread runs what was patched from start guests, a second one begins, and all premises are met.
pub record BirthMeets (xs : List GrowingWatch) : Type 0 where
  pub start : AreStartGuests covering (guest_on covering.original) (guest_on covering.patched)
  pub run : IsProperGrowing covering items (growing_watch (guest_on covering.patched)) xs
  -- what began is what clone makes of the thread behind its call
  pub cloned : child ≡ child_of parent 0x602000 0x700000 []
  -- the original's run: the call, the thread that begins, and its jump
  pub made : (last_growing (growing_watch (guest_on covering.patched)) xs).made ≡ Does (Goes 0) ∷ Begins child ∷ Does (Goes 1) ∷ []
  -- the site's byte is 1
  pub covered : byte_of ((last_growing (growing_watch (guest_on covering.patched)) xs).watch.mem 0x20040) ≡ 1
  -- both threads stand outside, and count as themselves
  pub first : slice_get (last_growing (growing_watch (guest_on covering.patched)) xs).watch.threads 0 ≡ Some (record { now = parent; projected = parent })
  pub second : slice_get (last_growing (growing_watch (guest_on covering.patched)) xs).watch.threads 1 ≡ Some (record { now = child; projected = child })

-- All premises of the theorem are met.
pub record IsBirthReal : Type 0 where
  pub listed : AreEntries covering.original covering.listed
  pub sound : IsThreadSound covering
  pub entry : is_start covering.listed covering.entry ≡ true
  pub met : (xs : List GrowingWatch) × BirthMeets xs
