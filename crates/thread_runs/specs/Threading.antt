-- What was rewritten for a guest of several threads, and where a thread stands in it. Theorems cite it.
use Rattle.std.specs.Prelude.{◌≡◌, ◌⊎◌, ℕ, ◌+◌, ◌^◌, ◌==◌, ◌<◌, ◌≤◌, nat_le, nat_lt, Bool, true, false, not, ◌&&◌, ◌||◌, if◌then◌else◌, List, [], ◌∷◌, length, Option, Some, None, is_some, Contains}
use Rattle.std.specs.List.{list_any}
use Rattle.pun_base.specs.Memory.{Bytes}
use Rattle.pun_base.specs.declared.action.Base.{Base}
use Rattle.pun_base.specs.declared.action.Base.TheVariants.{Cover, Count}
use Rattle.pun_base.specs.declared.action.Comparison.{Comparison}
use Rattle.length_decode.specs.Spelling.{Fields, IsInstruction, spelling}
use Rattle.cpu_state.specs.declared.state.Core.{Core}
use Rattle.cpu_state.specs.Bytes.{Stands}
use Rattle.cpu_state.specs.Fixed.{IsFixed}
use Rattle.insn_form.specs.Instruction.{insn_of}
use Rattle.cond_action.specs.Conditions.{all_hold}
use Rattle.start_entries.specs.declared.entry.StartEntry.{StartEntry}
use Rattle.start_entries.specs.Leading.{JumpsTo}
use Rattle.image_runs.specs.Listed.{is_start, is_listed_byte}
use Rattle.thread_runs.specs.ThreadCode.{Kind, Marks, Keeps, marking_len, checking_len, position_at, slot_at, is_ring_length, is_saving, event_len, code_if, slot, saved_from, saved_len}
use Rattle.trampoline.specs.EventLists.{mark_at, mark_len}
use Rattle.thread_runs.specs.Event.{AreFew}
use Rattle.trampoline.specs.Atomic.{thread_len}
use Rattle.event_steps.specs.DoneSteps.{is_one_of}

-- a patched site: its number, its instruction, the first address of its trampoline, the event with which the
-- trampoline begins, where it has one, and the comparisons under which it marks, or none, where it always does
pub record ThreadSite : Type 0 where
  pub number : ℕ
  pub entry : StartEntry
  pub place : ℕ
  pub event : Option Kind
  pub when : List Comparison

-- the address after the instruction of a site
abbrev pub next_of : ThreadSite → ℕ
next_of s = s.entry.addr + s.entry.len

-- where the relocated code of a site begins: after the event, or at the place, where there is none
abbrev pub work_at : ThreadSite → ℕ
work_at s = s.place + event_len s.event s.when

-- what was patched: both images, the entry point, the listed starts, the patched sites, the private
-- range, and whether events keep a ring there
pub record Threading : Type 0 where
  -- what loading the original and the written file gives
  pub original : Bytes
  pub patched : Bytes
  pub entry : ℕ
  pub listed : List StartEntry
  pub sites : List ThreadSite
  -- the first address of the private range
  pub private : ℕ
  -- how many slots the ring has, where events keep one
  pub ring : Option ℕ

-- the patched image holds the address and the original's doesn't
abbrev pub is_new : Threading → ℕ → Bool
is_new r x = is_some (r.patched x) && not (is_some (r.original x))

-- a byte is one of a listed instruction, or new
abbrev pub is_hidden : Threading → ℕ → Bool
is_hidden r x = is_listed_byte r.listed x || is_new r x

-- the address of a patched site
abbrev pub is_site : Threading → ℕ → Bool
is_site r x = list_any (λ s. s.entry.addr == x) r.sites

-- a listed start at which nothing was patched
abbrev pub is_kept : Threading → ℕ → Bool
is_kept r x = is_start r.listed x && not (is_site r x)

-- an event keeps a ring
abbrev pub is_keeping : Option Kind → Bool
is_keeping None = false
is_keeping (Some (Marks b)) = false
is_keeping (Some (Keeps n)) = true

-- how many slots the ring of an event has, where it keeps one
abbrev pub ring_of : Kind → Option ℕ
ring_of (Marks b) = None
ring_of (Keeps n) = Some n

-- a part of an event's code: all of it; the first byte of the instruction that saves rax, or, where the event
-- keeps a ring, the code from there up to the first byte of the one that saves the flags; the code after the
-- first byte, up to the instruction that restores rax; the code after the instruction that marks, or that
-- claims a slot, with the first byte of the relocated code; and the code after the instruction that claims a
-- slot, up to the one that fills it
pub data Part : Type 0 where
  Whole : Part
  Save : Part
  Saved : Part
  Marked : Part
  Unfilled : Part

-- how many bytes of the event stand before a part
abbrev pub part_from : Part → Option Kind → List Comparison → ℕ
part_from Whole e cs = 0
part_from Save e cs = 0
part_from Saved e cs = 1
part_from Marked (Some (Marks Cover)) [] = 8
part_from Marked (Some (Marks Cover)) (c ∷ cs) = 12 + checking_len (c ∷ cs) + marking_len Cover
part_from Marked (Some (Marks Count)) cs = 12 + checking_len cs + marking_len Count
part_from Marked (Some (Keeps n)) cs = 34
part_from Marked None cs = 0
part_from Unfilled e cs = 34

-- how many stand before its end; a part that the event doesn't have is empty
abbrev pub part_to : Part → Option Kind → List Comparison → ℕ
part_to Whole e cs = event_len e cs
part_to Save (Some (Marks b)) cs = if is_saving (Some (Marks b)) cs then 1 else 0
part_to Save (Some (Keeps n)) cs = 13
part_to Save None cs = 0
part_to Saved e cs = if is_saving e cs then event_len e cs else 0
part_to Marked (Some k) cs = event_len (Some k) cs + 1
part_to Marked None cs = 0
part_to Unfilled (Some (Keeps n)) cs = 48
part_to Unfilled (Some (Marks b)) cs = 0
part_to Unfilled None cs = 0

-- the address is one of a part of the site's event
abbrev pub is_part : Part → ℕ → ThreadSite → Bool
is_part p x s = nat_le (s.place + part_from p s.event s.when) x && nat_lt x (s.place + part_to p s.event s.when)

-- an address of a site's event
abbrev pub in_event : Threading → ℕ → Bool
in_event r x = list_any (is_part Whole x) r.sites

-- the address of the first instruction of a site's event, where it saves rax, or one up to the instruction that saves the flags
abbrev pub saves : Threading → ℕ → Bool
saves r x = list_any (is_part Save x) r.sites

-- an address of a site's event after the instruction that saves rax, up to the one that restores it
abbrev pub has_saved : Threading → ℕ → Bool
has_saved r x = list_any (is_part Saved x) r.sites

-- the condition of the site's event holds of registers
abbrev pub is_met_by : ThreadSite → Core → Bool
is_met_by s c = all_hold s.when c.regs

-- an address after the site's LOCK INC or store, up to the first instruction of the relocated code, which
-- makes the effect step, of a thread that came there with registers of which the condition holds: it marked
abbrev pub is_counted : ThreadSite → ℕ → Core → Bool
is_counted s x c = is_met_by s c && is_part Marked x s

-- the address of a patched site whose event saves rax
abbrev pub saves_at : Threading → ℕ → Bool
saves_at r x = list_any (λ s. s.entry.addr == x && is_saving s.event s.when) r.sites

-- the site where the test holds, else the other option
abbrev pub site_if : Bool → ThreadSite → Option ThreadSite → Option ThreadSite
site_if true s o = Some s
site_if false s o = o

-- the site whose relocated code begins at the address, where there is one
abbrev pub relocated_at : List ThreadSite → ℕ → Option ThreadSite
relocated_at [] x = None
relocated_at (s ∷ ss) x = site_if (work_at s == x) s (relocated_at ss x)

-- x is one of the eight bytes in which an event saves rax
abbrev pub is_saved : Core → ℕ → Bool
is_saved c x = is_one_of (slot c) 8 x

-- x is one of the bytes that an event saves: those eight, and where events keep a ring the eight before them, too
abbrev pub is_saved_by : Threading → Core → ℕ → Bool
is_saved_by r c x = is_one_of (saved_from r.ring c) (saved_len r.ring) x

-- the address is that of a ring's LOCK XADD
abbrev pub claims_at : ℕ → ThreadSite → Bool
claims_at x s = is_keeping s.event && s.place + 25 == x

-- the address is that of the instruction that fills a slot
abbrev pub fills_at : ℕ → ThreadSite → Bool
fills_at x s = is_keeping s.event && s.place + 37 == x

-- the site whose event claims a slot by the instruction at the address, where there is one
abbrev pub claiming_at : List ThreadSite → ℕ → Option ThreadSite
claiming_at [] x = None
claiming_at (s ∷ ss) x = site_if (claims_at x s) s (claiming_at ss x)

-- the instruction at the address fills a slot
abbrev pub is_filling : Threading → ℕ → Bool
is_filling r x = list_any (fills_at x) r.sites

-- a thread at the address claimed a slot and hasn't filled it
abbrev pub is_unfilled : Threading → ℕ → Bool
is_unfilled r x = list_any (is_part Unfilled x) r.sites

-- Two jumps of the patched image lead from an address to a place: the second stands at no listed start
-- and at no new address.
pub record ByTwoJumps (r : Threading) (a place : ℕ) : Type 0 where
  pub second : ℕ
  pub there : JumpsTo r.patched a second
  pub unlisted : is_start r.listed second ≡ false
  pub old : is_new r second ≡ false
  pub on : JumpsTo r.patched second place

-- A patched site: its instruction stands in the original, shares no byte with another listed one,
-- can be displaced, and has a jump to the trampoline in its place in the patched image, or the first
-- of two, where the trampoline's code stands, at new addresses, and can't be written.
pub record IsThreadSite (r : Threading) (s : ThreadSite) : Type 0 where
  pub listed : Contains r.listed s.entry
  pub alone : s.entry.shared ≡ false
  pub fields : Fields
  pub spelled : IsInstruction fields
  pub stands : Stands r.original s.entry.addr (spelling fields)
  pub len : length (spelling fields) ≡ s.entry.len
  pub form : s.entry.form ≡ Some (insn_of fields)
  pub size : ℕ
  pub displaced : thread_len (insn_of fields) s.entry.len s.entry.addr ≡ Some size
  pub jump : JumpsTo r.patched s.entry.addr s.place ⊎ ByTwoJumps r s.entry.addr s.place
  pub few : AreFew s.when
  pub code : IsFixed r.patched s.place (code_if s.event s.when r.private s.number fields (next_of s) s.place)
  pub new : (x : ℕ) → s.place ≤ x → x < s.place + length (code_if s.event s.when r.private s.number fields (next_of s) s.place) → is_new r x ≡ true
  pub low : s.place + length (code_if s.event s.when r.private s.number fields (next_of s) s.place) ≤ 0x7FFF1000

-- x is an address of the site's code
abbrev pub is_code_of : (r : Threading) (s : ThreadSite) → IsThreadSite r s → ℕ → Type 0
is_code_of r s h x = (s.place ≤ x) × (x < s.place + length (code_if s.event s.when r.private s.number h.fields (next_of s) s.place))

-- A ring of n slots is sound for threads: its position and its slots are zeros, RW, at new addresses below 2^31, it has a
-- length that threads can share, and each site's number fits a slot. Its events are under no condition.
pub record IsRingSound (r : Threading) (n : ℕ) : Type 0 where
  pub size : is_ring_length n ≡ true
  pub zeros : (x : ℕ) → position_at r.private ≤ x → x < slot_at r.private n → (r.patched x ≡ Some (record { byte = 0; perms = 6 })) × (r.original x ≡ None)
  pub low : slot_at r.private n ≤ 0x7FFF0000
  pub numbers : (s : ThreadSite) → Contains r.sites s → is_some s.event ≡ true → s.number + 1 < 2 ^ 31
  pub always : (s : ThreadSite) → Contains r.sites s → is_some s.event ≡ true → s.when ≡ []

-- The patched image is sound for threads.
pub record IsThreadSound (r : Threading) : Type 0 where
  -- what the original holds stays, but for the instructions of patched sites
  pub stays : (x : ℕ) → is_some (r.original x) ≡ true → list_any (λ s. nat_le s.entry.addr x && nat_lt x (s.entry.addr + s.entry.len)) r.sites ≡ false → r.patched x ≡ r.original x
  pub sites : (s : ThreadSite) → Contains r.sites s → IsThreadSite r s
  -- each start and each number of an event has one site, events are of one kind, which says whether they keep a ring, and codes don't meet
  pub once : (s t : ThreadSite) → Contains r.sites s → Contains r.sites t → s.entry.addr ≡ t.entry.addr → s ≡ t
  pub numbers : (s t : ThreadSite) → Contains r.sites s → Contains r.sites t → is_some s.event ≡ true → is_some t.event ≡ true → s.number ≡ t.number → s ≡ t
  pub kinds : (s t : ThreadSite) → Contains r.sites s → Contains r.sites t → is_some s.event ≡ true → is_some t.event ≡ true → s.event ≡ t.event
  pub rings : (s : ThreadSite) → Contains r.sites s → (k : Kind) → s.event ≡ Some k → r.ring ≡ ring_of k
  pub apart : (s t : ThreadSite) (h : Contains r.sites s) (k : Contains r.sites t) (x : ℕ) → is_code_of r s (sites s h) x → is_code_of r t (sites t k) x → s ≡ t
  -- what each event marks, a byte or a counter, is zeros, RW, at new addresses below 2^31
  pub marks : (s : ThreadSite) → Contains r.sites s → (b : Base) → s.event ≡ Some (Marks b) → (x : ℕ) → mark_at b r.private s.number ≤ x → x < mark_at b r.private s.number + mark_len b
      → (r.patched x ≡ Some (record { byte = 0; perms = 6 })) × (r.original x ≡ None)
  pub low : (s : ThreadSite) → Contains r.sites s → (b : Base) → s.event ≡ Some (Marks b) → mark_at b r.private s.number + mark_len b ≤ 0x7FFF0000
  -- what all events share, where they keep a ring
  pub ring : (n : ℕ) → r.ring ≡ Some n → IsRingSound r n
