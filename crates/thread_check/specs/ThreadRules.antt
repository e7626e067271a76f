-- When an image that was patched for threads is sound: six rules, each told by the addresses at which it fails. Theorems cite it.
-- Rules 1, 2 and 5 are those of any patched image.
use Rattle.std.specs.Prelude.{◌≡◌, ◌⊎◌, ℕ, ◌≤◌, Bool, true, false, List, Option, Some, None, is_some, Contains}
use Rattle.insn_form.specs.Step.{next_after}
use Rattle.start_entries.specs.declared.entry.StartEntry.{StartEntry}
use Rattle.start_entries.specs.Finding.{entry_at}
use Rattle.start_entries.specs.Leading.{JumpsTo}
use Rattle.patch_report.specs.Values.{BodyValue}
use Rattle.sound_images.specs.Reports.{Line, lines, times_started}
use Rattle.sound_images.specs.Rules.{Case, Coding, ByteFails, WriteFails, CodeFailsWith, RangeFails, SiteFails}
use Rattle.site_turns.specs.Modes.{can_in_threads, IsShared}
use Rattle.guest_threads.specs.FromTurns.{code_of_line}

-- The length of the code that does the work of an entry's instruction where threads share memory; none without an entry.
abbrev pub moved_from : Option StartEntry → Option ℕ
moved_from None = None
moved_from (Some e) = can_in_threads e

-- The same of the instruction at a listed start; none where no start is listed there, or where the
-- instruction can't be displaced.
abbrev pub moved_at : List StartEntry → ℕ → Option ℕ
moved_at es a = moved_from (entry_at es a)

-- An entry is marked: its instruction shares a byte with another listed one.
abbrev pub is_marked : Option StartEntry → Bool
is_marked None = false
is_marked (Some e) = e.shared

-- The instruction at a listed start shares a byte with another listed one.
abbrev pub shares_at : List StartEntry → ℕ → Bool
shares_at es a = is_marked (entry_at es a)

-- Two jumps of the patched image lead from an address to a place: the second stands at no listed
-- start, and where the original loads a byte.
pub record LeadsByTwo (c : Case) (x place : ℕ) : Type 0 where
  pub second : ℕ
  pub there : JumpsTo c.patched x second
  pub unlisted : is_some (entry_at c.listed second) ≡ false
  pub old : is_some (c.original second) ≡ true
  pub on : JumpsTo c.patched second place

-- From an address a jump of the patched image leads to a place, or two such jumps do.
abbrev pub ThreadLeads : Case → ℕ → ℕ → Type 0
ThreadLeads c x place = JumpsTo c.patched x place ⊎ LeadsByTwo c x place

-- Rule 3 fails at x for a trampoline: x isn't listed or can't be displaced where threads share
-- memory, or shares a byte with another listed instruction, or is the start of two trampolines, or
-- neither one jump nor two lead from x to its place.
abbrev pub ThreadLineFails : Case → ℕ → Line → Type 0
ThreadLineFails c x l =
    (moved_at c.listed x ≡ None) ⊎ (shares_at c.listed x ≡ true) ⊎ (2 ≤ times_started c.report x)
    ⊎ (ThreadLeads c x l.tramp.place → ⊥)

-- Rule 3 fails at x: x is the start of a trampoline for which it fails there.
abbrev pub ThreadEntryFails : Case → ℕ → Type 0
ThreadEntryFails c x = (l : Line) × Contains (lines c.report) l × (l.tramp.start ≡ x) × ThreadLineFails c x l

-- The coding of a report for threads: the event of the report's action and the line's number, where the line has
-- one, and the instruction's work.
abbrev pub thread_coding : BodyValue → Coding
thread_coding v l f = code_of_line v.action v.private.0 l f (next_after l.tramp.start f)

-- Rule 4 fails at x, by that coding.
abbrev pub ThreadCodeFails : Case → ℕ → Type 0
ThreadCodeFails c x = CodeFailsWith (thread_coding c.report) c x

-- Rule 6 fails at x: as for any patched image, or x is the private range's first address, and the
-- action is a ring of a length that threads can't share.
abbrev pub ThreadSiteFails : Case → ℕ → Type 0
ThreadSiteFails c x = SiteFails c x ⊎ ((x ≡ c.report.private.0) × (IsShared c.report.action → ⊥))

-- A rule fails at an address.
abbrev pub ThreadFails : Case → ℕ → ℕ → Type 0
ThreadFails c rule x =
    ((rule ≡ 1) × ByteFails c x) ⊎ ((rule ≡ 2) × WriteFails c x) ⊎ ((rule ≡ 3) × ThreadEntryFails c x)
    ⊎ ((rule ≡ 4) × ThreadCodeFails c x) ⊎ ((rule ≡ 5) × RangeFails c x) ⊎ ((rule ≡ 6) × ThreadSiteFails c x)

-- The patched image is sound for threads: no rule fails anywhere.
abbrev pub IsThreadCaseSound : Case → Type 0
IsThreadCaseSound c = (rule x : ℕ) → ThreadFails c rule x → ⊥
