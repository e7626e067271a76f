-- What `emit` and `emit_tailed` ask, and what they do to the desk. Theorems cite it.
use Rattle.std.specs.Prelude.{◌≡◌, ℕ, ◌+◌, ◌%◌, ◌^◌, ◌<◌, ◌≤◌, ◌⊎◌, true, List, map, length, slice_index, Option, Some, None, Result, Ok, Err}
use Rattle.std.specs.List.{AllByRecursion}
use Rattle.pun_base.specs.Shown.{DeskState}
use Rattle.pun_base.specs.Desk.{Fills}
use Rattle.pun_base.specs.declared.plan.Write.{Write}
use Rattle.pun_base.specs.declared.desk.PutError.TheVariants as put
use Rattle.elf_read.specs.Entries.{segments, loads}
use Rattle.elf_read.specs.Image.{image_of}
use Rattle.page_group.specs.Pages.{AreDisjoint}
use Rattle.page_group.specs.Grouping.{GroupsState, group_count}
use Rattle.elf_emit.specs.declared.runs.Page.{Page}
use Rattle.elf_emit.specs.declared.built.Built.{Built}
use Rattle.elf_emit.specs.declared.emit.EmitError.{EmitError}
use Rattle.elf_emit.specs.declared.emit.EmitError.TheVariants as emit
use Rattle.elf_emit.specs.Job.{Part, Frame, Job}
use Rattle.elf_emit.specs.Frames.{count, pages_at, layout}
use Rattle.elf_emit.specs.Layout.{frame_of}
use Rattle.elf_emit.specs.FrameLaws.{IsFrame}
use Rattle.elf_emit.specs.Laws.{IsBacked, is_claimed}
use Rattle.elf_emit.specs.Views.{patches_of, job_of}

-- The addresses of a piece of code: its first, and the one behind its last.
abbrev pub range_of : Built → ℕ × ℕ
range_of b = (b.place, b.place + length b.code.bytes)

-- A page with its group shows the group page of that number.
abbrev pub page_of_home : ℕ × ℕ → Page
page_of_home home = record { addr = home.0; group = home.1 }

-- Each page with its group, as a page that shows it.
abbrev pub pages_of : List (ℕ × ℕ) → List Page
pages_of homes = map page_of_home homes

-- What is to be written: the private range is [lo, hi).
abbrev pub emit_job : List ℕ → List Write → List Built → GroupsState → ℕ → ℕ → Job
emit_job file writes built groups lo hi = job_of file writes built (pages_of groups.homes) (group_count groups.homes) lo hi

-- The elements of a list are bytes.
abbrev pub AreBytes : List ℕ → Type 0
AreBytes file = (k : ℕ) → slice_index file k < 256

-- A range of whole pages among a program's addresses.
pub record IsPrivate (lo hi : ℕ) : Type 0 where
  pub whole : (lo % 4096 ≡ 0) × (hi % 4096 ≡ 0)
  pub some : lo < hi
  pub low : 0x20000 ≤ lo
  pub high : hi ≤ 0x7fff0000

-- A page among a program's addresses, apart from the private range.
pub record IsFree (lo hi page : ℕ) : Type 0 where
  pub low : 0x20000 ≤ page
  pub high : page + 4096 ≤ 0x7fff0000
  pub apart : (page + 4096 ≤ lo) ⊎ (hi ≤ page)

-- The groups are those of the code's addresses, which don't meet.
pub record AreGroupsOf (built : List Built) (groups : GroupsState) : Type 0 where
  pub pieces : groups.pieces ≡ map range_of built
  pub disjoint : AreDisjoint groups.pieces

-- The writes' bytes are bytes of the file that a PT_LOAD loads.
abbrev pub AreBacked : List ℕ → List Write → Type 0
AreBacked file writes = AllByRecursion (IsBacked (loads (segments file))) (patches_of writes)

-- The private range and the pages for code hold no byte of the original.
abbrev pub HoldNothing : Job → Type 0
HoldNothing j = (a : ℕ) → is_claimed j a ≡ true → image_of j.orig a ≡ None

-- A written file whose table loads fewer than 2^31 parts.
pub record IsSmallFrame (f : Frame) : Type 0 where
  pub frame : IsFrame f
  pub few : length f.parts < 2 ^ 31

-- How many entries a written file's table has, or that they are too many.
abbrev pub Counts : Frame → Result ℕ EmitError → Type 0
Counts f (Ok n) = (n ≡ count f) × (count f ≤ 1024)
Counts f (Err (emit.TooManySegments n)) = (n ≡ count f) × (1024 < count f)
Counts f (Err emit.WriteFault) = ⊥
Counts f (Err emit.Memory) = ⊥

-- `TooManySegments` comes exactly where the table needs more than 1,024 entries, tells how many, and changes nothing;
-- want of memory alone may come in its place, and changes nothing then. On `Ok` the name holds the written file, and
-- after a refusal of the desk or want of memory a prefix of it, or what it held.
abbrev pub EmitsFrame : Frame → List ℕ → DeskState → DeskState → Result (Unit {0}) EmitError → Type 0
EmitsFrame f name s t (Ok u) = (count f ≤ 1024) × Fills name (layout f) s t (Ok tt)
EmitsFrame f name s t (Err (emit.TooManySegments n)) = (n ≡ count f) × (1024 < count f) × (t ≡ s)
EmitsFrame f name s t (Err emit.WriteFault) = (count f ≤ 1024) × Fills name (layout f) s t (Err put.Failed)
EmitsFrame f name s t (Err emit.Memory) = (t ≡ s) ⊎ ((count f ≤ 1024) × Fills name (layout f) s t (Err put.Memory))

-- So of a job's file.
abbrev pub Emits : Job → List ℕ → DeskState → DeskState → Result (Unit {0}) EmitError → Type 0
Emits j name s t result = EmitsFrame (frame_of j) name s t result

-- The written file's bytes, or why there are none.
abbrev pub Makes : Frame → Result (List ℕ) EmitError → Type 0
Makes f (Ok bytes) = (count f ≤ 1024) × (bytes ≡ layout f)
Makes f (Err (emit.TooManySegments n)) = (n ≡ count f) × (1024 < count f)
Makes f (Err emit.WriteFault) = ⊥
Makes f (Err emit.Memory) = Unit {0}

-- Where the pages behind its private range begin in it, or why there is no such file.
abbrev pub Places : Frame → Result ℕ EmitError → Type 0
Places f (Ok at) = (count f ≤ 1024) × (at ≡ pages_at f)
Places f (Err (emit.TooManySegments n)) = (n ≡ count f) × (1024 < count f)
Places f (Err emit.WriteFault) = ⊥
Places f (Err emit.Memory) = Unit {0}

-- A written file of an original, with these parts and this private range.
pub record IsFrameOf (file : List ℕ) (listed : List Part) (low high : ℕ) (f : Frame) : Type 0 where
  pub frame : IsFrame f
  pub orig : f.orig ≡ file
  pub parts : f.parts ≡ listed
  pub lo : f.private_lo ≡ low
  pub hi : f.private_hi ≡ high

-- The number of a refusal, from 1 on.
abbrev pub number_of : EmitError → Option ℕ
number_of (emit.TooManySegments n) = Some 1
number_of emit.WriteFault = Some 2
number_of emit.Memory = None
