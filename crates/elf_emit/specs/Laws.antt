-- What loading the patched file gives, and where it starts. Theorems cite it.
use Rattle.std.specs.Prelude.{◌≡◌, ℕ, ◌+◌, ◌%◌, ◌^◌, ◌<◌, ◌≤◌, ◌⊎◌, Bool, true, false, ◌&&◌, ◌||◌, nat_le, nat_lt, List, length, map, Some, None, slice_index}
use Rattle.std.specs.List.{AllByRecursion, list_any}
use Rattle.pun_base.specs.Ranges.{is_within}
use Rattle.pun_base.specs.Memory.{Cell, Bytes, joined}
use Rattle.elf_read.specs.Entries.{entry_of}
use Rattle.elf_read.specs.Image.{Chunk, image, image_of}
use Rattle.elf_read.specs.Refusals.{refusal}
use Rattle.elf_emit.specs.declared.runs.Page.{Page}
use Rattle.elf_emit.specs.Job.{BytesAt, Job}
use Rattle.elf_emit.specs.Frames.{olds}
use Rattle.elf_emit.specs.Layout.{in_patch, written_at, count, frame_of, group_page, layout}
pub use Rattle.elf_emit.specs.FrameLaws.{PairsByRecursion, IsBacked, with_writes}
use Rattle.elf_emit.specs.FrameLaws as frames

-- A byte of a piece stands at an address.
abbrev pub is_occupied : List BytesAt → ℕ → Bool
is_occupied pieces a = list_any (λ w. in_patch w a) pieces

-- An address lies on a page.
abbrev pub is_on : Page → ℕ → Bool
is_on p a = is_within p.addr 4096 a

-- Pieces don't meet.
abbrev pub PiecesApart : BytesAt → BytesAt → Type 0
PiecesApart v w = (a : ℕ) → in_patch v a ≡ true → in_patch w a ≡ false

-- Pages ascend, and two that show one group page have no piece at the same place in them.
pub record PagesApart (pieces : List BytesAt) (p q : Page) : Type 0 where
  pub ascend : p.addr + 4096 ≤ q.addr
  pub free : p.group ≡ q.group → (k : ℕ) → k < 4096 → is_occupied pieces (p.addr + k) ≡ true → is_occupied pieces (q.addr + k) ≡ false

-- A page for code: whole, among a program's addresses, not in the private range, and shown by one of the file.
pub record IsPage (lo hi groups : ℕ) (p : Page) : Type 0 where
  pub whole : p.addr % 4096 ≡ 0
  pub low : 0x20000 ≤ p.addr
  pub high : p.addr + 4096 ≤ 0x7fff0000
  pub apart : (p.addr + 4096 ≤ lo) ⊎ (hi ≤ p.addr)
  pub shown : p.group < groups

-- The addresses that a job takes: those of the private range and of the pages for code.
abbrev pub is_claimed : Job → ℕ → Bool
is_claimed j a = (nat_le j.private_lo a && nat_lt a j.private_hi) || list_any (λ p. is_on p a) j.pages

-- The conditions on a job. That its table isn't too long is none of them.
pub record IsJob (j : Job) : Type 0 where
  pub bytes : (k : ℕ) → slice_index j.orig k < 256
  pub size : length j.orig < 2 ^ 63
  pub accepted : refusal 0x20000 j.orig ≡ None
  pub backed : AllByRecursion (IsBacked (olds (frame_of j))) j.writes
  -- the private range is whole pages among a program's addresses
  pub private_whole : (j.private_lo % 4096 ≡ 0) × (j.private_hi % 4096 ≡ 0)
  pub private_some : j.private_lo < j.private_hi
  pub private_low : 0x20000 ≤ j.private_lo
  pub private_high : j.private_hi ≤ 0x7fff0000
  pub pieces_apart : PairsByRecursion PiecesApart j.pieces
  pub pages : AllByRecursion (IsPage j.private_lo j.private_hi j.groups) j.pages
  pub pages_apart : PairsByRecursion (PagesApart j.pieces) j.pages
  pub few_groups : j.groups < 2 ^ 32
  -- each byte of a piece lies on a page
  pub on_pages : (a : ℕ) → is_occupied j.pieces a ≡ true → list_any (λ p. is_on p a) j.pages ≡ true
  -- no original byte at an address that it takes
  pub new : (a : ℕ) → is_claimed j a ≡ true → image_of j.orig a ≡ None

-- The table, as the written file of a job loads it.
abbrev pub table_image : Job → Bytes
table_image j = frames.table_image (frame_of j)

-- The private range, as the written file of a job loads it.
abbrev pub private_image : Job → Bytes
private_image j = frames.private_image (frame_of j)

-- A page for code shows its group page, which can be read and executed.
abbrev pub page_chunk : Job → Page → Chunk
page_chunk j p = record { lo = p.addr; size = 4096; perms = 5; bytes = group_page j.pieces j.pages p.group }

-- What the pages for code show together.
abbrev pub pages_image : Job → Bytes
pages_image j = image (map (page_chunk j) j.pages)

-- The original's image with the written bytes, joined with the private range and the pages for code.
abbrev pub bare_image : Job → Bytes
bare_image j = joined (private_image j) (joined (pages_image j) (with_writes j.writes (image_of j.orig)))

-- The same with the table too.
abbrev pub loaded : Job → Bytes
loaded j = joined (table_image j) (bare_image j)

-- A piece's bytes are at their places.
abbrev pub IsPlacedIn : Bytes → BytesAt → Type 0
IsPlacedIn m w = (k : ℕ) → k < length w.now → m (w.addr + k) ≡ Some (record { byte = slice_index w.now k; perms = 5 })

-- A byte of a page for code is 0 where no page that shows the same group page has a piece at that place.
abbrev pub IsZeroElsewhere : Job → Bytes → Page → Type 0
IsZeroElsewhere j m p = (k : ℕ) → k < 4096
    → AllByRecursion (λ q. q.group ≡ p.group → is_occupied j.pieces (q.addr + k) ≡ false) j.pages
    → m (p.addr + k) ≡ Some (record { byte = 0; perms = 5 })

-- The original's bytes keep their permissions, and their values but for what is written.
abbrev pub HasOriginals : Job → Bytes → Type 0
HasOriginals j m = (a : ℕ) (c : Cell) → image_of j.orig a ≡ Some c → m a ≡ Some (record { byte = written_at j.writes a c.byte; perms = c.perms })

-- The private range is zeros that can be read and written.
abbrev pub HasPrivate : Job → Bytes → Type 0
HasPrivate j m = (a : ℕ) → j.private_lo ≤ a → a < j.private_hi → m a ≡ Some (record { byte = 0; perms = 6 })

-- What the patched file loads, and where it starts.
pub record Loads (j : Job) : Type 0 where
  -- the parts together, and nothing else
  pub image : (a : ℕ) → image_of (layout j) a ≡ loaded j a
  -- the original's bytes with what is written
  pub originals : HasOriginals j (image_of (layout j))
  -- each piece's bytes at their places
  pub code : AllByRecursion (IsPlacedIn (image_of (layout j))) j.pieces
  -- zeros elsewhere on the pages for code
  pub zeros : AllByRecursion (IsZeroElsewhere j (image_of (layout j))) j.pages
  -- the private range
  pub private : HasPrivate j (image_of (layout j))
  -- the program starts where the original does
  pub entry : entry_of (layout j) ≡ entry_of j.orig
  -- it is accepted, with the table's address as the lowest of a program
  pub accepted : refusal 0x10000 (layout j) ≡ None

-- So for each job whose table isn't too long.
abbrev pub LayoutLoads : Type 0
LayoutLoads = (j : Job) → IsJob j → count j ≤ 1024 → Loads j

-- A map shows what a job writes, beside a table below 0x1E000 that can be read; the table may be missing.
pub record Shows (j : Job) (m : Bytes) : Type 0 where
  pub table : Bytes
  pub image : (a : ℕ) → m a ≡ joined table (bare_image j) a
  pub header : (a : ℕ) (c : Cell) → table a ≡ Some c → (0x10000 ≤ a) × (a < 0x1E000) × (c.perms ≡ 4)

-- The written file's image shows what its job writes, where its table isn't too long.
abbrev pub FileShows : Type 0
FileShows = (j : Job) → IsJob j → count j ≤ 1024 → Shows j (image_of (layout j))

-- So does the image without a table.
abbrev pub BareShows : Type 0
BareShows = (j : Job) → IsJob j → Shows j (bare_image j)
