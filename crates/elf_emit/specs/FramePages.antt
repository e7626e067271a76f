-- A written file page by page, whatever stands behind the private range: what each of its 4,096 bytes are. Theorems cite it.
use Rattle.std.specs.Prelude.{◌≡◌, ℕ, ◌+◌, ◌-◌, ◌*◌, ◌%◌, ◌<◌, ◌≤◌, nat_lt, if◌then◌else◌, List, [], ◌∷◌, ◌++◌, length, replicate, Option, Some, None}
use Rattle.byteorder.specs.Endian.{little_bytes}
use Rattle.elf_read.specs.declared.segment.Segment.{Segment}
use Rattle.elf_read.specs.Entries.{table}
use Rattle.elf_emit.specs.Job.{BytesAt, Frame}
use Rattle.elf_emit.specs.Frames.{slice, padded, up, rewritten, content, olds, is_moved, renewed, count, moved_at, table_at, private_at, pages_at, entries, layout}
use Rattle.elf_emit.specs.FrameLaws.{IsFrame}

-- Bytes of a page, with zeros behind them.
abbrev pub filled : List ℕ → List ℕ
filled bytes = bytes ++ replicate (4096 - length bytes) 0

-- The bytes that segments have in the file, with what is written, each at the place that its new entry tells.
abbrev pub contents : List BytesAt → List ℕ → List Segment → List Segment → List BytesAt
contents ws file [] news = []
contents ws file (s ∷ ss) [] = []
contents ws file (s ∷ ss) (new ∷ news) = record { addr = new.offset; now = content ws file s } ∷ contents ws file ss news

-- The header's field that tells where the table stands (ELF-64, `e_phoff` at 32).
abbrev pub place_field : ℕ → BytesAt
place_field at = record { addr = 32; now = little_bytes 8 at }

-- The header's field that tells how many entries the table has (ELF-64, `e_phnum` at 56).
abbrev pub count_field : ℕ → BytesAt
count_field n = record { addr = 56; now = little_bytes 2 n }

-- Where the program starts (`e_entry` at 24), if that is new.
abbrev pub entry_fields : Option ℕ → List BytesAt
entry_fields None = []
entry_fields (Some entry) = record { addr = 24; now = little_bytes 8 entry } ∷ []

-- The new entries of the nonempty PT_LOADs.
abbrev pub news : Frame → List Segment
news f = renewed (olds f) (moved_at f) (olds f)

-- How many bytes the segments that are moved take; `all` are the nonempty PT_LOADs.
abbrev pub moved_len : List Segment → List Segment → ℕ
moved_len all [] = 0
moved_len all (s ∷ ss) = if is_moved all s then up (s.vaddr % 4096 + s.filesz) + moved_len all ss else moved_len all ss

-- What stands in front of the table, over the original's bytes and zeros: the header's fields and the segments' bytes.
abbrev pub in_front : Frame → List BytesAt
in_front f = entry_fields f.entry ++ (place_field (table_at f) ∷ count_field (count f) ∷ contents f.writes f.orig (olds f) (news f))

-- A page in front of the table.
abbrev pub front_page : Frame → ℕ → List ℕ
front_page f at = rewritten (in_front f) at (filled (slice 4096 at f.orig))

-- The page that begins at a place of the file.
abbrev pub page_at : Frame → ℕ → List ℕ
page_at f at =
    if nat_lt at (table_at f) then front_page f at
    else (if nat_lt at (private_at f) then slice 4096 (at - table_at f) (padded (table (entries f)))
    else (if nat_lt at (pages_at f) then replicate 4096 0
    else slice 4096 (at - pages_at f) f.body))

-- How many bytes the file has.
abbrev pub file_len : Frame → ℕ
file_len f = pages_at f + 4096 * f.files

-- The file is whole pages, and each of them is that.
pub record HasPages (f : Frame) : Type 0 where
  pub size : length (layout f) ≡ file_len f
  pub whole : file_len f % 4096 ≡ 0
  pub page : (k : ℕ) → 4096 * k < file_len f → slice 4096 (4096 * k) (layout f) ≡ page_at f (4096 * k)

-- So for each written file that meets the conditions and whose table isn't too long.
abbrev pub FrameHasPages : Type 0
FrameHasPages = (f : Frame) → IsFrame f → count f ≤ 1024 → HasPages f
