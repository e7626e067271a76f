-- The patched file, part by part: a function of what is to be written. Theorems cite it.
use Rattle.std.specs.Prelude.{ℕ, zero, suc, ◌+◌, ◌==◌, ◌&&◌, if◌then◌else◌, List, [], ◌∷◌, ◌++◌, map, replicate, None}
use Rattle.elf_emit.specs.declared.runs.Page.{Page}
use Rattle.elf_emit.specs.declared.runs.Run.{Run}
use Rattle.elf_emit.specs.Job.{BytesAt, Part, Frame, Job}
pub use Rattle.elf_emit.specs.Frames.{slice, placed, pad, up, padded, in_patch, written_by, written_at, rewritten, content, is_other, shares, stays, moved_bytes, renewed, with_table, insert_load, in_order, placed_all, part_load}
unfoldable pub use Rattle.elf_emit.specs.Frames.{is_moved}
use Rattle.elf_emit.specs.Frames as frames

-- Runs with a page in front of them, which joins the first one where that follows it, in memory and in the file.
abbrev pub join_page : Page → List Run → List Run
join_page p [] = record { addr = p.addr; first = p.group; count = 1 } ∷ []
join_page p (r ∷ rs) =
    if (p.addr + 4096 == r.addr) && (p.group + 1 == r.first)
    then record { addr = p.addr; first = p.group; count = suc r.count } ∷ rs
    else record { addr = p.addr; first = p.group; count = 1 } ∷ r ∷ rs

-- The maximal runs of pages.
abbrev pub runs_of : List Page → List Run
runs_of [] = []
runs_of (p ∷ ps) = join_page p (runs_of ps)

-- Bytes over which those of the pieces are laid, on each page that shows the group page.
abbrev pub layered : List BytesAt → List Page → ℕ → List ℕ → List ℕ
layered pieces [] file bytes = bytes
layered pieces (p ∷ ps) file bytes = layered pieces ps file (if p.group == file then rewritten pieces p.addr bytes else bytes)

-- A group page: the bytes of the pieces on each page that shows it, and zeros elsewhere.
unfoldable pub group_page : List BytesAt → List Page → ℕ → List ℕ
group_page pieces pages file = layered pieces pages file (replicate 4096 0)

-- n group pages from one of them on.
abbrev pub group_pages : List BytesAt → List Page → ℕ → ℕ → List ℕ
group_pages pieces pages file zero = []
group_pages pieces pages file (suc n) = group_page pieces pages file ++ group_pages pieces pages (file + 1) n

-- A run of pages for code, which can be read and executed.
abbrev pub part_of : Run → Part
part_of r = record { addr = r.addr; first = r.first; count = r.count; perms = 5 }

-- A job's file: behind the private range stand the group pages, and the table loads each run.
abbrev pub frame_of : Job → Frame
frame_of j = record {
  orig = j.orig;
  writes = j.writes;
  private_lo = j.private_lo;
  private_hi = j.private_hi;
  body = group_pages j.pieces j.pages 0 j.groups;
  files = j.groups;
  parts = map part_of (runs_of j.pages);
  entry = None;
}

-- How many entries the new table has.
abbrev pub count : Job → ℕ
count j = frames.count (frame_of j)

-- The file: the original, the moved segments, the table, the private range of zeros, the group pages.
abbrev pub layout : Job → List ℕ
layout j = frames.layout (frame_of j)
