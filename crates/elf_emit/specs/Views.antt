-- The definitions' values that the code's stand for: writes, pieces of code, jobs, and files with further pages. Theorems cite it.
use Rattle.std.specs.Prelude.{◌≡◌, ℕ, ◌+◌, ◌*◌, ◌/◌, ◌^◌, ◌<◌, ◌≤◌, ◌==◌, Bool, ◌&&◌, List, [], ◌∷◌, ◌++◌, length, map, Option}
use Rattle.pun_base.specs.declared.plan.Write.{Write}
use Rattle.elf_read.specs.declared.segment.Segment.{Segment}
use Rattle.elf_emit.specs.declared.changes.Changes.{Changes}
use Rattle.elf_emit.specs.declared.runs.Page.{Page}
use Rattle.elf_emit.specs.declared.runs.Run.{Run}
use Rattle.elf_emit.specs.declared.built.Built.{Built}
use Rattle.elf_emit.specs.declared.table.Sources.{Sources}
use Rattle.elf_emit.specs.Job.{BytesAt, Part, Frame, Job}
use Rattle.elf_emit.specs.Layout.{group_pages}
use Rattle.elf_emit.specs.Frames.{others, olds}

-- A write, as bytes from its address on.
abbrev pub patch_of : Write → BytesAt
patch_of w = record { addr = w.addr; now = w.now }

-- So of each write.
abbrev pub patches_of : List Write → List BytesAt
patches_of ws = map patch_of ws

-- A piece of code, as bytes from its place on.
abbrev pub piece_of : Built → BytesAt
piece_of b = record { addr = b.place; now = b.code.bytes }

-- So of each piece.
abbrev pub pieces_of : List Built → List BytesAt
pieces_of bs = map piece_of bs

-- A page and its group page come directly after another's.
abbrev pub follows : Page → Page → Bool
follows p q = (p.addr + 4096 == q.addr) && (p.group + 1 == q.group)

-- A run of n pages from the first one of a list on, and others.
abbrev pub headed : List Page → ℕ → List Run → List Run
headed [] n rs = rs
headed (p ∷ ps) n rs = record { addr = p.addr; first = p.group; count = n } ∷ rs

-- A segment's bytes in the file lie in a file of this length.
abbrev pub InFile : ℕ → Segment → Type 0
InFile len s = s.offset + s.filesz ≤ len

-- A part's place in the file and its size are numbers of 64 bits, where the pages of all parts begin at a place.
abbrev pub PartFits : ℕ → Part → Type 0
PartFits at p = (at + 4096 * p.first < 2 ^ 64) × (4096 * p.count < 2 ^ 64)

-- What is to be written over a file.
abbrev pub job_of : List ℕ → List Write → List Built → List Page → ℕ → ℕ → ℕ → Job
job_of file writes built pages groups lo hi = record {
  orig = file;
  writes = patches_of writes;
  private_lo = lo;
  private_hi = hi;
  pieces = pieces_of built;
  pages = pages;
  groups = groups;
}

-- The same, of a file and its changes.
abbrev pub job_in : List ℕ → Changes → Job
job_in file c = job_of file c.writes.now c.built.now c.pages.items c.groups c.private.lo c.private.hi

-- A job's file with further pages behind the group pages, of which the table loads these parts, and with this start.
abbrev pub tailed : Job → List ℕ → List Part → Option ℕ → Frame
tailed j bytes parts start = record {
  orig = j.orig;
  writes = j.writes;
  private_lo = j.private_lo;
  private_hi = j.private_hi;
  body = group_pages j.pieces j.pages 0 j.groups ++ bytes;
  files = j.groups + length bytes / 4096;
  parts = parts;
  entry = start;
}

-- The same, of a file and its changes.
abbrev pub frame_in : List ℕ → Changes → Frame
frame_in file c = tailed (job_in file c) c.tail.bytes.now c.tail.parts.now c.tail.start

-- The sources of a file's table.
pub record HasSources (s : Sources) (f : Frame) : Type 0 where
  pub others : s.others.items ≡ others f
  pub loads : s.loads.now ≡ olds f
  pub parts : s.parts.now ≡ f.parts
