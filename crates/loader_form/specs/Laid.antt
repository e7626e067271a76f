-- The written file of the loader form: its table loads the stub's pages and the save page, which follow the group pages, in place of the runs. Theorems cite it.
use Rattle.std.specs.Prelude.{◌≡◌, ◌⊎◌, ℕ, ◌+◌, ◌-◌, ◌*◌, ◌%◌, ◌^◌, ◌<◌, ◌≤◌, List, [], ◌∷◌, ◌++◌, length, map, replicate, Some, None}
use Rattle.std.specs.List.{AllByRecursion}
use Rattle.pun_base.specs.Memory.{joined}
use Rattle.elf_read.specs.Entries.{entry_of}
use Rattle.elf_read.specs.Image.{image, image_of}
use Rattle.elf_read.specs.Refusals.{refusal}
use Rattle.elf_emit.specs.declared.runs.Run.{Run as FileRun}
use Rattle.elf_emit.specs.declared.runs.Part.{Part}
use Rattle.elf_emit.specs.Job.{Frame, Job}
use Rattle.elf_emit.specs.Layout.{runs_of, group_pages}
use Rattle.elf_emit.specs.Frames as frames
use Rattle.elf_emit.specs.Laws.{IsJob, with_writes}
use Rattle.elf_emit.specs.FrameLaws.{IsFrame, table_image, private_image, part_chunk}
use Rattle.loader_form.specs.Stub.{Run, Stub, path, records_of, stub_code}

-- where the stub stands, how many pages it has, and the save page
pub record Laid : Type 0 where
  pub at : ℕ
  pub pages : ℕ
  pub save : ℕ

-- the stub's pages as a part of the file, to be read and executed
abbrev pub stub_part : Job → Laid → Part
stub_part j l = record { addr = l.at; first = j.groups; count = l.pages; perms = 5 }

-- the save page as a part of the file, to be read and written
abbrev pub save_part : Job → Laid → Part
save_part j l = record { addr = l.save; first = j.groups + l.pages; count = 1; perms = 6 }

-- the file without the pages that follow the private range, which moves no part of it
abbrev pub bare_frame : Job → Laid → Frame
bare_frame j l = record {
  orig = j.orig;
  writes = j.writes;
  private_lo = j.private_lo;
  private_hi = j.private_hi;
  body = [];
  files = j.groups + (l.pages + 1);
  parts = stub_part j l ∷ save_part j l ∷ [];
  entry = Some l.at;
}

-- a run of pages, at its place in the file
abbrev pub run_of : ℕ → FileRun → Run
run_of at r = record { place = r.addr; size = 4096 * r.count; offset = at + 4096 * r.first }

-- a run's length is a number of 32 bits, and its place in the file one of 64
abbrev pub RecordFits : ℕ → FileRun → Type 0
RecordFits at r = (4096 * r.count < 2 ^ 32) × (at + 4096 * r.first < 2 ^ 64)

-- the stub of a job: its place, the runs of the pages for code, and the original's entry
abbrev pub stub_of : Job → Laid → Stub
stub_of j l = record { at = l.at; save = l.save; runs = map (run_of (frames.pages_at (bare_frame j l))) (runs_of j.pages); entry = entry_of j.orig }

-- the stub's pages: 4,096 bytes of code, the path, the records, and zeros
abbrev pub stub_bytes : Stub → List ℕ
stub_bytes b = stub_code b ++ (replicate (4096 - 276) 0 ++ (path ++ records_of b.runs))

-- the stub's pages, with zeros up to whole pages
abbrev pub stub_pages : Job → Laid → List ℕ
stub_pages j l = stub_bytes (stub_of j l) ++ replicate (4096 * l.pages - length (stub_bytes (stub_of j l))) 0

-- the whole file: group pages, the stub's pages, and the save page of zeros
abbrev pub loader_frame : Job → Laid → Frame
loader_frame j l = record (bare_frame j l) { body = group_pages j.pieces j.pages 0 j.groups ++ (stub_pages j l ++ replicate 4096 0) }

-- the written file
abbrev pub file_of : Job → Laid → List ℕ
file_of j l = frames.layout (loader_frame j l)

-- n pages from an address on, for the stub or the save page, meet nothing
pub record IsApart (j : Job) (at n : ℕ) : Type 0 where
  pub whole : at % 4096 ≡ 0
  pub low : 0x20000 ≤ at
  pub high : at + 4096 * n ≤ 0x7fff0000
  pub private : (at + 4096 * n ≤ j.private_lo) ⊎ (j.private_hi ≤ at)
  pub pages : AllByRecursion (λ p. (p.addr + 4096 ≤ at) ⊎ (at + 4096 * n ≤ p.addr)) j.pages
  pub new : (a : ℕ) → at ≤ a → a < at + 4096 * n → image_of j.orig a ≡ None

-- the stub's pages and the save page meet nothing, not even one another, and the stub fits into its
-- pages
pub record IsLaid (j : Job) (l : Laid) : Type 0 where
  pub stub : IsApart j l.at l.pages
  pub save : IsApart j l.save 1
  pub apart : (l.at + 4096 * l.pages ≤ l.save) ⊎ (l.save + 4096 ≤ l.at)
  pub room : length (stub_bytes (stub_of j l)) ≤ 4096 * l.pages
  pub some : 0 < l.pages
  pub few : l.pages ≤ 257

-- the loader form's file keeps the conditions of a written file
abbrev pub LaidIsFrame : Type 0
LaidIsFrame = (j : Job) (l : Laid) → IsJob j → IsLaid j l → IsFrame (loader_frame j l)

-- what the loader form's file loads: the table, the private range, the stub and the save page, and
-- the original with what is written; it starts at the stub
pub record LaidLoads (j : Job) (l : Laid) : Type 0 where
  pub image : (a : ℕ) → image_of (file_of j l) a
      ≡ joined (table_image (loader_frame j l)) (joined (private_image (loader_frame j l))
      (joined (image (map (part_chunk (loader_frame j l).body) (loader_frame j l).parts)) (with_writes j.writes (image_of j.orig)))) a
  pub entry : entry_of (file_of j l) ≡ l.at
  pub accepted : refusal 0x10000 (file_of j l) ≡ None

-- the loader form's file loads its parts where its table isn't too long
abbrev pub LoaderLoads : Type 0
LoaderLoads = (j : Job) (l : Laid) → IsJob j → IsLaid j l → frames.count (loader_frame j l) ≤ 1024 → LaidLoads j l
