-- What a plan of the code has: all that the pages of a written file are made of. Contracts of private functions alone cite it.
use Rattle.std.specs.Prelude.{◌≡◌, ◌≤◌}
use Rattle.std.specs.List.{AllByRecursion}
use Rattle.elf_read.specs.Entries.{table}
use Rattle.elf_emit.specs.declared.patched_file.Plan.{Plan}
use Rattle.elf_emit.specs.Job.{Frame}
use Rattle.elf_emit.specs.Frames.{padded, olds, count, table_at, private_at, pages_at, entries}
use Rattle.elf_emit.specs.FrameLaws.{IsFrame}
use Rattle.elf_emit.specs.Views.{patches_of, pieces_of, frame_in}
use Rattle.elf_emit.specs.FramePages.{news}
use Rattle.elf_emit.specs.Index.{meets_page, shows, Finds}
use Rattle.elf_emit.specs.Windows.{IsCodePage}

-- What is to be written.
abbrev pub planned : Plan → Frame
planned p = frame_in p.file.now p.changes

-- A plan has what its file's pages are made of.
pub record IsPlan (p : Plan) : Type 0 where
  pub frame : IsFrame (planned p)
  pub whole : AllByRecursion IsCodePage p.changes.pages.items
  pub few : count (planned p) ≤ 1024
  pub loads : p.loads.now ≡ olds (planned p)
  pub news : p.news.items ≡ news (planned p)
  pub table_at : p.places.table_at ≡ table_at (planned p)
  pub private_at : p.places.private_at ≡ private_at (planned p)
  pub pages_at : p.places.pages_at ≡ pages_at (planned p)
  pub count : p.count ≡ count (planned p)
  pub table : p.table.items ≡ padded (table (entries (planned p)))
  -- writes and code by page, pages by group
  pub written : Finds meets_page (patches_of p.changes.writes.now) p.written.items
  pub code : Finds meets_page (pieces_of p.changes.built.now) p.code.items
  pub shown : Finds shows p.changes.pages.items p.shown.items
