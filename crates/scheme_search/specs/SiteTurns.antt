-- What holds of a site at its turn. Theorems cite it.
use Rattle.std.specs.Prelude.{◌≡◌, ℕ, ◌+◌, ◌<◌, ◌≤◌, Some, None}
use Rattle.elf_read.specs.declared.segment.Segment.{Segment}
use Rattle.elf_read.specs.Entries.{segments}
use Rattle.elf_read.specs.Refusals.{refusal}
use Rattle.byte_locks.specs.declared.lock.Lock.TheVariants.{Free}
use Rattle.start_entries.specs.declared.entry.StartEntry.{StartEntry}
use Rattle.start_list.specs.declared.turn.Turn.{Turn}
use Rattle.start_list.specs.Forms.{work_length, MayBeSite}
use Rattle.start_entries.specs.Finding.{entry_at}
use Rattle.start_entries.specs.Laws.{IsBuilt}
use Rattle.start_list.specs.Turning.{view_of}
use Rattle.start_list.specs.TurnViews.{code_segment}

-- The site is one of the turn's, whose file is accepted; it stands in the segment s of code, and
-- the code that does its work elsewhere has n bytes.
pub record StandsIn (t : Turn) (site : StartEntry) (s : Segment) (n : ℕ) : Type 0 where
  pub built : IsBuilt t.elf.now.bytes t.starts.now
  pub listed : entry_at t.starts.now site.addr ≡ Some site
  pub may : MayBeSite site
  pub some : 1 ≤ site.len
  pub low : site.addr + site.len ≤ 0x7FFF0000
  pub free : (k : ℕ) → k < site.len → (view_of t).lock (site.addr + k) ≡ Free
  pub event : t.event_size ≤ 80
  pub accepted : refusal 0x10000 t.elf.now.bytes ≡ None
  pub segment : code_segment (segments t.elf.now.bytes) site.addr ≡ Some s
  pub work : work_length site ≡ Some n
  pub least : 1 ≤ n
  pub most : n ≤ 51
