-- The view of a turn. Theorems cite it.
use Rattle.elf_read.specs.Entries.{segments}
use Rattle.elf_read.specs.Image.{image_of}
use Rattle.byte_locks.specs.Locking.{lock_at}
use Rattle.start_list.specs.declared.turn.Turn.{Turn}
use Rattle.start_list.specs.TurnViews.{TurnView}
use Rattle.start_list.specs.Forms.{can_where}

-- The view on which a plan is judged, of a turn as the code has it.
abbrev pub view_of : Turn → TurnView
view_of t = record {
  image = image_of t.elf.now.bytes;
  segments = segments t.elf.now.bytes;
  entries = t.starts.now;
  lock = lock_at t.locks.now;
  taken = t.space.now.taken;
  event_size = t.event_size;
  can = can_where t.threads;
}
