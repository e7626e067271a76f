-- What holds of the site of a turn. Theorems cite it.
use Rattle.std.specs.Prelude.{◌≡◌, ℕ, ◌+◌, ◌<◌, ◌≤◌, true, is_some, Contains}
use Rattle.byte_locks.specs.declared.lock.Lock.TheVariants.{Free}
use Rattle.start_entries.specs.declared.entry.StartEntry.{StartEntry}
use Rattle.start_entries.specs.Laws.{IsBuilt}
use Rattle.start_list.specs.declared.turn.Turn.{Turn}
use Rattle.start_list.specs.Forms.{MayBeSite}
use Rattle.start_list.specs.Turning.{view_of}

-- A turn's starts are those of its file, and the site is one of them, may be patched, can be displaced, and is free.
pub record IsSite (t : Turn) (site : StartEntry) : Type 0 where
  pub built : IsBuilt t.elf.now.bytes t.starts.now
  pub listed : Contains t.starts.now site
  pub may : MayBeSite site
  pub movable : is_some ((view_of t).can site) ≡ true
  pub free : (k : ℕ) → k < site.len → (view_of t).lock (site.addr + k) ≡ Free
  pub event : t.event_size ≤ 80
