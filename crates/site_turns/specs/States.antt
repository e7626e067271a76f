-- The state between turns, and what an applied plan does to it. Theorems cite it.
use Rattle.std.specs.Prelude.{◌≡◌, ℕ, ◌+◌, ◌&&◌, nat_le, nat_lt, Bool, true, false, List, [], ◌∷◌, ◌++◌, map, Option, Some, None, unwrap_or}
use Rattle.std.specs.List.{list_any}
use Rattle.pun_base.specs.Memory.{Bytes}
use Rattle.pun_base.specs.declared.action.Action.{Action}
use Rattle.trampoline.specs.Events.{event_length}
use Rattle.elf_read.specs.declared.segment.Segment.{Segment}
use Rattle.byte_locks.specs.declared.lock.Lock.{Lock}
use Rattle.byte_locks.specs.declared.lock.Lock.TheVariants.{Free, Changed}
use Rattle.byte_locks.specs.Locking.{punned}
use Rattle.address_space.specs.declared.extent.Extent.{Extent}
use Rattle.patch_report.specs.Values.{RowValue, BodyValue}
use Rattle.start_entries.specs.declared.entry.StartEntry.{StartEntry}
use Rattle.start_list.specs.TurnViews.{TurnView, memory_now}
use Rattle.start_list.specs.PlanJumps.{Jump, written, is_punned}
use Rattle.start_list.specs.Forms.{Candidate, Trampoline, jumps_of, trampolines_of}
use Rattle.start_list.specs.Admissible.{size_of}

-- What no turn changes: the original's image and segments, the listed entries, the action, how
-- long the code of an event is, how long the code that does an instruction's work is, if it may be
-- displaced, the private range, and what is taken before the first turn, the private range with it.
pub record Scene : Type 0 where
  pub image : Bytes
  pub segments : List Segment
  pub entries : List StartEntry
  pub action : Action
  pub event_size : ℕ
  pub can : StartEntry → Option ℕ
  pub private : Extent
  pub shut : List Extent

-- The events of a scene are as long as its action's.
abbrev pub HasEvents : Scene → Type 0
HasEvents g = g.event_size ≡ event_length g.action

-- The lock of each byte, what is taken of the address space, and the rows so far, in turn order.
pub record State : Type 0 where
  pub lock : ℕ → Lock
  pub taken : List Extent
  pub rows : List RowValue

-- Before the first turn each byte is free, and there is no row.
abbrev pub first_state : Scene → State
first_state g = record { lock = λ a. Free; taken = g.shut; rows = [] }

-- A turn as a plan is judged on it.
abbrev pub view_at : Scene → State → TurnView
view_at g t = record {
  image = g.image;
  segments = g.segments;
  entries = g.entries;
  lock = t.lock;
  taken = t.taken;
  event_size = g.event_size;
  can = g.can;
}

-- Memory at a turn: the original's image with the bytes changed so far.
abbrev pub memory_at : Scene → State → Bytes
memory_at g t = memory_now (view_at g t)

-- Written bytes become Changed, and punned bytes Punned where they were Free.
abbrev pub relocked : Option ℕ → Bool → Lock → Lock
relocked (Some b) p k = Changed b
relocked None true k = punned k
relocked None false k = k

-- The lock of a byte after jumps are placed.
abbrev pub lock_after : (ℕ → Lock) → List Jump → ℕ → Lock
lock_after lock js a = relocked (written js a) (is_punned js a) (lock a)

-- The addresses of a trampoline.
abbrev pub extent_for : TurnView → Trampoline → Extent
extent_for v t = record { lo = t.place; hi = t.place + unwrap_or (size_of v t) 0 }

-- An address is one of an extent's.
abbrev pub is_in : Extent → ℕ → Bool
is_in e x = nat_le e.lo x && nat_lt x e.hi

-- An address lies in one of the taken extents.
abbrev pub is_taken : List Extent → ℕ → Bool
is_taken taken x = list_any (λ e. is_in e x) taken

-- The state after a site's plan is applied, with its row.
abbrev pub applied : Scene → State → StartEntry → Candidate → RowValue → State
applied g t site c row = record {
  lock = lock_after t.lock (jumps_of site c);
  taken = map (extent_for (view_at g t)) (trampolines_of site c) ++ t.taken;
  rows = t.rows ++ row ∷ [];
}

-- The state after a site is left, with its row.
abbrev pub passed_over : State → RowValue → State
passed_over t row = record { lock = t.lock; taken = t.taken; rows = t.rows ++ row ∷ [] }

-- The report of what was done, where the code stands on these pages.
abbrev pub report_of : Scene → State → List (ℕ × ℕ) → BodyValue
report_of g t pages = record
    { action = g.action; private = (g.private.lo, g.private.hi); rows = t.rows; pages = pages }
