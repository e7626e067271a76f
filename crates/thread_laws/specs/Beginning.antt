-- Guests whose threads begin on the way, their runs, and what is asked of such a run of the patched guest. Theorems cite it.
use Rattle.std.specs.Prelude.{◌≡◌, ℕ, true, List, [], ◌∷◌, ◌++◌, map}
use Rattle.cpu_state.specs.declared.world.Entry.{Entry}
use Rattle.cpu_state.specs.Processor.{IsProcessorCore, GiveWords}
use Rattle.insn_form.specs.Operands.{with_reg, rax, rsp}
use Rattle.start_entries.specs.declared.entry.StartEntry.{StartEntry}
use Rattle.image_runs.specs.Listed.{is_start}
use Rattle.thread_runs.specs.Guest.{Thread, Guest}
use Rattle.thread_runs.specs.Threading.{Threading}
use Rattle.thread_runs.specs.Watching.{Watch, watch_of}
use Rattle.thread_runs.specs.Premises.{StandAtStarts}
use Rattle.thread_runs.specs.GuestDeliveries.{GuestItem, LeadsBy}
use Rattle.thread_runs.specs.WatchedDeliveries.{IsProperItem}

-- an item of a run: a step of a thread or a delivery to one, or a thread that begins
pub data BirthItem : Type 0 where
  Does : GuestItem → BirthItem
  Begins : Thread → BirthItem

-- a thread that can begin: at a listed start, with a processor's registers and a world that gives numbers of 64 bits to registers
pub record CanBegin (listed : List StartEntry) (t : Thread) : Type 0 where
  pub start : is_start listed t.rip ≡ true
  pub core : IsProcessorCore t.core
  pub words : GiveWords t.world

-- What Linux's clone makes of a thread that shares its memory, the parent as it stands after its call: the child has the
-- parent's registers and flags, but 0 in rax, a stack pointer and a base of fs of its own, and stands at the same address, the one
-- after the SYSCALL. (clone(2), with CLONE_VM, CLONE_THREAD and CLONE_SETTLS. What the kernel writes for the child is in the answer
-- to the call, or a delivery to the child.)
abbrev pub child_of : Thread → ℕ → ℕ → List Entry → Thread
child_of parent stack base world = record {
  core = record (with_reg (with_reg parent.core rax 0) rsp stack) { fs = base };
  rip = parent.rip;
  world = world;
}

-- the guest with one thread more, behind the others
abbrev pub with_thread : Thread → Guest → Guest
with_thread t g = record { threads = g.threads ++ t ∷ []; mem = g.mem }

-- an item leads from one guest to another; a thread that begins leaves memory and the other threads as they are
abbrev pub LeadsOn : List StartEntry → BirthItem → Guest → Guest → Type 0
LeadsOn listed (Does i) g h = LeadsBy listed i g h
LeadsOn listed (Begins t) g h = CanBegin listed t × (h ≡ with_thread t g)

-- the guests after g, one for each item
abbrev pub IsGrowing : List StartEntry → List BirthItem → Guest → List Guest → Type 0
IsGrowing listed [] g [] = Unit {0}
IsGrowing listed [] g (h ∷ hs) = ⊥
IsGrowing listed (i ∷ is) g [] = ⊥
IsGrowing listed (i ∷ is) g (h ∷ hs) = LeadsOn listed i g h × IsGrowing listed is h hs

-- a watched guest, and the items of the original's run so far, in order
pub record GrowingWatch : Type 0 where
  pub watch : Watch
  pub made : List BirthItem

-- at the start none was made
abbrev pub growing_watch : Guest → GrowingWatch
growing_watch g = record { watch = watch_of g; made = [] }

-- the watched guest with one thread more, which counts as itself
abbrev pub watch_with_thread : Thread → Watch → Watch
watch_with_thread t w = record {
  threads = w.threads ++ record { now = t; projected = t } ∷ [];
  mem = w.mem;
  stale = w.stale;
  log = w.log;
  claims = w.claims;
  fills = w.fills;
}

-- a step of a thread or a delivery to one that meets the premises
pub record IsDone (r : Threading) (i : GuestItem) (x y : GrowingWatch) : Type 0 where
  -- the item of the original's run that it is, where it is one
  pub own : List GuestItem
  pub item : IsProperItem r i (record { watch = x.watch; made = [] }) (record { watch = y.watch; made = own })
  pub made : y.made ≡ x.made ++ map Does own

-- a thread that can begin does
pub record IsBegun (r : Threading) (t : Thread) (x y : GrowingWatch) : Type 0 where
  pub can : CanBegin r.listed t
  pub after : y.watch ≡ watch_with_thread t x.watch
  pub made : y.made ≡ x.made ++ Begins t ∷ []

-- an item of a watched run that meets the premises
abbrev pub IsProperBirthItem : Threading → BirthItem → GrowingWatch → GrowingWatch → Type 0
IsProperBirthItem r (Does i) x y = IsDone r i x y
IsProperBirthItem r (Begins t) x y = IsBegun r t x y

-- a run of the watched guest, with deliveries and threads that begin, all of whose items meet the premises
abbrev pub IsProperGrowing : Threading → List BirthItem → GrowingWatch → List GrowingWatch → Type 0
IsProperGrowing r [] x [] = StandAtStarts r x.watch.threads
IsProperGrowing r [] x (y ∷ ys) = ⊥
IsProperGrowing r (i ∷ is) x [] = ⊥
IsProperGrowing r (i ∷ is) x (y ∷ ys) = StandAtStarts r x.watch.threads × IsProperBirthItem r i x y × IsProperGrowing r is y ys

-- where a watched run ends
abbrev pub last_growing : GrowingWatch → List GrowingWatch → GrowingWatch
last_growing x [] = x
last_growing x (y ∷ ys) = last_growing y ys
