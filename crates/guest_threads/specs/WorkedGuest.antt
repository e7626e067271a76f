-- Two threads that run the written file of the first worked row: the premises of the theorem are met. Worked examples alone cite it.
use Rattle.std.specs.Prelude.{◌≡◌, ℕ, true, false, List, [], ◌∷◌, ◌++◌, map, replicate, take, Some, slice_get}
use Rattle.pun_base.specs.Memory.{Bytes, joined}
use Rattle.cpu_alu.specs.declared.flag_word.Flags.{Flags}
use Rattle.cpu_state.specs.declared.state.Core.{Core}
use Rattle.cpu_state.specs.Bytes.{number_at}
use Rattle.relocate_insn.specs.Worked.{spread}
use Rattle.start_entries.specs.Standing.{AreEntries}
use Rattle.trampoline.specs.EventLists.{counter_at}
use Rattle.thread_runs.specs.Guest.{Thread, Guest}
use Rattle.thread_runs.specs.Threading.{Threading, IsThreadSound}
use Rattle.thread_runs.specs.Watching.{Watched, Watch, watch_of}
use Rattle.thread_runs.specs.Premises.{IsProperRun}
use Rattle.thread_runs.specs.Theorem.{AreStartGuests, CanGo, last_watch}
use Rattle.image_runs.specs.declared.delivery.Delivery.{Delivery}
use Rattle.thread_runs.specs.GuestDeliveries.{Goes, Takes}
use Rattle.thread_runs.specs.WatchedDeliveries.{WatchWith, watch_with, IsProperRunWith, last_with}
use Rattle.guest_threads.specs.WorkedFile.{row_threading}

-- one region for both stacks
abbrev pub stack : Bytes
stack = spread 0x600000 0x602000 6 []

-- the flags at the start: CF, ZF and OF are set
abbrev pub start_flags : Flags
start_flags = record { cf = true; pf = false; af = false; zf = true; sf = false; of = true; rest = 0 }

-- the flags after LOCK INC
abbrev pub counted_flags : Flags
counted_flags = record { cf = true; pf = false; af = false; zf = false; sf = false; of = false; rest = 0 }

-- the flags after ADD al, 7F
abbrev pub added_flags : Flags
added_flags = record { cf = false; pf = false; af = true; zf = false; sf = true; of = true; rest = 0 }

-- registers with these values of rax and rsp and zeros else, and these flags
abbrev pub core_with : ℕ → ℕ → Flags → Core
core_with rax rsp f = record { regs = rax ∷ 0 ∷ 0 ∷ 0 ∷ rsp ∷ replicate 11 0; flags = f; fs = 0; gs = 0 }

-- a thread with a stack pointer, at the only start
abbrev pub thread_with : ℕ → Thread
thread_with rsp = record { core = core_with 7 rsp start_flags; rip = 0x401000; world = [] }

-- two threads beside an image
abbrev pub guest_on : Bytes → Guest
guest_on image = record { threads = thread_with 0x601000 ∷ thread_with 0x602000 ∷ []; mem = joined image stack }

-- a thread that stands outside, and counts as itself
abbrev pub waiting : ℕ → Watched
waiting rsp = record { now = thread_with rsp; projected = thread_with rsp }

-- five steps of one thread, and nine of the other
abbrev pub schedule : List ℕ
schedule = 0 ∷ 0 ∷ 0 ∷ 0 ∷ 0 ∷ 1 ∷ 1 ∷ 1 ∷ 1 ∷ 1 ∷ 1 ∷ 1 ∷ 1 ∷ 1 ∷ []

-- the watched guest at the start
abbrev pub started : Threading → Watch
started r = watch_of (guest_on r.patched)

-- Two threads run what was patched from start guests, fourteen steps that meet all premises, in
-- which thread 0 stops after its LOCK INC, and thread 1 goes through the trampoline.
pub record ThreadsMeet (r : Threading) (ws : List Watch) : Type 0 where
  pub start : AreStartGuests r (guest_on r.original) (guest_on r.patched)
  pub run : IsProperRun r schedule (started r) ws
  -- after the first five steps the counter is 1, and after all of them 2, though one effect step
  -- was made
  pub one : number_at (last_watch (started r) (take 5 ws)).mem (counter_at r.private 0) 8 ≡ 1
  pub two : number_at (last_watch (started r) ws).mem (counter_at r.private 0) 8 ≡ 2
  pub effects : (last_watch (started r) ws).log ≡ record { thread = 1; at = 0x401000; core = core_with 7 0x602000 start_flags } ∷ []
  -- thread 1 stands at 0x401000 again, as it was at the start
  pub back : slice_get (last_watch (started r) ws).threads 1 ≡ Some (waiting 0x602000)
  -- the premises of getting out of the trampoline are met at the start
  pub goes : CanGo r (started r) (waiting 0x601000) (guest_on r.original)

-- A handler is entered: the interrupted address is pushed over the bytes in which an event of thread 1
-- has saved rax.
abbrev pub entered : Delivery
entered = record {
  core = core_with 9 0x601f78 start_flags;
  rip = 0x401000;
  writes = record { addr = 0x601f78; bytes = 0x00 ∷ 0x10 ∷ 0x40 ∷ 0x00 ∷ 0x00 ∷ 0x00 ∷ 0x00 ∷ 0x00 ∷ [] } ∷ [];
}

-- After the fourteen steps thread 1, which stands outside, takes this delivery, while thread 0 stands
-- in its event: the original's run is the effect step and the delivery.
pub record DeliveryMeets (r : Threading) (xs : List WatchWith) : Type 0 where
  pub run : IsProperRunWith r (map Goes schedule ++ Takes 1 entered ∷ []) (watch_with (guest_on r.patched)) xs
  pub made : (last_with (watch_with (guest_on r.patched)) xs).made ≡ Goes 1 ∷ Takes 1 entered ∷ []

-- All premises of the theorem are met by the row's original and its written file.
pub record IsThreadsReal : Type 0 where
  pub listed : AreEntries row_threading.original row_threading.listed
  pub sound : IsThreadSound row_threading
  pub met : (ws : List Watch) × ThreadsMeet row_threading ws
  pub delivered : (xs : List WatchWith) × DeliveryMeets row_threading xs
