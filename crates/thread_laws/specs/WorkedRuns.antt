-- Worked runs of two threads, at the site of a condition, of a ring, and through the trampoline of a victim: the premises of the theorem on
-- guest threads are met. Worked examples alone cite it.
use Rattle.std.specs.Prelude.{◌≡◌, ℕ, List, [], ◌∷◌, Some, None, slice_get}
use Rattle.pun_base.specs.Memory.{Bytes, joined}
use Rattle.pun_base.specs.declared.action.Base.TheVariants.{Count}
use Rattle.pun_base.specs.declared.action.CompareOp.TheVariants.{Eq}
use Rattle.pun_base.specs.declared.action.Comparison.{Comparison}
use Rattle.cpu_state.specs.Bytes.{number_at}
use Rattle.start_entries.specs.Standing.{AreEntries}
use Rattle.thread_runs.specs.ThreadCode.{Marks, Keeps}
use Rattle.thread_runs.specs.Guest.{Thread, Guest}
use Rattle.thread_runs.specs.Threading.{Threading, IsThreadSound}
use Rattle.thread_runs.specs.Watching.{Watch, EffectStep, watch_of}
use Rattle.thread_runs.specs.Premises.{IsProperRun}
use Rattle.thread_runs.specs.Theorem.{AreStartGuests, last_watch}
use Rattle.thread_laws.specs.WorkedGuest.{patched_with, stacks, flags, core_of}

-- a thread in front of the jump, with 7 in rax and these numbers in rcx and rsp
abbrev pub thread_with : ℕ → ℕ → Thread
thread_with rcx rsp = record { core = core_of 7 rcx rsp flags; rip = 0x401002; world = [] }

-- two threads beside an image
abbrev pub guests_on : Bytes → Guest
guests_on image = record { threads = thread_with 5 0x601000 ∷ thread_with 6 0x601800 ∷ []; mem = joined image stacks }

-- where a watched run ends
abbrev pub last_of : Threading → List Watch → Watch
last_of r ws = last_watch (watch_of (guests_on r.patched)) ws

-- the effect step of a thread
abbrev pub step_of : ℕ → ℕ → ℕ → EffectStep
step_of k rcx rsp = record { thread = k; at = 0x401002; core = core_of 7 rcx rsp flags }

-- rcx == 5
abbrev pub rcx_is_five : Comparison
rcx_is_five = record { reg = 1; op = Eq; value = 5 }

-- the trampoline of a site that counts where rcx is 5
abbrev pub count_code : List ℕ
count_code =
    0x48 ∷ 0x89 ∷ 0x84 ∷ 0x24 ∷ 0x78 ∷ 0xff ∷ 0xff ∷ 0xff ∷ 0x9f ∷ 0x0f ∷ 0x90 ∷ 0xc0 ∷ 0x48 ∷ 0x81 ∷ 0xf9 ∷ 0x05
    ∷ 0x00 ∷ 0x00 ∷ 0x00 ∷ 0x75 ∷ 0x09 ∷ 0xf0 ∷ 0x48 ∷ 0xff ∷ 0x04 ∷ 0x25 ∷ 0x40 ∷ 0x00 ∷ 0x02 ∷ 0x00 ∷ 0x04 ∷ 0x7f
    ∷ 0x9e ∷ 0x48 ∷ 0x8b ∷ 0x84 ∷ 0x24 ∷ 0x78 ∷ 0xff ∷ 0xff ∷ 0xff ∷ 0xe9 ∷ 0xcd ∷ 0xff ∷ 0xff ∷ 0xfd ∷ []

-- what was patched
abbrev pub counting : Threading
counting = patched_with 0x401002 (Some (Marks Count)) (rcx_is_five ∷ []) None count_code

-- thread 0 goes through the trampoline, and then thread 1
abbrev pub condition_schedule : List ℕ
condition_schedule = 0 ∷ 0 ∷ 0 ∷ 0 ∷ 0 ∷ 0 ∷ 0 ∷ 0 ∷ 0 ∷ 0 ∷ 0 ∷ 1 ∷ 1 ∷ 1 ∷ 1 ∷ 1 ∷ 1 ∷ 1 ∷ 1 ∷ 1 ∷ 1 ∷ []

-- Both threads make their effect step, and that of thread 0 is counted, for it has 5 in rcx.
pub record ConditionMeets (ws : List Watch) : Type 0 where
  pub start : AreStartGuests counting (guests_on counting.original) (guests_on counting.patched)
  pub run : IsProperRun counting condition_schedule (watch_of (guests_on counting.patched)) ws
  pub effects : (last_of counting ws).log ≡ step_of 0 5 0x601000 ∷ step_of 1 6 0x601800 ∷ []
  pub counter : number_at (last_of counting ws).mem 0x20040 8 ≡ 1

-- The premises are met under a condition.
pub record ConditionIsReal : Type 0 where
  pub listed : AreEntries counting.original counting.listed
  pub sound : IsThreadSound counting
  pub met : (ws : List Watch) × ConditionMeets ws

-- the trampoline of a site that keeps a ring of 256 slots
abbrev pub ring_code : List ℕ
ring_code =
    0x48 ∷ 0x89 ∷ 0x84 ∷ 0x24 ∷ 0x78 ∷ 0xff ∷ 0xff ∷ 0xff ∷ 0x9f ∷ 0x0f ∷ 0x90 ∷ 0xc0 ∷ 0x48 ∷ 0x89 ∷ 0x84 ∷ 0x24
    ∷ 0x70 ∷ 0xff ∷ 0xff ∷ 0xff ∷ 0xb8 ∷ 0x01 ∷ 0x00 ∷ 0x00 ∷ 0x00 ∷ 0xf0 ∷ 0x0f ∷ 0xc1 ∷ 0x04 ∷ 0x25 ∷ 0x40 ∷ 0x00
    ∷ 0x02 ∷ 0x00 ∷ 0x0f ∷ 0xb6 ∷ 0xc0 ∷ 0xc7 ∷ 0x04 ∷ 0x85 ∷ 0x44 ∷ 0x00 ∷ 0x02 ∷ 0x00 ∷ 0x01 ∷ 0x00 ∷ 0x00 ∷ 0x00
    ∷ 0x48 ∷ 0x8b ∷ 0x84 ∷ 0x24 ∷ 0x70 ∷ 0xff ∷ 0xff ∷ 0xff ∷ 0x04 ∷ 0x7f ∷ 0x9e ∷ 0x48 ∷ 0x8b ∷ 0x84 ∷ 0x24 ∷ 0x78
    ∷ 0xff ∷ 0xff ∷ 0xff ∷ 0xe9 ∷ 0xb3 ∷ 0xff ∷ 0xff ∷ 0xfd ∷ []

-- what was patched
abbrev pub keeping : Threading
keeping = patched_with 0x401002 (Some (Keeps 256)) [] (Some 256) ring_code

-- thread 0 claims a slot and stops, and thread 1 goes through the trampoline
abbrev pub ring_schedule : List ℕ
ring_schedule = 0 ∷ 0 ∷ 0 ∷ 0 ∷ 0 ∷ 0 ∷ 0 ∷ 1 ∷ 1 ∷ 1 ∷ 1 ∷ 1 ∷ 1 ∷ 1 ∷ 1 ∷ 1 ∷ 1 ∷ 1 ∷ 1 ∷ 1 ∷ 1 ∷ []

-- Thread 0 claimed slot 0 and hasn't filled it, and thread 1 claimed slot 1 and filled it.
pub record RingMeets (ws : List Watch) : Type 0 where
  pub start : AreStartGuests keeping (guests_on keeping.original) (guests_on keeping.patched)
  pub run : IsProperRun keeping ring_schedule (watch_of (guests_on keeping.patched)) ws
  pub effects : (last_of keeping ws).log ≡ step_of 1 6 0x601800 ∷ []
  pub claims : (last_of keeping ws).claims ≡ record { thread = 0; number = 0 } ∷ record { thread = 1; number = 0 } ∷ []
  pub fills : (last_of keeping ws).fills ≡ record { claim = 1; claimed = 2 } ∷ []
  pub position : number_at (last_of keeping ws).mem 0x20040 4 ≡ 2
  pub unfilled : number_at (last_of keeping ws).mem 0x20044 4 ≡ 0
  pub filled : number_at (last_of keeping ws).mem 0x20048 4 ≡ 1

-- The premises are met with a ring.
pub record RingIsReal : Type 0 where
  pub listed : AreEntries keeping.original keeping.listed
  pub sound : IsThreadSound keeping
  pub met : (ws : List Watch) × RingMeets ws

-- the trampoline of a victim: the jump to 0x401002
abbrev pub victim_code : List ℕ
victim_code = 0xe9 ∷ 0xf6 ∷ 0xff ∷ 0xff ∷ 0xfd ∷ []

-- what was patched
abbrev pub displacing : Threading
displacing = patched_with 0x401002 None [] None victim_code

-- both threads come to the trampoline, and thread 0 goes through it
abbrev pub victim_schedule : List ℕ
victim_schedule = 0 ∷ 1 ∷ 0 ∷ []

-- Thread 0 makes its effect step, and thread 1 stands in front of its own.
pub record VictimMeets (ws : List Watch) : Type 0 where
  pub start : AreStartGuests displacing (guests_on displacing.original) (guests_on displacing.patched)
  pub run : IsProperRun displacing victim_schedule (watch_of (guests_on displacing.patched)) ws
  pub effects : (last_of displacing ws).log ≡ step_of 0 5 0x601000 ∷ []
  pub inside : slice_get (last_of displacing ws).threads 1 ≡ Some (record { now = record { core = core_of 7 6 0x601800 flags; rip = 0x2401007; world = [] }; projected = thread_with 6 0x601800 })

-- The premises are met with a victim.
pub record VictimIsReal : Type 0 where
  pub listed : AreEntries displacing.original displacing.listed
  pub sound : IsThreadSound displacing
  pub met : (ws : List Watch) × VictimMeets ws
