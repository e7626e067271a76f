-- Guests: threads that share one memory, their steps, and interleaved runs. Theorems cite it.
use Rattle.std.specs.Prelude.{◌≡◌, ℕ, List, [], ◌∷◌, Some, slice_get, slice_set}
use Rattle.pun_base.specs.Memory.{Bytes}
use Rattle.cpu_state.specs.declared.state.Core.{Core}
use Rattle.cpu_state.specs.declared.world.Entry.{Entry}
use Rattle.insn_form.specs.Machine.{Machine}
use Rattle.event_steps.specs.ThreadSteps.{ThreadStep}

-- a thread: registers, flags and bases, the instruction pointer, and what is left of a world of its
-- own
pub record Thread : Type 0 where
  pub core : Core
  pub rip : ℕ
  pub world : List Entry

-- a guest: its threads, and the memory that they share
pub record Guest : Type 0 where
  pub threads : List Thread
  pub mem : Bytes

-- a thread as a machine, with the shared memory
abbrev pub machine_of : Bytes → Thread → Machine
machine_of m t = record { core = t.core; rip = t.rip; mem = m; world = t.world }

-- a machine as a thread, without the memory
abbrev pub thread_of : Machine → Thread
thread_of s = record { core = s.core; rip = s.rip; world = s.world }

-- one step of thread k, which is one instruction of it
pub record Moves (k : ℕ) (g h : Guest) : Type 0 where
  pub thread : Thread
  pub there : slice_get g.threads k ≡ Some thread
  pub to : Machine
  pub steps : ThreadStep (machine_of g.mem thread) to
  pub after : h ≡ record { threads = slice_set g.threads k (thread_of to); mem = to.mem }

-- the guests after g, one for each number of a schedule
abbrev pub IsInterleaved : List ℕ → Guest → List Guest → Type 0
IsInterleaved [] g [] = Unit {0}
IsInterleaved [] g (h ∷ hs) = ⊥
IsInterleaved (k ∷ ks) g [] = ⊥
IsInterleaved (k ∷ ks) g (h ∷ hs) = Moves k g h × IsInterleaved ks h hs

-- where a run ends
abbrev pub last_guest : Guest → List Guest → Guest
last_guest g [] = g
last_guest g (h ∷ hs) = last_guest h hs
