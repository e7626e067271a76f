-- Guests that run: where they start, what a runner shows of one, and how the run over a schedule ends. Theorems cite it.
use Rattle.std.specs.Prelude.{◌≡◌, ℕ, Bool, true, false, List, [], ◌∷◌, take, drop, map, Option, Some, None, Result, Ok, Err, slice_get}
use Rattle.std.specs.List.{list_all}
use Rattle.std.specs.Borrow.{Bor}
use Rattle.pun_base.specs.Memory.{Bytes, joined}
use Rattle.cpu_state.specs.declared.script.Script.{Script}
use Rattle.cpu_state.specs.declared.script_regions.Region.{Region}
use Rattle.cpu_state.specs.declared.state.State.{State}
use Rattle.cpu_state.specs.Parts.{core_of}
use Rattle.cpu_state.specs.Regions.{cell_at}
use Rattle.elf_read.specs.Image.{image_of}
use Rattle.cpu_step.specs.declared.stop.Stop.{Stop}
use Rattle.image_runs.specs.Starting.{regions_memory, start_machine}
use Rattle.thread_runs.specs.declared.runner.RunnerThread.{RunnerThread}
use Rattle.thread_runs.specs.declared.runner.ThreadRunner.{ThreadRunner}
use Rattle.thread_runs.specs.declared.runner.ScheduleError.{ScheduleError}
use Rattle.thread_runs.specs.declared.runner.ScheduleError.TheVariants.{NoThread, Stopped}
use Rattle.event_steps.specs.ThreadSteps.{ThreadStep}
use Rattle.thread_runs.specs.ThreadJudging.{IsStopped}
use Rattle.thread_runs.specs.Guest.{Thread, Guest, machine_of, thread_of, Moves, IsInterleaved, last_guest}

-- ---- the start

-- The regions of the guest: those of the first script.
abbrev pub shared_regions : List Script → List Region
shared_regions [] = []
shared_regions (s ∷ ss) = s.regions

-- The script has no region of memory.
abbrev pub has_no_region : Script → Bool
has_no_region s = is_empty s.regions
  where
    is_empty : List Region → Bool
    is_empty [] = true
    is_empty (r ∷ rs) = false

-- No script but the first has a region of memory.
abbrev pub only_first_has_regions : List Script → Bool
only_first_has_regions scripts = list_all has_no_region (drop 1 scripts)

-- A thread starts as a program of one thread does.
abbrev pub start_thread : List ℕ → Script → Thread
start_thread file s = thread_of (start_machine file s)

-- The guest at its start: a thread for each script, and as memory the file's image and the regions.
abbrev pub start_guest : List ℕ → List Script → Guest
start_guest file scripts = record {
  threads = map (start_thread file) scripts;
  mem = joined (image_of file) (regions_memory (shared_regions scripts));
}

-- ---- what a runner shows

-- a runner's thread: its registers, and what is left of its world
abbrev pub thread_in : RunnerThread → Thread
thread_in t = record { core = core_of t.state; rip = t.state.rip; world = drop t.used t.world.now }

-- the guest that a runner shows: its threads, and its memory
abbrev pub guest_in : ThreadRunner → Guest
guest_in r = record { threads = map thread_in r.threads.items; mem = cell_at r.memory }

-- The registers, flags, bases and instruction pointer of thread k, or nothing where no thread has the number.
abbrev pub ShowsThread : List Thread → ℕ → Option (Bor State) → Type 0
ShowsThread ts k None = slice_get ts k ≡ None
ShowsThread ts k (Some s) = (t : Thread) × (slice_get ts k ≡ Some t) × (core_of s.now ≡ t.core) × (s.now.rip ≡ t.rip)

-- ---- a run over a schedule

-- A schedule leads from one guest to another.
pub record Leads (schedule : List ℕ) (g h : Guest) : Type 0 where
  pub states : List Guest
  pub run : IsInterleaved schedule g states
  pub last : h ≡ last_guest g states

-- No thread of the guest has the number.
abbrev pub HasNoThread : Guest → ℕ → Type 0
HasNoThread g k = slice_get g.threads k ≡ None

-- Thread k of the guest has no step, for this reason.
pub record HasStopped (g : Guest) (k : ℕ) (stop : Stop) : Type 0 where
  pub thread : Thread
  pub there : slice_get g.threads k ≡ Some thread
  pub stopped : IsStopped (machine_of g.mem thread) stop

-- The schedule before the entry at a place leads from g to h, and P holds of h and of the thread
-- that the entry names.
pub record EndsAt (schedule : List ℕ) (g h : Guest) (place : ℕ) (P : Guest → ℕ → Type 0) : Type 0 where
  pub before : Leads (take place schedule) g h
  pub number : ℕ
  pub entry : slice_get schedule place ≡ Some number
  pub why : P h number

-- How a schedule runs from g: it leads as a whole to h, or it ends at h, for the reason that is
-- given.
abbrev pub Runs : List ℕ → Guest → Guest → Result (Unit {0}) ScheduleError → Type 0
Runs schedule g h (Ok _) = Leads schedule g h
Runs schedule g h (Err (NoThread place)) = EndsAt schedule g h place HasNoThread
Runs schedule g h (Err (Stopped place stop)) = EndsAt schedule g h place (λ g k. HasStopped g k stop)

-- ---- single steps

-- One step of a thread, with the memory that it shares, or none, and then thread and memory stay.
abbrev pub StepsOn : RunnerThread → Bytes → RunnerThread → Bytes → Result (Unit {0}) Stop → Type 0
StepsOn t m u w (Ok _) = ThreadStep (machine_of m (thread_in t)) (machine_of w (thread_in u))
StepsOn t m u w (Err stop) = (thread_in u ≡ thread_in t) × (w ≡ m) × IsStopped (machine_of m (thread_in t)) stop

-- The step of one entry of a schedule, at a place.
abbrev pub StepsOnce : ℕ → ℕ → Guest → Guest → Result (Unit {0}) ScheduleError → Type 0
StepsOnce place k g h (Ok _) = Moves k g h
StepsOnce place k g h (Err (NoThread at)) = (at ≡ place) × (h ≡ g) × HasNoThread g k
StepsOnce place k g h (Err (Stopped at stop)) = (at ≡ place) × (h ≡ g) × HasStopped g k stop

-- From a guest a schedule is run in one way: two runs of it end alike, in the same guest.
abbrev pub RunsOneWay : Type 0
RunsOneWay = (schedule : List ℕ) (g h i : Guest) (r s : Result (Unit {0}) ScheduleError) → Runs schedule g h r → Runs schedule g i s → (h ≡ i) × (r ≡ s)
