-- What is promised of a file of the loader form that is patched for guests of several threads. Theorems cite it.
use Rattle.std.specs.Prelude.{◌≡◌, ℕ, List, ◌∷◌}
use Rattle.std.specs.List.{AllByRecursion}
use Rattle.pun_base.specs.Memory.{Bytes}
use Rattle.pun_base.specs.declared.action.Action.{Action}
use Rattle.insn_form.specs.Machine.{Machine}
use Rattle.insn_form.specs.Processor.{IsProcessorState}
use Rattle.elf_read.specs.Image.{image_of}
use Rattle.elf_emit.specs.Laws.{bare_image}
use Rattle.image_runs.specs.Quiet.{IsStartPair}
use Rattle.thread_runs.specs.Guest.{Thread, machine_of, thread_of}
use Rattle.thread_runs.specs.Theorem.{AreStartGuests, AreFollowed, GetOut}
use Rattle.thread_runs.specs.TheoremWithDeliveries.{AreFollowedWith, GetOutWith}
use Rattle.thread_runs.specs.Threading.{Threading, IsThreadSound}
use Rattle.loader_form.specs.Laid.{LaidLoads}
use Rattle.loader_form.specs.Starting.{IsLaidStart}
use Rattle.loader_form.specs.Parting.{LeadsOn}
use Rattle.rewrite_loader.specs.Judging.{LaidJob, run_count}
use Rattle.guest_threads.specs.ThreadRewriting.{ThreadJob, threading_on}

-- A job of rewriting for threads, and where its stub and save page stand.
abbrev pub ThreadLoaderJob : Type 0
ThreadLoaderJob = LaidJob ThreadJob

-- What was patched for threads, where the events are those of an action, once the stub has mapped each run: memory then has the original with
-- what is written, the private range and the pages for code.
abbrev pub threading_for : Action → List ℕ → List ℕ → ThreadLoaderJob → Threading
threading_for action file starts j = threading_on action file starts (bare_image j.job.emit) j.job.private j.job.rows

-- A state of the original and one of the patched program start guests of several threads: they are a start pair, and the guests whose first
-- threads they are, with any further threads that start as well, are start guests.
pub record StartThreads (r : Threading) (s u : Machine) : Type 0 where
  pub pair : IsStartPair r.original r.patched r.entry s u
  pub guests : (more : List Thread) → AllByRecursion (λ t. IsProcessorState (machine_of s.mem t) × (t.rip ≡ r.entry)) more
      → AreStartGuests r (record { threads = thread_of s ∷ more; mem = s.mem }) (record { threads = thread_of u ∷ more; mem = u.mem })

-- The written file of the loader form follows the original, for threads.
pub record IsLoaderFollowedInThreads (action : Action) (file starts : List ℕ) (j : ThreadLoaderJob) : Type 0 where
  -- the written file loads the table, the private range, the stub, its save page and the original with what is written, and nothing
  -- else, and starts at the stub
  pub loads : LaidLoads j.job.emit j.laid
  -- once each run is mapped, memory is sound
  pub sound : IsThreadSound (threading_for action file starts j)
  -- from the original's entry point on, in each run that meets the premises, the threads run as the original's do, and each counter tells how
  -- often its site was run where the action's condition held, or each byte whether it was, or a ring which sites were run last
  pub followed : AreFollowed (threading_for action file starts j)
  -- a thread that runs alone gets out of a trampoline
  pub out : GetOut (threading_for action file starts j)
  -- with deliveries to threads that stand outside, each run that meets the premises is followed and counted, too
  pub followed_with : AreFollowedWith (threading_for action file starts j)
  pub out_with : GetOutWith (threading_for action file starts j)
  -- from each state that has the written file's image and further memory, and stands at its entry
  -- point, the stub, which is one thread, comes to the original's entry point, where guests of any number of threads start, or ends the
  -- program, depending on what the kernel replies
  pub leads : (further : Bytes) (s : Machine) → IsLaidStart j.job.emit j.laid further s
      → LeadsOn j.job.emit j.laid (run_count j.job.emit) (image_of file) (StartThreads (threading_for action file starts j)) s
