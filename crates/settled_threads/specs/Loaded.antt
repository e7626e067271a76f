-- What `threads` writes of a settled file in the loader form: its stub leads to where a kernel starts the settled file. Theorems cite it.
use Rattle.std.specs.Prelude.{◌≡◌, ℕ, ◌^◌, ◌<◌, ◌≤◌, List, length, None}
use Rattle.pun_base.specs.Memory.{Bytes}
use Rattle.insn_form.specs.Machine.{Machine}
use Rattle.page_group.specs.Grouping.{GroupsState}
use Rattle.elf_read.specs.Image.{image_of}
use Rattle.elf_emit.specs.Frames as frames
use Rattle.elf_emit.specs.Laws.{bare_image}
use Rattle.thread_runs.specs.Threading.{Threading}
use Rattle.site_turns.specs.PlannedState.{PlannedState}
use Rattle.site_turns.specs.Planning.{Request}
use Rattle.site_turns.specs.PlanLaws.{IsAsked, CanBeWritten, AreGroups, job_for}
use Rattle.loader_form.specs.LoaderState.{LoaderState}
use Rattle.loader_form.specs.Laid.{loader_frame}
use Rattle.loader_form.specs.Lay.{taken_after, run_count, IsLoader, laid_of}
use Rattle.loader_form.specs.Starting.{IsLaidStart}
use Rattle.loader_form.specs.Parting.{LeadsOn}
use Rattle.settle.specs.Settled.{settled}
use Rattle.settle.specs.Refusals.{settle_refusal}
use Rattle.settle.specs.Laws.{IsReadable}
use Rattle.settled_runs.specs.Started.{IsKernelPair}
use Rattle.settled_runs.specs.Loaded.{IsKernelState}
use Rattle.settled_threads.specs.FileRuns.{IsSettledThreading, ThreadsFollowFile}

-- Two states are a start pair in which a kernel starts a program, from which the patched file's guest follows FILE.
pub record GoesOnInThreads (b : ℕ) (file : List ℕ) (r : Threading) (n : ℕ) (vs ks : List ℕ) (s u : Machine) : Type 0 where
  pub start : IsKernelPair r.original r.patched r.entry n vs ks s u
  pub follows : ThreadsFollowFile b file r start.pair.further n vs ks s u

-- Where the original is what `settle` writes of a file at a base, and memory with each run mapped is sound for threads, the stub of what is
-- written in the loader form leads from where a kernel starts it to such a pair.
abbrev pub SettledThreadsLoad : Type 0
SettledThreadsLoad =
    (b : ℕ) (file : List ℕ) (r : Threading) → IsReadable file → settle_refusal b file ≡ None → IsSettledThreading b file r
    → (q : Request) (p : PlannedState) (groups : GroupsState) (l : LoaderState) → IsAsked q → CanBeWritten q p → AreGroups p groups
    → length q.file < 2 ^ 63 → IsLoader (taken_after q.file q.reserves p) (run_count groups) l
    → frames.count (loader_frame (job_for q p groups) (laid_of l)) ≤ 1024 → q.file ≡ settled b file
    → r.patched ≡ bare_image (job_for q p groups)
    → (further : Bytes) (s : Machine) (n : ℕ) (vs ks : List ℕ) → IsLaidStart (job_for q p groups) (laid_of l) further s
    → IsKernelState further s n vs ks
    → LeadsOn (job_for q p groups) (laid_of l) (run_count groups) (image_of q.file) (GoesOnInThreads b file r n vs ks) s
