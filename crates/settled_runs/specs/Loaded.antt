-- What `load` writes of a settled file: its stub leads to the start of the settled file, where a kernel's vector is as the kernel left it. Theorems
-- cite it.
use Rattle.std.specs.Prelude.{◌≡◌, ℕ, ◌^◌, ◌<◌, ◌≤◌, List, length, None}
use Rattle.pun_base.specs.Memory.{Bytes}
use Rattle.insn_form.specs.Machine.{Machine}
use Rattle.insn_form.specs.Operands.{reg}
use Rattle.page_group.specs.Grouping.{GroupsState}
use Rattle.elf_read.specs.Entries.{entry_of}
use Rattle.elf_read.specs.Image.{image_of}
use Rattle.elf_emit.specs.Frames as frames
use Rattle.elf_emit.specs.Laws.{bare_image}
use Rattle.sound_images.specs.Rewriting.{Rewriting}
use Rattle.site_turns.specs.PlannedState.{PlannedState}
use Rattle.site_turns.specs.Planning.{Request}
use Rattle.site_turns.specs.PlanLaws.{IsAsked, CanBeWritten, AreGroups, job_for}
use Rattle.loader_form.specs.LoaderState.{LoaderState}
use Rattle.loader_form.specs.Laid.{loader_frame}
use Rattle.loader_form.specs.Lay.{taken_after, run_count, IsLoader, laid_of}
use Rattle.loader_form.specs.Starting.{IsLaidStart}
use Rattle.loader_form.specs.Parting.{LeadsOn}
use Rattle.settle.specs.Settled.{settled}
use Rattle.settle.specs.Refusals.{settle_refusal}
use Rattle.settle.specs.Laws.{IsReadable}
use Rattle.settled_runs.specs.Vector.{IsVector}
use Rattle.settled_runs.specs.Quiet.{GoesOnSettled}
use Rattle.settled_runs.specs.Started.{IsKernelPair, IsSettledRewriting}

-- A state in which a kernel starts a file of the loader form: rcx and rdi are 0, and further memory holds the vector.
pub record IsKernelState (further : Bytes) (s : Machine) (n : ℕ) (vs ks : List ℕ) : Type 0 where
  pub rcx : reg s.core 1 ≡ 0
  pub rdi : reg s.core 7 ≡ 0
  pub vector : IsVector further (reg s.core 4) n vs ks

-- From where a kernel starts the loader form's file of what can be written, its stub leads to where a kernel starts the original, with the same
-- vector.
abbrev pub LoadersKeepVectors : Type 0
LoadersKeepVectors =
    (q : Request) (p : PlannedState) (groups : GroupsState) (l : LoaderState) → IsAsked q → CanBeWritten q p → AreGroups p groups
    → length q.file < 2 ^ 63 → IsLoader (taken_after q.file q.reserves p) (run_count groups) l
    → frames.count (loader_frame (job_for q p groups) (laid_of l)) ≤ 1024
    → (further : Bytes) (s : Machine) (n : ℕ) (vs ks : List ℕ) → IsLaidStart (job_for q p groups) (laid_of l) further s
    → IsKernelState further s n vs ks
    → LeadsOn (job_for q p groups) (laid_of l) (run_count groups) (image_of q.file)
    (IsKernelPair (image_of q.file) (bare_image (job_for q p groups)) (entry_of q.file) n vs ks) s

-- So where the original is what `settle` writes of a file at a base, and memory with each run mapped follows it, what is written in the loader form
-- does: from where a kernel starts it, for each quiet run of the file at that base with deliveries there is a run that follows it, behind the steps
-- of both stubs.
abbrev pub SettledIsLoaded : Type 0
SettledIsLoaded =
    (b : ℕ) (file : List ℕ) (r : Rewriting) → IsReadable file → settle_refusal b file ≡ None → IsSettledRewriting b file r
    → (q : Request) (p : PlannedState) (groups : GroupsState) (l : LoaderState) → IsAsked q → CanBeWritten q p → AreGroups p groups
    → length q.file < 2 ^ 63 → IsLoader (taken_after q.file q.reserves p) (run_count groups) l
    → frames.count (loader_frame (job_for q p groups) (laid_of l)) ≤ 1024 → q.file ≡ settled b file
    → r.patched ≡ bare_image (job_for q p groups)
    → (further : Bytes) (s : Machine) (n : ℕ) (vs ks : List ℕ) → IsLaidStart (job_for q p groups) (laid_of l) further s
    → IsKernelState further s n vs ks
    → LeadsOn (job_for q p groups) (laid_of l) (run_count groups) (image_of q.file) (GoesOnSettled b file r n vs ks) s
