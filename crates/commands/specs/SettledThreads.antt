-- What OUT of `threads` does where FILE was a settled one. Theorems cite it. s and t are what the desk shows before and after.
use Rattle.std.specs.Prelude.{◌≡◌, ℕ, List, Some, None}
use Rattle.pun_base.specs.Memory.{Bytes}
use Rattle.pun_base.specs.Shown.{Files, DeskState}
use Rattle.pun_base.specs.declared.action.Action.{Action}
use Rattle.pun_base.specs.declared.action.Action.TheVariants.{Count}
use Rattle.insn_form.specs.Machine.{Machine}
use Rattle.elf_read.specs.Image.{image_of}
use Rattle.thread_runs.specs.Threading.{Threading}
use Rattle.loader_form.specs.Starting.{IsLaidStart}
use Rattle.loader_form.specs.Parting.{LeadsOn}
use Rattle.rewrite_loader.specs.Judging.{run_count}
use Rattle.guest_threads.specs.ThreadRewriting as guest
use Rattle.guest_threads.specs.ThreadRewriting.{ThreadJob}
use Rattle.thread_loader.specs.Followed as loader
use Rattle.thread_loader.specs.Followed.{ThreadLoaderJob}
use Rattle.settle.specs.Settled.{settled}
use Rattle.settle.specs.Refusals.{settle_refusal}
use Rattle.settle.specs.Laws.{IsReadable}
use Rattle.settled_runs.specs.Started.{IsKernelPair}
use Rattle.settled_runs.specs.Loaded.{IsKernelState}
use Rattle.settled_threads.specs.FileRuns.{ThreadsFollowFile}
use Rattle.settled_threads.specs.Loaded.{GoesOnInThreads}
use Rattle.command_io.specs.Inputs.{WhereTold}
use Rattle.command_io.specs.Verdict.{HoldsBytes}
use Rattle.patch_commands.specs.Answers.{IsDone}
use Rattle.patch_commands.specs.ThreadsAnswers.{ThreadPatching, FilesFollowedInThreads}
use Rattle.commands.specs.SettledFiles.{SaysOfJob}

-- From where a kernel starts OUT, each proper run of its guest follows FILE's at that base, behind the stub's steps and beside the front.
abbrev pub StartedFollowsFile : ℕ → List ℕ → Threading → Type 0
StartedFollowsFile b file r =
    (s u : Machine) (n : ℕ) (vs ks : List ℕ) → (c : IsKernelPair r.original r.patched r.entry n vs ks s u)
    → ThreadsFollowFile b file r c.pair.further n vs ks s u

abbrev pub of_threads : Action → SaysOfJob ThreadJob
of_threads action b file out list job = StartedFollowsFile b file (guest.threading_for action out list (guest.file_of job) job.private job.rows)

-- In the loader form the same, behind the steps of its stub, which may end the program instead, by what the kernel replies.
abbrev pub of_threads_loaded : Action → SaysOfJob ThreadLoaderJob
of_threads_loaded action b file out list job =
    (further : Bytes) (s : Machine) (n : ℕ) (vs ks : List ℕ) → IsLaidStart job.job.emit job.laid further s → IsKernelState further s n vs ks
    → LeadsOn job.job.emit job.laid (run_count job.job.emit) (image_of out) (GoesOnInThreads b file (loader.threading_for action out list job) n vs ks) s

-- The same without a report, with events that count.
abbrev pub FollowsSettledInThreads : ThreadPatching → DeskState → DeskState → ℕ → Type 0
FollowsSettledInThreads p s t status =
    WhereTold s (λ files. (new : Files) → t.held ≡ Some new → IsDone status → HoldsBytes files p.names.file
    → (b : ℕ) (file : List ℕ) → IsReadable file → settle_refusal b file ≡ None → files p.names.file ≡ Some (settled b file)
    → (w : FilesFollowedInThreads p.names files new) × (w.file ≡ settled b file) × of_threads Count b file w.file w.list w.job)
