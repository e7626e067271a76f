-- What OUT of `patch` and `load` does where FILE was a settled one. Theorems cite it. s and t are what the desk shows before and after.
use Rattle.std.specs.Prelude.{◌≡◌, ℕ, List, Some, None}
use Rattle.pun_base.specs.Memory.{Bytes}
use Rattle.pun_base.specs.Shown.{Files, DeskState}
use Rattle.insn_form.specs.Machine.{Machine}
use Rattle.elf_read.specs.Image.{image_of}
use Rattle.sound_images.specs.Rewriting.{Rewriting}
use Rattle.sound_images.specs.Soundness.{rewriting_of}
use Rattle.rewrite_core.specs.Judging.{Job}
use Rattle.rewrite_core.specs.Followed as core
use Rattle.rewrite_core.specs.Rewrites.{file_of}
use Rattle.loader_form.specs.Starting.{IsLaidStart}
use Rattle.loader_form.specs.Parting.{LeadsOn}
use Rattle.rewrite_loader.specs.Judging.{LoaderJob, run_count}
use Rattle.rewrite_loader.specs.Followed as loader
use Rattle.settle.specs.Settled.{settled}
use Rattle.settle.specs.Refusals.{settle_refusal}
use Rattle.settle.specs.Laws.{IsReadable}
use Rattle.settled_runs.specs.Quiet.{FollowsOn, GoesOnSettled}
use Rattle.settled_runs.specs.Started.{IsKernelPair, ListsPlaces}
use Rattle.settled_runs.specs.Loaded.{IsKernelState}
use Rattle.command_io.specs.Inputs.{WhereTold}
use Rattle.command_io.specs.Verdict.{Patching, Form, HoldsBytes}
use Rattle.patch_commands.specs.Answers.{IsDone, FormFollowed}

-- What is said of a base, a file, what `settle` writes of it, the listed starts, and a job of a form.
abbrev pub SaysOfJob : Type 0 → Type 1
SaysOfJob J = ℕ → List ℕ → List ℕ → List ℕ → J → Type 0

-- Where FILE held what `settle` writes of a file at a base, and the form's command did its work, so much is said of its job.
abbrev pub FollowsSettled : {J : Type 0} → (f : Form J) → SaysOfJob J → Patching → DeskState → DeskState → ℕ → Type 0
FollowsSettled f Says p s t status =
    WhereTold s (λ files. (new : Files) → t.held ≡ Some new → IsDone status → HoldsBytes files p.names.file
    → (b : ℕ) (file : List ℕ) → IsReadable file → settle_refusal b file ≡ None → files p.names.file ≡ Some (settled b file)
    → (w : FormFollowed f p.names files new) × (w.file ≡ settled b file) × Says b file w.file w.list w.job)

-- Of `patch`: if STARTS lists the stub's instructions, then from where a kernel starts OUT, for each quiet run of the file at that base with
-- deliveries there is a run of OUT that follows the stub's steps and that run.
abbrev pub PatchedFollowsOn : ℕ → List ℕ → Rewriting → Type 0
PatchedFollowsOn b file r =
    ListsPlaces b file r.listed → (s t : Machine) (n : ℕ) (vs ks : List ℕ) → (c : IsKernelPair r.original r.patched r.entry n vs ks s t)
    → FollowsOn b file r c.pair.further n vs ks s t

abbrev pub of_patch : SaysOfJob Job
of_patch b file out list job = PatchedFollowsOn b file (rewriting_of (core.case_for out list (file_of job) job.report))

-- Of `load` the same, behind the steps of the loader form's stub, which may end the program instead, by what the kernel replies.
abbrev pub LoadedFollowsOn : ℕ → List ℕ → List ℕ → LoaderJob → Rewriting → Type 0
LoadedFollowsOn b file out job r =
    ListsPlaces b file r.listed → (further : Bytes) (s : Machine) (n : ℕ) (vs ks : List ℕ) → IsLaidStart job.job.emit job.laid further s
    → IsKernelState further s n vs ks
    → LeadsOn job.job.emit job.laid (run_count job.job.emit) (image_of out) (GoesOnSettled b file r n vs ks) s

abbrev pub of_load : SaysOfJob LoaderJob
of_load b file out list job = LoadedFollowsOn b file out job (rewriting_of (loader.case_for out list job job.job.report))
