-- What is written in the loader form of what was planned, as the code has it. Theorems cite it.
use Rattle.std.specs.Prelude.{◌≡◌, ◌⊎◌, ℕ, List, Result, Ok, Err}
use Rattle.pun_base.specs.Shown.{DeskState}
use Rattle.pun_base.specs.declared.range.Range.{Range}
use Rattle.page_group.specs.Grouping.{GroupsState}
use Rattle.elf_emit.specs.declared.emit.EmitError.{EmitError}
use Rattle.elf_emit.specs.Emits.{EmitsFrame}
use Rattle.site_turns.specs.PlannedState.{PlannedState}
use Rattle.site_turns.specs.PlanLaws.{AreGroups}
use Rattle.rewrite_core.specs.declared.rewrite.RewriteError.TheVariants as rewrite
use Rattle.rewrite_core.specs.Causes.{emit_error}
use Rattle.loader_form.specs.declared.error.LoadError.{LoadError}
use Rattle.loader_form.specs.LoaderState.{LoaderState}
use Rattle.loader_form.specs.Laid.{LaidLoads, loader_frame}
use Rattle.loader_form.specs.Lay.{taken_after, run_count, IsLoader, Lays, laid_of}
use Rattle.loader_form.specs.Loading.{load_job}
use Rattle.rewrite_loader.specs.declared.error.LoaderError.{LoaderError}
use Rattle.rewrite_loader.specs.declared.error.LoaderError.TheVariants.{Rewrite}
use Rattle.rewrite_loader.specs.declared.writing.Loaded.{Loaded}
use Rattle.rewrite_loader.specs.Causes.{load_error}

-- The groups are those of what was planned, and the stub is laid for them beside what is reserved.
pub record IsLaidBeside (file : List ℕ) (reserves : List Range) (p : PlannedState) (groups : GroupsState) (l : LoaderState) : Type 0 where
  pub are_groups : AreGroups p groups
  pub laid : IsLoader (taken_after file reserves p) (run_count groups) l

-- What the writing of a file in the loader form says, with these groups and this stub.
abbrev pub EmitsLaid : List ℕ → PlannedState → GroupsState → LoaderState → List ℕ → DeskState → DeskState → Result (Unit {0}) EmitError → Type 0
EmitsLaid file p groups l = EmitsFrame (loader_frame (load_job file p groups) (laid_of l))

-- The name holds the loader form's file of what was planned, which loads its parts.
pub record IsLoadedPlan (file : List ℕ) (reserves : List Range) (p : PlannedState) (name : List ℕ) (s t : DeskState) (x : Loaded) : Type 0 where
  pub planned : x.planned ≡ p
  pub loader : LoaderState
  pub laid : IsLaidBeside file reserves p x.groups loader
  pub emitted : EmitsLaid file p x.groups loader name s t (Ok tt)
  pub loads : LaidLoads (load_job file p x.groups) (laid_of loader)

-- No stub is laid for what was planned.
pub record IsUnlaid (file : List ℕ) (reserves : List Range) (p : PlannedState) (error : LoaderError) : Type 0 where
  pub groups : GroupsState
  pub are_groups : AreGroups p groups
  pub cause : LoadError
  pub is : error ≡ load_error cause
  pub lays : Lays (taken_after file reserves p) (run_count groups) (Err cause)

-- Writing the loader form's file of what was planned failed.
pub record IsUnemitted (file : List ℕ) (reserves : List Range) (p : PlannedState) (name : List ℕ) (s t : DeskState) (error : LoaderError) : Type 0 where
  pub groups : GroupsState
  pub loader : LoaderState
  pub laid : IsLaidBeside file reserves p groups loader
  pub cause : EmitError
  pub is : error ≡ Rewrite (emit_error cause)
  pub emitted : EmitsLaid file p groups loader name s t (Err cause)

-- What writing the loader form of a plan answers: what the name holds the file of, or why there is none.
abbrev pub WritesLoader : List ℕ → List Range → PlannedState → List ℕ → DeskState → DeskState → Result Loaded LoaderError → Type 0
WritesLoader file reserves p name s t (Ok x) = IsLoadedPlan file reserves p name s t x
WritesLoader file reserves p name s t (Err error) =
    ((error ≡ Rewrite rewrite.Memory) × (t ≡ s))
    ⊎ ((IsUnlaid file reserves p error × (t ≡ s))
    ⊎ IsUnemitted file reserves p name s t error)
