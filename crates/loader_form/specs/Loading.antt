-- What `emit_loader` requires: that its plan can be written of the file, and that the stub was laid for the plan. Theorems cite it.
use Rattle.std.specs.Prelude.{◌≡◌, ℕ, List}
use Rattle.page_group.specs.Grouping.{GroupsState}
use Rattle.elf_emit.specs.Emits.{emit_job}
use Rattle.elf_emit.specs.Job.{Job}
use Rattle.site_turns.specs.PlannedState.{PlannedState}
use Rattle.site_turns.specs.Planning.{Request}
use Rattle.site_turns.specs.PlanLaws.{IsAsked, CanBeWritten, writes_of, AreGroups}
use Rattle.loader_form.specs.LoaderState.{LoaderState}
use Rattle.loader_form.specs.Lay.{taken_after, run_count, IsLoader}

-- The job of writing what was planned for a file, with these groups.
abbrev pub load_job : List ℕ → PlannedState → GroupsState → Job
load_job file p groups = emit_job file (writes_of p.rows) p.built groups p.private.lo p.private.hi

-- p can be written of the request with the file, the groups are those of its code, and the stub was
-- laid for them.
pub record IsLoading (file : List ℕ) (p : PlannedState) (groups : GroupsState) (l : LoaderState) (q : Request) : Type 0 where
  pub file_is : q.file ≡ file
  pub asked : IsAsked q
  pub can : CanBeWritten q p
  pub groups_are : AreGroups p groups
  pub laid : IsLoader (taken_after q.file q.reserves p) (run_count groups) l
