-- What is written of what was planned, as the code has it: patches, calls and plans of an input. Theorems cite it.
use Rattle.std.specs.Prelude.{◌≡◌, ◌⊎◌, ℕ, List, ◌^◌, ◌<◌, length, map, Result, Ok, Err}
use Rattle.std.specs.List.{AllByRecursion}
use Rattle.pun_base.specs.Shown.{DeskState}
use Rattle.pun_base.specs.Actions.{IsAction}
use Rattle.page_group.specs.Grouping.{GroupsState}
use Rattle.page_group.specs.Pages.{AreDisjoint}
use Rattle.elf_emit.specs.declared.emit.EmitError.{EmitError}
use Rattle.elf_emit.specs.Emits.{range_of, emit_job, Emits}
use Rattle.site_turns.specs.PlannedState.{EndsLow, PlannedState}
use Rattle.site_turns.specs.Planning.{Request, Turns, IsPlanned}
use Rattle.site_turns.specs.PlanLaws.{writes_of, AreGroups, CanBeWritten, IsAsked}
use Rattle.rewrite_core.specs.declared.patching.Patch.{Patch}
use Rattle.rewrite_core.specs.Asked.{Asked, request_of}
use Rattle.rewrite_core.specs.Causes.{emit_error}
use Rattle.rewrite_core.specs.declared.rewrite.RewriteError.{RewriteError}
use Rattle.rewrite_core.specs.declared.rewrite.RewriteError.TheVariants as rewrite
use Rattle.rewrite_core.specs.Judging.{HasStarts, IsPlanRefused}

-- Each piece of the planned code has bytes and ends among addresses of 32 bits, and no two of them meet.
pub record IsPatchable (p : PlannedState) : Type 0 where
  pub placed : AllByRecursion EndsLow p.built
  pub disjoint : AreDisjoint (map range_of p.built)

-- The patch of what was planned: its private range, rows and code, the writes of all rows, and the
-- groups of the code.
pub record IsPatchFor (p : PlannedState) (patch : Patch) : Type 0 where
  pub private : patch.private ≡ p.private
  pub rows : patch.rows.items ≡ p.rows
  pub built : patch.built.items ≡ p.built
  pub writes : patch.writes.items ≡ writes_of p.rows
  pub groups : AreGroups p patch.groups

-- What was planned of a file can be written: it is planned of some request with this file, and each
-- piece of its code is placed.
pub record IsWritable (file : List ℕ) (p : PlannedState) : Type 0 where
  pub request : Request
  pub file_is : request.file ≡ file
  pub size : length request.file < 2 ^ 63
  pub asked : IsAsked request
  pub can : CanBeWritten request p
  pub placed : AllByRecursion EndsLow p.built

-- What the writing of a file with these groups says.
abbrev pub EmitsPlanned : List ℕ → PlannedState → GroupsState → List ℕ → DeskState → DeskState → Result (Unit {0}) EmitError → Type 0
EmitsPlanned file p groups = Emits (emit_job file (writes_of p.rows) p.built groups p.private.lo p.private.hi)

-- Nothing was written of what was planned, since memory ran out, or writing its file failed.
abbrev pub IsUnwritten : List ℕ → PlannedState → List ℕ → DeskState → DeskState → RewriteError → Type 0
IsUnwritten file p name s t error =
    ((error ≡ rewrite.Memory) × (t ≡ s))
    ⊎ ((groups : GroupsState) × (cause : EmitError) × AreGroups p groups × (error ≡ emit_error cause)
    × EmitsPlanned file p groups name s t (Err cause))

-- What writing the file of a plan answers: the patch whose file the name holds, or why there is none.
abbrev pub WritesPatch : List ℕ → PlannedState → List ℕ → DeskState → DeskState → Result Patch RewriteError → Type 0
WritesPatch file p name s t (Ok patch) = IsPatchFor p patch × EmitsPlanned file p patch.groups name s t (Ok tt)
WritesPatch file p name s t (Err error) = IsUnwritten file p name s t error

-- The file is accepted, no start is refused, the action can be asked for, and p was planned of the
-- request by these turns, where `Plan` says what is planned.
pub record IsCallBy (Plan : Request → Turns → PlannedState → Type 0) (a : Asked) (t : Turns) (p : PlannedState) : Type 0 where
  pub starts : HasStarts a
  pub size : length a.file < 2 ^ 63
  pub asked : IsAsked (request_of a)
  pub action : IsAction a.action
  pub planned : Plan (request_of a) t p

-- What was planned of an input whose file is accepted, or why nothing was. Want of memory may come in place of any answer.
abbrev pub PlansBy : (Request → Turns → PlannedState → Type 0) → Asked → Result PlannedState RewriteError → Type 0
PlansBy Plan a (Ok p) = (t : Turns) × IsCallBy Plan a t p
PlansBy Plan a (Err rewrite.Memory) = Unit {0}
PlansBy Plan a (Err error) = IsPlanRefused a error

-- What a call of `rewrite` knows once the sites are planned.
abbrev pub IsCall : Asked → Turns → PlannedState → Type 0
IsCall a t p = IsCallBy IsPlanned a t p

-- What `rewrite` plans, or why nothing is planned.
abbrev pub Plans : Asked → Result PlannedState RewriteError → Type 0
Plans a r = PlansBy IsPlanned a r
