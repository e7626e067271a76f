-- What a call of `rewrite_threads` or `rewrite_threads_reported` knows once the sites are planned, and once the file is written. Theorems cite it.
use Rattle.std.specs.Prelude.{List, ℕ, Result, Ok, Err}
use Rattle.pun_base.specs.Shown.{DeskState}
use Rattle.pun_base.specs.declared.action.Action.{Action}
use Rattle.pun_base.specs.declared.range.Range.{Range}
use Rattle.site_turns.specs.Modes.{IsShared}
use Rattle.site_turns.specs.PlannedState.{PlannedState}
use Rattle.site_turns.specs.Planning.{Request, Turns}
use Rattle.rewrite_core.specs.Asked.{Asked}
use Rattle.rewrite_core.specs.declared.patching.Patch.{Patch}
use Rattle.rewrite_core.specs.declared.rewrite.RewriteError.{RewriteError}
use Rattle.rewrite_core.specs.Patching.{IsCallBy, IsPatchFor, EmitsPlanned}
use Rattle.guest_threads.specs.ThreadPlanning.{IsThreadPlanned}
use Rattle.guest_threads.specs.ThreadRewriting.{RewritesThreads}

-- What is asked of a rewriting whose events are those of an action.
abbrev pub sharing : Action → (file starts sites : List ℕ) → List Range → Asked
sharing action file starts sites reserves =
    record { file = file; starts = starts; sites = sites; action = action; reserves = reserves }

-- What was planned for threads, where they can get the action's events.
pub record IsSharedPlanned (q : Request) (t : Turns) (p : PlannedState) : Type 0 where
  pub shared : IsShared q.action
  pub planned : IsThreadPlanned q t p

-- The patch is one of what was planned for what is asked, and the name holds its file.
pub record IsWritten (a : Asked) (name : List ℕ) (s t : DeskState) (patch : Patch) : Type 0 where
  pub turns : Turns
  pub planned : PlannedState
  pub call : IsCallBy IsSharedPlanned a turns planned
  pub patch_for : IsPatchFor planned patch
  pub emitted : EmitsPlanned a.file planned patch.groups name s t (Ok tt)

-- What writing answers: the patch that was written, or an error that says what it says of
-- `rewrite_threads`.
abbrev pub WritesThreads : Asked → List ℕ → DeskState → DeskState → Result Patch RewriteError → Type 0
WritesThreads a name s t (Ok patch) = IsWritten a name s t patch
WritesThreads a name s t (Err error) = RewritesThreads a name s t (Err error)
