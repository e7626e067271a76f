-- The theorem of the loader form, for what was planned and laid: no soundness and no disjointness is assumed. Theorems cite it.
use Rattle.std.specs.Prelude.{ℕ, ◌^◌, ◌<◌, ◌≤◌, length}
use Rattle.pun_base.specs.Actions.{IsAction}
use Rattle.pun_base.specs.Memory.{Bytes}
use Rattle.insn_form.specs.Machine.{Machine}
use Rattle.page_group.specs.Grouping.{GroupsState}
use Rattle.elf_emit.specs.Job.{Job}
use Rattle.elf_emit.specs.Frames as frames
use Rattle.elf_emit.specs.Laws.{bare_image}
use Rattle.sound_images.specs.Rewriting.{Rewriting}
use Rattle.sound_images.specs.Soundness.{rewriting_of}
use Rattle.site_turns.specs.PlannedState.{PlannedState}
use Rattle.site_turns.specs.Planning.{Request, Turns, IsPlanned}
use Rattle.site_turns.specs.PlanLaws.{IsAsked, job_for, AreGroups, shown_case, IsShownWell}
use Rattle.loader_form.specs.LoaderState.{LoaderState}
use Rattle.loader_form.specs.Laid.{Laid, loader_frame}
use Rattle.loader_form.specs.Lay.{taken_after, run_count, IsLoader, laid_of}
use Rattle.loader_form.specs.Starting.{IsLaidStart}
use Rattle.loader_form.specs.Continuing.{GoesOn}
use Rattle.loader_form.specs.Parting.{LeadsOn}

-- What a start state of a job's loader form leads to, where the stub maps this number of runs: to the original's entry, from where the headline
-- holds, or to the program's end.
abbrev pub Leads : Job → Laid → ℕ → Rewriting → Machine → Type 0
Leads j l runs r s = LeadsOn j l runs r.original (GoesOn r) s

-- The written file of the loader form does what the original does. Its memory after the stub,
-- without table, stub and save page, is sound, and each state that has the file's image and further
-- memory apart from it and from the pages for code runs on to the original's entry, or ends, by
-- what the kernel replies.
pub record IsLoadedWell (q : Request) (t : Turns) (p : PlannedState) (groups : GroupsState) (l : LoaderState) : Type 0 where
  pub shown : IsShownWell q t p groups (bare_image (job_for q p groups))
  pub leads : (further : Bytes) (s : Machine) → IsLaidStart (job_for q p groups) (laid_of l) further s
      → Leads (job_for q p groups) (laid_of l) (run_count groups) (rewriting_of (shown_case q t p groups (bare_image (job_for q p groups)))) s

-- Each file that is written for what was planned does what the original does, where `lay` laid the
-- stub and the table isn't too long.
abbrev pub PlannedLoaderIsFollowed : Type 0
PlannedLoaderIsFollowed =
    (q : Request) (t : Turns) (p : PlannedState) (groups : GroupsState) (l : LoaderState) → IsAsked q → IsAction q.action
    → IsPlanned q t p → AreGroups p groups → length q.file < 2 ^ 63 → IsLoader (taken_after q.file q.reserves p) (run_count groups) l
    → frames.count (loader_frame (job_for q p groups) (laid_of l)) ≤ 1024 → IsLoadedWell q t p groups l
