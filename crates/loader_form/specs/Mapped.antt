-- What the records name in the file, and what stands in memory once each run is mapped. Theorems cite it.
use Rattle.std.specs.Prelude.{◌≡◌, ◌^◌, ◌<◌, ◌≤◌, length}
use Rattle.std.specs.List.{AllByRecursion}
use Rattle.pun_base.specs.Actions.{IsAction}
use Rattle.page_group.specs.Grouping.{GroupsState}
use Rattle.elf_emit.specs.declared.runs.Run.{Run}
use Rattle.elf_emit.specs.Job.{Job}
use Rattle.elf_emit.specs.Layout.{runs_of, group_pages}
use Rattle.elf_emit.specs.Frames as frames
use Rattle.elf_emit.specs.Laws.{IsJob, bare_image}
use Rattle.site_turns.specs.PlannedState.{PlannedState}
use Rattle.site_turns.specs.Planning.{Request, Turns, IsPlanned}
use Rattle.site_turns.specs.PlanLaws.{IsAsked, job_for, AreGroups, IsShownWell}
use Rattle.loader_form.specs.Laid.{Laid, bare_frame, run_of, loader_frame, file_of, IsLaid}

-- The file's bytes that a run's record names are the group pages of the run.
abbrev pub NamesPages : Job → Laid → Run → Type 0
NamesPages j l r =
    frames.slice (run_of (frames.pages_at (bare_frame j l)) r).size (run_of (frames.pages_at (bare_frame j l)) r).offset (file_of j l)
    ≡ group_pages j.pieces j.pages r.first r.count

-- Each record of the stub names, in the file, the group pages of its run.
abbrev pub RecordsNamePages : Type 0
RecordsNamePages =
    (j : Job) (l : Laid) → IsJob j → IsLaid j l → frames.count (loader_frame j l) ≤ 1024 → AllByRecursion (NamesPages j l) (runs_of j.pages)

-- Once the runs are mapped, the original with what is written, the private range and the pages for
-- code are sound, and the program runs as the original does from the original's entry point. The
-- table isn't part of that memory, and so may have any length.
abbrev pub MappedIsShownWell : Type 0
MappedIsShownWell =
    (q : Request) (t : Turns) (p : PlannedState) (groups : GroupsState) → IsAsked q → IsAction q.action → IsPlanned q t p → AreGroups p groups
    → length q.file < 2 ^ 63 → IsShownWell q t p groups (bare_image (job_for q p groups))
