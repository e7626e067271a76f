-- What `load` wrote is taken back, and what `threads` wrote in the loader form.
use Rattle.std.proofs.Common.{◌^◌, ◌<◌, ◌≤◌, List, length, Ok, sym, subst}
use Rattle.address_space.specs.declared.extent.Extent.{Extent}
use Rattle.elf_emit.specs.Job as written
use Rattle.patch_report.specs.Values.{ReportValue}
use Rattle.page_group.specs.Grouping.{GroupsState}
use Rattle.site_turns.specs.Modes.{thread_rules}
use Rattle.site_turns.specs.PlannedState.{PlannedState}
use Rattle.site_turns.specs.Planning.{Request}
use Rattle.site_turns.specs.PlanLaws.{IsAsked, job_for}
use Rattle.site_turns.proofs.LoadedJobs.{five_lead}
use Rattle.rewrite_core.specs.Asked.{Asked, IsInOrder, request_of}
use Rattle.rewrite_core.specs.Judging.{Job, IsJobFor, job_of, writing_of}
use Rattle.rewrite_core.proofs.OneVerdict.{asked_of}
use Rattle.loader_form.specs.LoaderState.{LoaderState}
use Rattle.loader_form.specs.Lay.{taken_after, run_count, IsLoader}
use Rattle.rewrite_loader.specs.Judging.{LaidJob, LoaderJob, file_by, file_of, entry_count, IsLaidFor, with_loader, Judges, JudgesLoaderBy}
use Rattle.rewrite_loader.proofs.CallAnswers.{taken_told}
use Rattle.guest_threads.specs.ThreadRewriting as threads
use Rattle.guest_threads.specs.ThreadRewriting.{ThreadJob, IsThreadJobFor}
use Rattle.guest_threads.proofs.ThreadPlans.{writable}
use Rattle.commands.specs.Planned.{IsReversed, JudgedThreadLoadersAreReversed}
use Rattle.commands.proofs.ReversedPlans.{writes_under, told_under, planned_loader_is_reversed, loader_is_reversed}
use Rattle.patch_commands.specs.LoadAnswers.{with_stub}
use Rattle.patch_commands.specs.ThreadsAnswers.{for_threads_with_stub}
use Rattle.commands.specs.Reversal.{LoadIsReversed, LoadedThreadsAreReversed}
use Rattle.commands.proofs.PatchReversal.{form_is_reversed}

-- what is laid for the job of what was planned is laid after the turns
pub laid_after : (q : Request) (p : PlannedState) (groups : GroupsState) (l : LoaderState) → IsLaidFor q.reserves (job_for q p groups) l
    → IsLoader (taken_after q.file q.reserves p) (run_count groups) l
laid_after q p groups l laid = subst (λ (es : List Extent). IsLoader es (run_count groups) l) (sym (taken_told q p groups)) laid

-- ---- for any kind of job of which each laid one is undone by its report

module _ {J : Type 0} (Is : Request → J → Type 0) (writing : J → written.Job) (report : J → ReportValue)
    (one : (q : Request) (j : J) (l : LoaderState) → IsAsked q → length q.file < 2 ^ 63 → Is q j → IsLaidFor q.reserves (writing j) l
    → entry_count writing (with_loader j l) ≤ 1024 → IsReversed q.file (file_by writing (with_loader j l)) (report j)) where
  -- each laid job that an input is judged to be
  judged_laid : (a : Asked) (k : LaidJob J) → IsInOrder a → length a.file < 2 ^ 63 → JudgesLoaderBy Is writing a (Ok k)
      → IsReversed a.file (file_by writing k) (report k.job)
  judged_laid a k order size h =
      let x = h.2 in
      subst (λ (z : LaidJob J). IsReversed a.file (file_by writing z) (report z.job)) (sym x.2)
      (one (request_of a) h.0 x.0 (asked_of a order h.1.0) size h.1.1 x.1 (subst (λ (z : LaidJob J). entry_count writing z ≤ 1024) x.2 x.3))

-- ---- `load`

-- a laid job of `rewrite_loader`
laid_reversed : (q : Request) (j : Job) (l : LoaderState) → IsAsked q → length q.file < 2 ^ 63 → IsJobFor q j → IsLaidFor q.reserves j.emit l
    → entry_count writing_of (with_loader j l) ≤ 1024 → IsReversed q.file (file_of (with_loader j l)) j.report
laid_reversed q j l asked size i laid few =
    let job : Job = job_of q i.turns i.planned i.groups in
    let lay : IsLaidFor q.reserves job.emit l = subst (λ (z : Job). IsLaidFor q.reserves z.emit l) i.is laid in
    let short : entry_count writing_of (with_loader job l) ≤ 1024 = subst (λ (z : Job). entry_count writing_of (with_loader z l) ≤ 1024) i.is few in
    subst (λ (z : Job). IsReversed q.file (file_of (with_loader z l)) z.report) (sym i.is)
    (planned_loader_is_reversed q i.turns i.planned i.groups l asked i.is_planned i.are_groups size (laid_after q i.planned i.groups l lay) short)

-- each job that an input is judged to be
judged_reversed : (a : Asked) (k : LoaderJob) → IsInOrder a → length a.file < 2 ^ 63 → Judges a (Ok k) → IsReversed a.file (file_of k) k.job.report
judged_reversed a k order size h = judged_laid IsJobFor writing_of (λ j. j.report) laid_reversed a k order size h

-- after a `load` that answered 0 or 1, OUT and REPORT hold what gives FILE back
pub load_is_reversed : LoadIsReversed
load_is_reversed p files new s t k l status orig apart h bytes held w =
    form_is_reversed with_stub (record { undone = judged_reversed; told = λ file starts job f. f.told }) p files new s t k l status orig apart h bytes held
    w.writes

-- ---- `threads` in the loader form

-- a laid job for threads
laid_threads_reversed : (q : Request) (j : ThreadJob) (l : LoaderState) → IsAsked q → length q.file < 2 ^ 63 → IsThreadJobFor q j
    → IsLaidFor q.reserves j.emit l → entry_count threads.writing_of (with_loader j l) ≤ 1024
    → IsReversed q.file (file_by threads.writing_of (with_loader j l)) j.report
laid_threads_reversed q j l asked size i laid few =
    let job : ThreadJob = threads.job_of q i.turns i.planned i.groups in
    let turned = i.is_planned.turned in
    let lay : IsLaidFor q.reserves job.emit l = subst (λ (z : ThreadJob). IsLaidFor q.reserves z.emit l) i.is laid in
    let short : entry_count threads.writing_of (with_loader job l) ≤ 1024 =
    subst (λ (z : ThreadJob). entry_count threads.writing_of (with_loader z l) ≤ 1024) i.is few in
    subst (λ (z : ThreadJob). IsReversed q.file (file_by threads.writing_of (with_loader z l)) z.report) (sym i.is)
    (loader_is_reversed q i.planned i.groups l job.report asked (writable q i.turns i.planned asked i.is_planned) i.are_groups size
    (laid_after q i.planned i.groups l lay) short (writes_under (thread_rules q.action) q i.turns i.planned i.groups turned.rows)
    (told_under (thread_rules q.action) five_lead q i.turns i.groups asked turned.turns))

-- the file of each job for threads in the loader form that an input is judged to be is undone by its report
pub judged_thread_loaders_are_reversed : JudgedThreadLoadersAreReversed
judged_thread_loaders_are_reversed a k order size h =
    judged_laid IsThreadJobFor threads.writing_of (λ j. j.report) laid_threads_reversed a k order size h

-- after a `threads` in the loader form that answered 0 or 1, OUT and REPORT hold what gives FILE back
pub loaded_threads_are_reversed : LoadedThreadsAreReversed
loaded_threads_are_reversed action p files new s t k l status orig apart h bytes held w =
    form_is_reversed (for_threads_with_stub action) (record { undone = judged_thread_loaders_are_reversed; told = λ file starts job f. f.of_job.told }) p files
    new s t k l status orig apart h bytes held w.writes
