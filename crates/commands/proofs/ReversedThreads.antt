-- What is written for threads is undone by its report, and what `threads` wrote with a report is taken back.
use Rattle.std.proofs.Common.{◌≤◌, sym, subst}
use Rattle.elf_emit.specs.Layout.{count, frame_of, layout}
use Rattle.elf_emit.proofs.PageRuns.{job_frame}
use Rattle.site_turns.specs.Modes.{thread_rules}
use Rattle.site_turns.proofs.PlannedJobs.{writing_is_job}
use Rattle.site_turns.proofs.LoadedJobs.{five_lead}
use Rattle.rewrite_core.specs.Asked.{request_of}
use Rattle.rewrite_core.proofs.OneVerdict.{asked_of}
use Rattle.guest_threads.specs.ThreadRewriting.{ThreadJob, job_of}
use Rattle.guest_threads.proofs.ThreadPlans.{writable}
use Rattle.commands.specs.Planned.{IsReversed, JudgedThreadsAreReversed}
use Rattle.patch_commands.specs.ThreadsAnswers.{for_threads}
use Rattle.commands.specs.Reversal.{ThreadsAreReversed}
use Rattle.commands.proofs.PatchReversal.{form_is_reversed}
use Rattle.commands.proofs.ReversedPlans.{writes_under, told_under, frame_is_reversed}

-- the file of each job for threads that an input is judged to be is undone by its report
pub judged_threads_are_reversed : JudgedThreadsAreReversed
judged_threads_are_reversed a job order size judged =
    let q = request_of a in
    let j = judged.1.is_job in
    let asked = asked_of a order judged.0 in
    let w : ThreadJob = job_of q j.turns j.planned j.groups in
    let turned = j.is_planned.turned in
    let is = writing_is_job q j.planned j.groups asked (writable q j.turns j.planned asked j.is_planned) j.are_groups size in
    subst (λ (z : ThreadJob). IsReversed a.file (layout z.emit) z.report) (sym j.is)
    (frame_is_reversed (frame_of w.emit) w.report (job_frame w.emit is) (subst (λ (z : ThreadJob). count z.emit ≤ 1024) j.is judged.1.few)
    (writes_under (thread_rules q.action) q j.turns j.planned j.groups turned.rows)
    (told_under (thread_rules q.action) five_lead q j.turns j.groups asked turned.turns))

-- after a `threads` with a report that answered 0 or 1, OUT and REPORT hold what gives FILE back
pub threads_are_reversed : ThreadsAreReversed
threads_are_reversed action p files new s t k l status orig apart h bytes held w =
    form_is_reversed (for_threads action) (record { undone = judged_threads_are_reversed; told = λ file starts job f. f.of_job.told }) p files new s t k l
    status orig apart h bytes held w.writes
