use Rattle.rewrite_core.specs.Causes.{start_error, turn_error}
use Rattle.rewrite_core.specs.Patching.{PlansBy}
use Rattle.rewrite_core.proofs.PlannedCalls.{by_error, not_started, not_planned}
use Rattle.guest_threads.specs.ThreadCalls.{sharing, IsSharedPlanned}
use Rattle.guest_threads.proofs.RewriteAnswers.{planned_threads}
use Rattle.guest_threads.proofs.rewriting.plan_thread_file.Goals as goal

pub returns-in_err-listed : goal.returns-in_err-listed
returns-in_err-listed c =
    let a = sharing c.args.action c.args.elf.now.bytes c.args.starts.now c.args.sites.now c.args.reserves.now in
    by_error (PlansBy IsSharedPlanned a) _ (start_error c.in_err-listed.field-0.0) c.from_residual.ensures.1
    (not_started IsSharedPlanned a c.in_err-listed.field-0.0 c.requires.accepted c.in_err-listed.ensures.refused)

pub returns-in_err-planned : goal.returns-in_err-planned
returns-in_err-planned c =
    let a = sharing c.args.action c.args.elf.now.bytes c.args.starts.now c.args.sites.now c.args.reserves.now in
    by_error (PlansBy IsSharedPlanned a) _ (turn_error c.in_err-planned.field-0.0) c.from_residual-in_err-planned.ensures.1
    (not_planned IsSharedPlanned a c.in_ok-listed.listed c.in_err-planned.field-0.0 c.requires.accepted c.in_ok-listed.ensures.entries
    c.in_ok-listed.ensures.accepted c.in_err-planned.ensures.refused)

pub returns : goal.returns
returns c =
    let a = sharing c.args.action c.args.elf.now.bytes c.args.starts.now c.args.sites.now c.args.reserves.now in
    planned_threads a c.in_ok-listed.listed c.in_ok-planned.planned c.requires.action c.requires.shared c.requires.order c.requires.size c.requires.accepted
    c.in_ok-listed.ensures.entries c.in_ok-listed.ensures.accepted c.in_ok-listed.ensures.built c.in_ok-planned.ensures.planned
