use Rattle.std.proofs.Common.{refl, sym, ap, ◌∙◌, subst, arith}
use Rattle.site_turns.specs.Modes.{thread_event_of}
use Rattle.image_check.specs.Parts.{line_of}
use Rattle.sound_images.specs.Cases.{case_of}
use Rattle.thread_runs.specs.Building.{event_of, when_of, CanBeShared}
use Rattle.thread_runs.proofs.ThreadTrampolines.{event_few, listed_few}
use Rattle.guest_threads.proofs.ThreadConditions.{action_shared}
use Rattle.thread_check.proofs.BuiltCode.{built, not_built, not_known}
use Rattle.thread_check.proofs.line_rule.code_of.Goals as goal

pub returns-in_default : goal.returns-in_default
returns-in_default c = λ p. not_known (case_of c.args.orig.now.bytes p c.args.starts.now c.args.report.now.body) (line_of c.args.line.now) c.in_default.ensures.at

pub thread_trampoline-requires-clause-event : goal.thread_trampoline-requires-clause-event
thread_trampoline-requires-clause-event c =
    subst CanBeShared (sym (c.thread_event_of.ensures ∙ ap (λ a. thread_event_of a c.args.line.now.tramp.event) c.action-action.ensures))
    (action_shared c.args.report.now.body.action c.args.line.now.tramp.event c.requires.low.action c.requires.shared)

pub thread_trampoline-requires-clause-place : goal.thread_trampoline-requires-clause-place
thread_trampoline-requires-clause-place c =
    let n = event_few (event_of c.thread_event_of.result) (when_of c.thread_event_of.result) (listed_few c.thread_event_of.result) in omega (arith, n)

pub returns-in-Ok : goal.returns-in-Ok
returns-in-Ok c = λ p.
    built c.thread_event_of.result (case_of c.args.orig.now.bytes p c.args.starts.now c.args.report.now.body) (line_of c.args.line.now) c.args.orig.now.bytes c.in-Some.at.entry.now
    c.in-Some.at.insn.now c.in-Some.at.bytes.now c.in-Ok.code.bytes c.private-private.result.lo
    (c.thread_event_of.ensures ∙ ap (λ a. thread_event_of a c.args.line.now.tramp.event) c.action-action.ensures)
    c.requires.accepted c.requires.built refl c.in-Some.ensures.at c.if-at.false (ap (λ x. x.0) c.private-private.ensures)
    c.in-Ok.ensures.code c.in-Ok.ensures.size

pub returns-in-Err : goal.returns-in-Err
returns-in-Err c = λ p.
    not_built (case_of c.args.orig.now.bytes p c.args.starts.now c.args.report.now.body) (line_of c.args.line.now) c.args.orig.now.bytes c.in-Some.at.entry.now
    c.in-Some.at.insn.now c.in-Some.at.bytes.now c.requires.accepted c.requires.built c.in-Some.ensures.at c.in-Err.ensures.size
