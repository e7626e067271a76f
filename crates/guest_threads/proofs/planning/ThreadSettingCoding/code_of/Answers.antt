use Rattle.std.proofs.Common.{sym, subst, arith}
use Rattle.site_turns.specs.Turned.{line_at}
use Rattle.site_turns.proofs.TrampolineCodes.{taken_len}
use Rattle.thread_runs.specs.Building.{event_of, when_of, CanBeShared}
use Rattle.thread_runs.proofs.ThreadTrampolines.{event_few, listed_few}
use Rattle.guest_threads.proofs.PlanCodes.{built_ok, form_known, has_code}
use Rattle.guest_threads.proofs.ThreadConditions.{action_shared}
use Rattle.guest_threads.proofs.planning.ThreadSettingCoding.code_of.Goals as goal

pub unreachable-requires : goal.unreachable-requires
unreachable-requires c =
    form_known c.args.self.now.starts.now c.args.tramp.now.start c.requires.listed c.requires.can c.in_default.ensures.at

pub thread_trampoline-requires-clause-event : goal.thread_trampoline-requires-clause-event
thread_trampoline-requires-clause-event c =
    subst CanBeShared (sym c.thread_event_of.ensures) (action_shared c.args.self.now.action c.args.tramp.now.event c.requires.set.asked c.requires.set.shared)

pub thread_trampoline-requires-clause-place : goal.thread_trampoline-requires-clause-place
thread_trampoline-requires-clause-place c =
    let n = event_few (event_of c.thread_event_of.result) (when_of c.thread_event_of.result) (listed_few c.thread_event_of.result) in omega (arith, n)

pub unwrap-requires : goal.unwrap-requires
unwrap-requires c =
    let at = c.in-Some.ensures.at in
    built_ok (event_of c.thread_event_of.result) (when_of c.thread_event_of.result) c.in-Some.at.entry.now c.in-Some.at.insn.now _ c.thread_trampoline.result
    (c.requires.can c.in-Some.at.entry.now at.at) at.form (taken_len _ _ _ _ _ _ c.requires.set.accepted c.requires.set.own at) c.thread_trampoline.ensures.size

pub returns-clause-code : goal.returns-clause-code
returns-clause-code c =
    has_code c.args.self.now.action c.thread_event_of.result _ _ _ _ _ (line_at c.args.number c.args.tramp.now) c.args.self.now.private.lo
    c.unwrap.result c.thread_trampoline.result c.requires.set.accepted c.requires.set.own c.in-Some.ensures.at
    c.thread_event_of.ensures c.unwrap.ensures c.thread_trampoline.ensures.code
