use Rattle.std.proofs.Common.{[], ◌+◌, List, drop, refl, subst}
use Rattle.insn_form.specs.Machine.{Machine}
use Rattle.cpu_step.specs.Stepping.{machine_of}
use Rattle.loader_form.specs.declared.kernel.MapAnswer.{MapAnswer}
use Rattle.loader_form.specs.Answers.{AreAnswers}
use Rattle.loader_form.proofs.RunsByAnswers.{Going, going_starts, going_entry, stepped, stopped, going_exits, going_waits, going_replies, answers_drop, left_more, left_none}
use Rattle.loader_form.proofs.stub_run.stub_run.Goals as goal

pub loop-steps-init : goal.loop-steps-init
loop-steps-init c =
    going_starts c.args.file.now.bytes c.args.original_entry (machine_of c.args.state.now []) c.args.answers.now c.ranges.original_entry.fits refl c.requires.starts c.requires.answers

pub returns-then-state-original_entry : goal.returns-then-state-original_entry
returns-then-state-original_entry c =
    going_entry c.args.file.now.bytes c.args.original_entry c.args.answers.now (machine_of c.args.state.now []) (drop c.loop-steps.used c.args.answers.now)
    (machine_of c.loop-steps.state []) c.loop-steps.steps c.loop-steps.invariant c.if-state-original_entry.true

pub loop-steps-preserved-then-steps_on : goal.loop-steps-preserved-then-steps_on
loop-steps-preserved-then-steps_on c =
    stepped c.args.file.now.bytes c.args.original_entry c.args.answers.now (machine_of c.args.state.now []) (drop c.loop-steps.used c.args.answers.now)
    c.loop-steps.state c.steps_on.new.state c.loop-steps.steps c.steps_on.result c.if-steps_on.true c.steps_on.ensures c.if-state-original_entry.false
    c.loop-steps.invariant

pub returns-then-state-eq-EXIT : goal.returns-then-state-eq-EXIT
returns-then-state-eq-EXIT c =
    let left = drop c.loop-steps.used c.args.answers.now in
    let s = machine_of c.args.state.now [] in
    let w = stopped c.args.file.now.bytes c.args.original_entry c.args.answers.now s left c.loop-steps.state c.steps_on.new.state c.loop-steps.steps c.steps_on.result
    c.if-steps_on.false c.steps_on.ensures c.if-state-original_entry.false c.loop-steps.invariant in
    going_exits c.args.file.now.bytes c.args.original_entry c.args.answers.now s (machine_of c.steps_on.new.state []) c.loop-steps.steps w.far w.none left w.going
    c.if-state-eq-EXIT.true

pub returns-in_default : goal.returns-in_default
returns-in_default c =
    let left = drop c.loop-steps.used c.args.answers.now in
    let s = machine_of c.args.state.now [] in
    let m = machine_of c.steps_on.new.state [] in
    let w = stopped c.args.file.now.bytes c.args.original_entry c.args.answers.now s left c.loop-steps.state c.steps_on.new.state c.loop-steps.steps c.steps_on.result
    c.if-steps_on.false c.steps_on.ensures c.if-state-original_entry.false c.loop-steps.invariant in
    let e = left_none c.args.answers.now c.loop-steps.used c.in_default.ensures.lookup in
    going_waits c.args.file.now.bytes c.args.original_entry c.args.answers.now s m c.loop-steps.steps w.far w.none
    (subst (λ (z : List MapAnswer). Going c.args.file.now.bytes c.args.original_entry c.args.answers.now s z m c.loop-steps.steps) e w.going)
    c.if-state-eq-EXIT.false

pub reply-requires-clause-good : goal.reply-requires-clause-good
reply-requires-clause-good c =
    (subst AreAnswers (left_more c.args.answers.now c.loop-steps.used c.in-Some.answer c.in-Some.ensures.lookup)
    (answers_drop c.loop-steps.used c.args.answers.now c.requires.answers)).0

pub reply-requires-clause-calls : goal.reply-requires-clause-calls
reply-requires-clause-calls c =
    let left = drop c.loop-steps.used c.args.answers.now in
    let s = machine_of c.args.state.now [] in
    let m = machine_of c.steps_on.new.state [] in
    let w = stopped c.args.file.now.bytes c.args.original_entry c.args.answers.now s left c.loop-steps.state c.steps_on.new.state c.loop-steps.steps c.steps_on.result
    c.if-steps_on.false c.steps_on.ensures c.if-state-original_entry.false c.loop-steps.invariant in
    let e = left_more c.args.answers.now c.loop-steps.used c.in-Some.answer c.in-Some.ensures.lookup in
    let r = going_replies c.args.file.now.bytes c.args.original_entry c.args.answers.now s m c.loop-steps.steps w.far w.none c.in-Some.answer.now
    (drop (c.loop-steps.used + 1) c.args.answers.now)
    (subst (λ (z : List MapAnswer). Going c.args.file.now.bytes c.args.original_entry c.args.answers.now s z m c.loop-steps.steps) e w.going)
    c.if-state-eq-EXIT.false in
    (r.0, r.1, r.2, r.3)

pub loop-steps-preserved : goal.loop-steps-preserved
loop-steps-preserved c =
    let left = drop c.loop-steps.used c.args.answers.now in
    let more = drop (c.loop-steps.used + 1) c.args.answers.now in
    let s = machine_of c.args.state.now [] in
    let m = machine_of c.steps_on.new.state [] in
    let w = stopped c.args.file.now.bytes c.args.original_entry c.args.answers.now s left c.loop-steps.state c.steps_on.new.state c.loop-steps.steps c.steps_on.result
    c.if-steps_on.false c.steps_on.ensures c.if-state-original_entry.false c.loop-steps.invariant in
    let e = left_more c.args.answers.now c.loop-steps.used c.in-Some.answer c.in-Some.ensures.lookup in
    let r = going_replies c.args.file.now.bytes c.args.original_entry c.args.answers.now s m c.loop-steps.steps w.far w.none c.in-Some.answer.now more
    (subst (λ (z : List MapAnswer). Going c.args.file.now.bytes c.args.original_entry c.args.answers.now s z m c.loop-steps.steps) e w.going)
    c.if-state-eq-EXIT.false in
    let d = rw c.in_ok-reply.was at c.reply.ensures in
    let t = d r.0 r.1 r.2 r.3 in
    subst (λ (z : Machine). Going c.args.file.now.bytes c.args.original_entry c.args.answers.now s more z (c.loop-steps.steps + 1)) t
    (r.4 (λ i. (t i).world))
