use Rattle.std.proofs.Common.{[], ◌∷◌, refl, sym, ap, ◌∙◌}
use Rattle.cpu_step.specs.Facts.{info_from, told_info}
use Rattle.guest_gen.proofs.AllTurns.{turn}
use Rattle.guest_gen.proofs.GuestTurns.{told}
use Rattle.guest_gen.proofs.ToldSteps.{advance_ok, advance_asks, asks_some, asks_this, asks_step, asks_advances}
use Rattle.guest_gen.proofs.answering.advance.Goals as goal

pub returns-in-Ok : goal.returns-in-Ok
returns-in-Ok c =
    let old = c.args.state.now in
    advance_ok old c.step_kept.new.state c.args.entries.now.items c.args.blank.now _ (info_from c.in-Ok.field-0) (told_info c.step_kept.result) c.requires.blank
    (turn old c.requires.runs) c.step_kept.ensures.told (ap told_info c.in-Ok.is) (c.in-Ok.ensures.steps (c.args.blank.now ∷ []) refl)

pub unreachable-requires : goal.unreachable-requires
unreachable-requires c =
    let old = c.args.state.now in
    let asks = advance_asks old c.args.blank.now c.in-Err.stop (told_info c.step_kept.result) c.requires.blank
    (turn old c.requires.runs) c.step_kept.ensures.told (ap told_info c.in-Err.is)
    (c.in-Err.ensures.steps (c.args.blank.now ∷ []) refl) in
    asks_some old c.in-Err.stop asks (sym c.asked_by.ensures ∙ c.in_default.is)

pub answer-requires : goal.answer-requires
answer-requires c =
    let old = c.args.state.now in
    let asks = advance_asks old c.args.blank.now c.in-Err.stop (told_info c.step_kept.result) c.requires.blank
    (turn old c.requires.runs) c.step_kept.ensures.told (ap told_info c.in-Err.is)
    (c.in-Err.ensures.steps (c.args.blank.now ∷ []) refl) in
    let this = asks_this old c.in-Err.stop c.in-Some.asked asks (sym c.in-Some.is ∙ c.asked_by.ensures) in
    asks_step old c.step_kept.new.state c.in-Err.stop c.entry-entry.result asks
    (c.entry-entry.ensures ∙ ap told this) c.in-Err.ensures.unchanged

pub returns-in_ok-push-in-Err : goal.returns-in_ok-push-in-Err
returns-in_ok-push-in-Err c =
    let old = c.args.state.now in
    let asks = advance_asks old c.args.blank.now c.in-Err.stop (told_info c.step_kept.result) c.requires.blank
    (turn old c.requires.runs) c.step_kept.ensures.told (ap told_info c.in-Err.is)
    (c.in-Err.ensures.steps (c.args.blank.now ∷ []) refl) in
    let this = asks_this old c.in-Err.stop c.in-Some.asked asks (sym c.in-Some.is ∙ c.asked_by.ensures) in
    asks_advances old c.step_kept.new.state c.answer.new.state c.in-Err.stop c.args.entries.now.items c.push.new.self.items c.entry-entry.result
    c.answer.ensures.0 asks (c.entry-entry.ensures ∙ ap told this) c.in-Err.ensures.unchanged c.answer.ensures.1
    c.in_ok-push-in-Err.ensures.items
