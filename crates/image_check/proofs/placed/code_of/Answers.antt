use Rattle.std.proofs.Common.{ℕ, List, Option, length, take, refl, sym, ap, ◌∙◌, subst, arith}
use Rattle.std.proofs.lemmas.List.{length-take}
use Rattle.std.specs.Prelude.{IfSome}
use Rattle.trampoline.specs.declared.event.Event.{Event}
use Rattle.trampoline.specs.Running.{IsEvent}
use Rattle.image_check.specs.CodeParts.{IsCodeOf}
use Rattle.image_check.specs.Parts.{line_of}
use Rattle.sound_images.specs.Reports.{event_of}
use Rattle.sound_images.specs.Cases.{case_of}
use Rattle.sound_images.proofs.LineEvents.{event_is}
use Rattle.sound_images.proofs.ReadInstructions.{read_at}
use Rattle.image_check.proofs.CodeAtStarts.{built_code, not_built}
use Rattle.image_check.proofs.placed.code_of.Goals as goal

pub slice_bounds-bytes-end : goal.slice_bounds-bytes-end
slice_bounds-bytes-end c =
    let q = read_at c.args.orig.now.bytes c.args.starts.now c.args.line.now.tramp.start c.in-Some.entry.now c.in-Some-form.insn
    c.requires.accepted c.requires.built (sym c.in-Some.ensures.value) c.in-Some-form.is in
    omega (arith, length-take c.from.result c.window.result.now, c.from.ensures, ap length c.window.ensures, q.within)

pub build-requires-clause-spelled : goal.build-requires-clause-spelled
build-requires-clause-spelled c =
    let q = read_at c.args.orig.now.bytes c.args.starts.now c.args.line.now.tramp.start c.in-Some.entry.now c.in-Some-form.insn
    c.requires.accepted c.requires.built (sym c.in-Some.ensures.value) c.in-Some-form.is in
    record { fields = q.fields; is = q.is; spelled = (λ j. take (c.from.ensures j) (c.window.ensures j)) ∙ q.bytes; insn = q.insn }

pub build-requires-clause-from : goal.build-requires-clause-from
build-requires-clause-from c =
    let q = read_at c.args.orig.now.bytes c.args.starts.now c.args.line.now.tramp.start c.in-Some.entry.now c.in-Some-form.insn
    c.requires.accepted c.requires.built (sym c.in-Some.ensures.value) c.in-Some-form.is in
    omega (arith, length-take c.from.result c.window.result.now, c.from.ensures, q.low)

pub build-requires-clause-event : goal.build-requires-clause-event
build-requires-clause-event c =
    let l = line_of c.args.line.now in
    let v = c.args.flat.now in
    let e = c.event_of-event.ensures ∙ ap (λ a. event_of a l) (c.action.ensures ∙ ap (λ r. r.action) c.report-report.ensures) in
    subst (λ (o : Option Event). IfSome o IsEvent) (sym e)
    (event_is l.tramp.event v.action l.number c.requires.low.action c.requires.low.number)

pub returns-in-Ok : goal.returns-in-Ok
returns-in-Ok c = λ p.
    let file = c.args.orig.now.bytes in
    let l = line_of c.args.line.now in
    let e = c.in-Some.entry.now in
    let q = read_at file c.args.starts.now c.args.line.now.tramp.start e c.in-Some-form.insn c.requires.accepted c.requires.built
    (sym c.in-Some.ensures.value) c.in-Some-form.is in
    built_code (case_of file p c.args.starts.now c.args.flat.now) l file e c.in-Some-form.insn (take c.from.result c.window.result.now)
    c.in-Ok.code.bytes c.event_of-event.result c.private-private.result.lo refl (sym c.in-Some.ensures.value) c.in-Some-form.is q
    (λ j. take (c.from.ensures j) (c.window.ensures j))
    (c.event_of-event.ensures ∙ ap (λ a. event_of a l) (c.action.ensures ∙ ap (λ r. r.action) c.report-report.ensures))
    (ap (λ x. x.0) c.private-private.ensures ∙ ap (λ r. r.private.0) c.report-report.ensures)
    c.in-Ok.ensures.code c.in-Ok.ensures.size

pub returns-in-Err : goal.returns-in-Err
returns-in-Err c = λ p.
    let file = c.args.orig.now.bytes in
    let l = line_of c.args.line.now in
    let e = c.in-Some.entry.now in
    let q = read_at file c.args.starts.now c.args.line.now.tramp.start e c.in-Some-form.insn c.requires.accepted c.requires.built
    (sym c.in-Some.ensures.value) c.in-Some-form.is in
    let P : List ℕ → Type 0 = IsCodeOf (case_of file p c.args.starts.now c.args.flat.now) l in
    subst P (sym c.from_slice-in-Err.ensures)
    (not_built (case_of file p c.args.starts.now c.args.flat.now) l file e c.in-Some-form.insn (take c.from.result c.window.result.now)
    (sym c.in-Some.ensures.value) c.in-Some-form.is q (λ j. take (c.from.ensures j) (c.window.ensures j)) c.in-Err.ensures.size)
