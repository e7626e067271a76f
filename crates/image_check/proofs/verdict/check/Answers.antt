use Rattle.std.proofs.Common.{sym, ap, ◌∙◌, subst}
use Rattle.image_check.specs.declared.verdict.Verdict.{Verdict}
use Rattle.image_check.specs.Parts.{earlier_of}
use Rattle.sound_images.specs.Rules.{Case}
use Rattle.sound_images.specs.Cases.{case_of}
use Rattle.image_check.specs.Verdict.{case_in, IsVerdict}
use Rattle.image_check.proofs.VerdictFold.{judged, yes_followed}
use Rattle.sound_images.proofs.ReadInstructions.{entries_built}
use Rattle.image_check.proofs.verdict.check.Goals as goal

pub returns-clause-verdict : goal.returns-clause-verdict
returns-clause-verdict c =
    let k = case_in c.in_ok-checked.checked in
    let o2 = c.in_ok-least-2.field-0 in
    let o3 = c.in_ok-least-3.field-0 in
    let o4 = c.in_ok-least-4.field-0 in
    let o5 = c.in_ok-least-5.field-0 in
    let o6 = c.in_ok-least-6.field-0 in
    let v = judged k c.in_ok-least.field-0 o2 o3 o4 o5 o6 c.in_ok-least.ensures c.in_ok-least-2.ensures c.in_ok-least-3.ensures
    c.in_ok-least-4.ensures c.in_ok-least-5.ensures c.in_ok-least-6.ensures in
    let e2 = c.earlier-write.ensures ∙ ap (λ z. earlier_of z o2 2) c.earlier-byte.ensures in
    let e3 = c.earlier-entry.ensures ∙ ap (λ z. earlier_of z o3 3) e2 in
    let e4 = c.earlier-code.ensures ∙ ap (λ z. earlier_of z o4 4) e3 in
    let e5 = c.earlier-range.ensures ∙ ap (λ z. earlier_of z o5 5) e4 in
    let e6 = c.earlier.ensures ∙ ap (λ z. earlier_of z o6 6) e5 in
    subst (λ (z : Case). IsVerdict z c.earlier.result) c.in_ok-checked.ensures (subst (λ (z : Verdict). IsVerdict k z) (sym e6) v)

pub returns-clause-followed : goal.returns-clause-followed
returns-clause-followed c = yes_followed
    (case_of c.args.orig.now.bytes c.args.patched.now.bytes c.args.starts.now c.args.report.now.body) c.earlier.result
    (entries_built c.args.orig.now.bytes c.args.starts.now c.file-accepted.ensures.accepted c.requires.built) c.keeps.ensures.told
    (returns-clause-verdict c)
