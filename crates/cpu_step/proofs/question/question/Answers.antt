use Rattle.std.proofs.Common.{◌≡◌, ◌+◌, ◌≤◌, [], ◌++◌, length, Some, None, sym, ap, ◌∙◌, subst}
use Rattle.length_decode.specs.declared.instruction_parts.Parts.{Parts}
use Rattle.length_decode.specs.Spelling.{Fields}
use Rattle.length_decode.proofs.ShapeAnswers.{one_fields}
use Rattle.cpu_state.specs.declared.world.Question.{Question}
use Rattle.insn_form.specs.Classes.{has_rip}
use Rattle.insn_form.specs.Step.{question_of}
use Rattle.insn_form.proofs.SpellingSlices.{rip_disp}
use Rattle.cpu_step.proofs.MaskedDisplacements.{rip_ends, asked_by_rip, asked_plainly}
use Rattle.cpu_step.proofs.question.question.Goals.{After-from-at}
use Rattle.cpu_step.proofs.question.question.Goals as goal

-- The four bytes of the displacement end within the instruction.
inside : (c : After-from-at) → c.from-at.result + 4 ≤ length c.args.bytes.now
inside c =
    let g = c.requires.fields in
    let p = c.requires.divided in
    let h = sym (ap has_rip p) ∙ sym c.has_rip.ensures ∙ c.if-has_rip.true in
    rip_ends g c.args.bytes.now c.from-at.result c.requires.spelled (c.from-at.ensures ∙ ap (λ (z : Parts). z.disp_at) p) (rip_disp g c.requires.is h)

pub with_zeros-requires-clause-within : goal.with_zeros-requires-clause-within
with_zeros-requires-clause-within c = inside (goal.at.with_zeros-requires-clause-within c).After-from-at

pub named-requires : goal.named-requires
named-requires c = inside (goal.at.named-requires c).After-from-at

pub returns-then-has_rip : goal.returns-then-has_rip
returns-then-has_rip c = λ f i b.
    let g = c.requires.fields in
    let p = c.requires.divided in
    let h = sym (ap has_rip p) ∙ sym c.has_rip.ensures ∙ c.if-has_rip.true in
    let same = one_fields f g [] [] i.formed c.requires.is.formed (ap (λ bs. bs ++ []) (sym b ∙ c.requires.spelled)) in
    subst (λ (z : Fields). ◌≡◌ {A = Question} (record { bytes = c.with_zeros.result; addr = Some c.named.result }) (question_of z c.args.next)) (sym same)
    (asked_by_rip g c.args.bytes.now c.with_zeros.result c.from-at.result c.args.next c.named.result c.requires.is h c.requires.spelled (c.from-at.ensures ∙ ap (λ (z : Parts). z.disp_at) p) c.with_zeros.ensures c.named.ensures)

pub returns-else-has_rip : goal.returns-else-has_rip
returns-else-has_rip c = λ f i b.
    let g = c.requires.fields in
    let h = sym (ap has_rip c.requires.divided) ∙ sym c.has_rip.ensures ∙ c.if-has_rip.false in
    let same = one_fields f g [] [] i.formed c.requires.is.formed (ap (λ bs. bs ++ []) (sym b ∙ c.requires.spelled)) in
    subst (λ (z : Fields). ◌≡◌ {A = Question} (record { bytes = c.from_slice.result; addr = None }) (question_of z c.args.next)) (sym same) (asked_plainly g c.args.bytes.now c.from_slice.result c.args.next h c.requires.spelled c.from_slice.ensures)
