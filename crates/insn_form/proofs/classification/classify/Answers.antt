use Rattle.std.proofs.Common.{◌≡◌, [], ◌++◌, sym, ap, ◌∙◌, subst, arith}
use Rattle.length_decode.specs.declared.instruction_parts.Parts.{Parts}
use Rattle.length_decode.specs.Spelling.{Fields}
use Rattle.length_decode.proofs.ShapeAnswers.{one_fields}
use Rattle.insn_form.specs.Classes.{template}
use Rattle.insn_form.specs.Filling.{filled}
use Rattle.insn_form.specs.Instruction.{insn_of}
use Rattle.insn_form.proofs.SpellingSlices.{disp_small, disp_slice, imm_slice}
use Rattle.insn_form.proofs.classification.classify.Goals as goal

pub invariant_of-form : goal.invariant_of-form
invariant_of-form c =
    let e = ap (λ (p : Parts). p.disp_len) c.requires.divided in
    let l = disp_small c.requires.fields c.requires.is in
    omega (arith, e, l)

pub returns : goal.returns
returns c = λ f i b.
    let g = c.requires.fields in
    let same = one_fields f g [] [] i.formed c.requires.is.formed (ap (λ bs. bs ++ []) (sym b ∙ c.requires.spelled)) in
    let p = c.requires.divided in
    let t = c.template.ensures ∙ ap template p in
    let d = disp_slice g c.args.bytes.now c.from-disp_at.result c.from.result c.requires.spelled (c.from-disp_at.ensures ∙ ap (λ (z : Parts). z.disp_at) p) (c.from.ensures ∙ ap (λ (z : Parts). z.disp_len) p) in
    let m = imm_slice g c.args.bytes.now c.from-imm_at.result c.from-2.result c.requires.spelled (c.from-imm_at.ensures ∙ ap (λ (z : Parts). z.imm_at) p) (c.from-2.ensures ∙ ap (λ (z : Parts). z.imm_len) p) in
    subst (λ (z : Fields). c.filled.result ≡ insn_of z) (sym same) (c.filled.ensures ∙ λ j. filled (t j) (p j) (d j) (m j))
