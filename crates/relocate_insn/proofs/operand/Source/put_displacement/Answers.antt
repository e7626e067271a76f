use Rattle.std.proofs.Common.{◌++◌, ℕ, List, take, length, length-append, sym, ap, ◌∙◌, arith}
use Rattle.length_decode.specs.declared.instruction_parts.Parts.{Parts}
use Rattle.insn_form.specs.Classes.{has_rip}
use Rattle.insn_form.proofs.SpellingSlices.{disp_small}
use Rattle.relocate_insn.proofs.InstructionParts.{one_parts, disp_is}
use Rattle.relocate_insn.proofs.WrittenCopies.{moved_rip, moved_plain}
use Rattle.relocate_insn.proofs.operand.Source.put_displacement.Goals as goal

pub returns-then-has_rip-clause-code : goal.returns-then-has_rip-clause-code
returns-then-has_rip-clause-code c = λ f i b.
    let p = one_parts f c.args.self.now.bytes.now c.args.self.now.parts c.requires.spelled i b in
    let h = sym (ap has_rip p) ∙ sym c.has_rip.ensures ∙ c.if-has_rip.true in
    moved_rip f c.args.code.now c.put_relative.new.self c.args.self.now.next c.args.after c.named.result c.requires.after h (c.named.ensures f i b) c.put_relative.ensures

pub returns-else-has_rip-clause-few : goal.returns-else-has_rip-clause-few
returns-else-has_rip-clause-few c =
    let s = c.requires.spelled in
    let g = s.fields in
    let d = ap (take c.from-else-has_rip.result) c.split_at.ensures.back ∙ disp_is g c.args.self.now.bytes.now c.from.result c.from-else-has_rip.result s.spelled (c.from.ensures ∙ ap (λ (z : Parts). z.disp_at) s.divided) (c.from-else-has_rip.ensures ∙ ap (λ (z : Parts). z.disp_len) s.divided) in
    let e = c.put.ensures ∙ ap (λ (z : List ℕ). c.args.code.now ++ z) d in
    omega (arith, ap length e, length-append c.args.code.now g.disp, disp_small g s.is)

pub returns-else-has_rip-clause-code : goal.returns-else-has_rip-clause-code
returns-else-has_rip-clause-code c = λ f i b.
    let p = one_parts f c.args.self.now.bytes.now c.args.self.now.parts c.requires.spelled i b in
    let h = sym (ap has_rip p) ∙ sym c.has_rip.ensures ∙ c.if-has_rip.false in
    let d = ap (take c.from-else-has_rip.result) c.split_at.ensures.back ∙ disp_is f c.args.self.now.bytes.now c.from.result c.from-else-has_rip.result b (c.from.ensures ∙ ap (λ (z : Parts). z.disp_at) p) (c.from-else-has_rip.ensures ∙ ap (λ (z : Parts). z.disp_len) p) in
    moved_plain f c.args.code.now c.put.new.self (take c.from-else-has_rip.result c.split_at.result.1.now) c.args.self.now.next c.args.after h d c.put.ensures
