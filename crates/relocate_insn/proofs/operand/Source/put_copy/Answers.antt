use Rattle.std.proofs.Common.{◌+◌, length, length-append, ap, ◌∙◌, arith}
use Rattle.length_decode.specs.declared.instruction_parts.Parts.{Parts}
use Rattle.relocate_insn.specs.Relocating.{copy_of}
use Rattle.relocate_insn.proofs.InstructionParts.{one_parts, front_is, rest_is}
use Rattle.relocate_insn.proofs.WrittenCopies.{copied}
use Rattle.relocate_insn.proofs.RelocatedLengths.{copy_length}
use Rattle.relocate_insn.proofs.operand.Source.put_copy.Goals as goal

pub returns-clause-few : goal.returns-clause-few
returns-clause-few c =
    let s = c.requires.spelled in
    let f = s.fields in let i = s.is in let b = s.spelled in let p = s.divided in
    let bytes = c.args.self.now.bytes.now in
    let a = ap (λ n. c.args.place + n) (c.from-3.ensures ∙ ap (λ (z : Parts). z.len) p) in
    let h = c.split_at.ensures.front ∙ front_is f bytes c.from.result b (c.from.ensures ∙ ap (λ (z : Parts). z.disp_at) p) in
    let t = c.split_at-2.ensures.back ∙ rest_is f bytes c.from-2.result b (c.from-2.ensures ∙ ap (λ (z : Parts). z.imm_at) p) in
    let e = copied f c.args.code.now c.split_at.result.0.now c.split_at-2.result.1.now c.put.new.self c.put_displacement.new.code c.put-2.new.self c.args.self.now.next (c.args.place + c.from-3.result) c.args.place a h t c.put.ensures (c.put_displacement.ensures.code f i b) c.put-2.ensures in
    omega (arith, ap length e, length-append c.args.code.now (copy_of f c.args.self.now.next c.args.place), copy_length f c.args.self.now.next c.args.place i, i.short)

pub returns-clause-code : goal.returns-clause-code
returns-clause-code c = λ f i b.
    let p = one_parts f c.args.self.now.bytes.now c.args.self.now.parts c.requires.spelled i b in
    let bytes = c.args.self.now.bytes.now in
    let a = ap (λ n. c.args.place + n) (c.from-3.ensures ∙ ap (λ (z : Parts). z.len) p) in
    let h = c.split_at.ensures.front ∙ front_is f bytes c.from.result b (c.from.ensures ∙ ap (λ (z : Parts). z.disp_at) p) in
    let t = c.split_at-2.ensures.back ∙ rest_is f bytes c.from-2.result b (c.from-2.ensures ∙ ap (λ (z : Parts). z.imm_at) p) in
    copied f c.args.code.now c.split_at.result.0.now c.split_at-2.result.1.now c.put.new.self c.put_displacement.new.code c.put-2.new.self c.args.self.now.next (c.args.place + c.from-3.result) c.args.place a h t c.put.ensures (c.put_displacement.ensures.code f i b) c.put-2.ensures
