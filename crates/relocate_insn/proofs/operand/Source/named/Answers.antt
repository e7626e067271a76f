use Rattle.std.proofs.Common.{sym, ap, ◌∙◌}
use Rattle.length_decode.specs.declared.instruction_parts.Parts.{Parts}
use Rattle.insn_form.specs.Classes.{has_rip}
use Rattle.relocate_insn.proofs.InstructionParts.{one_parts, rip_ends, named_is}
use Rattle.relocate_insn.proofs.operand.Source.named.Goals as goal

pub named_at-requires : goal.named_at-requires
named_at-requires c =
    let s = c.requires.spelled in
    let h = sym (ap has_rip s.divided) ∙ c.requires.rip in
    rip_ends s.fields c.args.self.now.bytes.now c.from.result s.is h s.spelled (c.from.ensures ∙ ap (λ (z : Parts). z.disp_at) s.divided)

pub returns : goal.returns
returns c = λ f i b.
    let p = one_parts f c.args.self.now.bytes.now c.args.self.now.parts c.requires.spelled i b in
    let h = sym (ap has_rip p) ∙ c.requires.rip in
    named_is f c.args.self.now.bytes.now c.from.result c.args.self.now.next c.named_at.result i h b (c.from.ensures ∙ ap (λ (z : Parts). z.disp_at) p) c.named_at.ensures
