use Rattle.std.proofs.Common.{Bool, ◌++◌, sym, ap, ◌∙◌}
use Rattle.relocate_insn.specs.Pieces.{ecx_code}
use Rattle.relocate_insn.specs.Relocating.{copy_of, asked_code}
use Rattle.relocate_insn.proofs.InstructionParts.{grown}
use Rattle.relocate_insn.proofs.operand.Source.put_asked.Goals as goal

pub returns-then-form : goal.returns-then-form
returns-then-form c = λ f i b.
    let next = c.args.self.now.next in
    let copy = copy_of f next c.args.place in
    grown c.args.code.now copy (ecx_code next) c.put_copy.new.code c.put_ecx.new.self (c.put_copy.ensures.code f i b) c.put_ecx.ensures
    ∙ ap (λ (z : Bool). c.args.code.now ++ asked_code z copy next) (sym c.if-form.true)

pub returns-else-form : goal.returns-else-form
returns-else-form c = λ f i b.
    let next = c.args.self.now.next in
    c.put_copy.ensures.code f i b ∙ ap (λ (z : Bool). c.args.code.now ++ asked_code z (copy_of f next c.args.place) next) (sym c.if-form.false)
