use Rattle.std.proofs.Common.{ℕ, ◌++◌, List, sym, ap, ◌∙◌}
use Rattle.relocate_insn.proofs.CopiedOperations.{copied_by, not_branch}
use Rattle.relocate_insn.proofs.operand.Source.put_op.Goals as goal

pub returns-in_default : goal.returns-in_default
returns-in_default c = λ f i b.
    let w = c.in_default in
    let k = not_branch c.args.op.now w.not-Jcc w.not-Loop w.not-Jmp w.not-Call in
    c.put_copy.ensures.code f i b ∙ ap (λ (z : List ℕ). c.args.code.now ++ z) (sym (copied_by c.args.op.now c.args.private f c.args.self.now.next c.args.place k))
