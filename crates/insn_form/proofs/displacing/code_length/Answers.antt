use Rattle.std.proofs.Common.{◌≤◌, subst}
use Rattle.insn_form.specs.Displacing.{insn_tail}
use Rattle.insn_form.proofs.CallOperands.{tail_few}
use Rattle.insn_form.proofs.displacing.code_length.Goals as goal

pub op_length-requires-clause-tail : goal.op_length-requires-clause-tail
op_length-requires-clause-tail c = subst (λ z. insn_tail z ≤ 6) c.in-Exact.is (tail_few c.args.insn.now c.args.len c.requires)
