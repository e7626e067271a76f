use Rattle.std.proofs.Common.{arith, ◌≤◌, subst, sym}
use Rattle.list_text.proofs.PlainLines.{value_at, value_small}
use Rattle.list_text.proofs.digits.hex_value.Goals as goal

pub returns-clause-value : goal.returns-clause-value
returns-clause-value c = value_at c.args.digit c.from.result _ c.from.ensures (omega arith)

pub returns-clause-bound : goal.returns-clause-bound
returns-clause-bound c = subst (λ z. z ≤ 4294967296) (sym (value_at c.args.digit c.from.result _ c.from.ensures (omega arith))) (value_small c.args.digit)
