use Rattle.std.proofs.Common.{sym, ◌∙◌, arith}
use Rattle.list_text.proofs.DigitSpellings.{stopped}
use Rattle.list_text.proofs.digits.read_number.Goals as goal

pub returns-in_err-number : goal.returns-in_err-number
returns-in_err-number c =
    c.from_residual.ensures
    ∙ sym (stopped c.args.digits.now c.args.base c.args.most 18446744073709551616 c.loop-digit.number c.loop-digit.digit-index (omega arith) (omega arith) (omega arith) c.loop-digit.invariant (sym c.in_err-number.ensures))
