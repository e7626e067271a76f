use Rattle.list_text.proofs.DigitSpellings.{added}
use Rattle.list_text.proofs.digits.with_digit.Goals as goal

pub returns : goal.returns
returns c = added c.args.base c.args.number c.from.result c.in_ok-value.value c.from-2.result c.in_ok-product.product _ _ _ c.in_ok-value.ensures c.from.ensures c.from-2.ensures c.in_ok-product.ensures.1 c.checked_add.ensures
