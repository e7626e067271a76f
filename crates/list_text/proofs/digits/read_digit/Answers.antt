use Rattle.list_text.proofs.DigitSpellings.{digit_is}
use Rattle.list_text.proofs.digits.read_digit.Goals as goal

pub returns : goal.returns
returns c = digit_is c.args.base c.args.digit _ _ c.from.ensures c.requires.high c.to_digit.ensures.value
