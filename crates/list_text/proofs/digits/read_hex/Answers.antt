use Rattle.std.proofs.Common.{get_or, sym, arith}
use Rattle.list_text.proofs.DigitSpellings.{hex_none, past_hex, stopped}
use Rattle.list_text.proofs.digits.read_hex.Goals as goal

pub returns-then-number-gt-HEX_MAX : goal.returns-then-number-gt-HEX_MAX
returns-then-number-gt-HEX_MAX c =
    let digits = c.args.digits.now in
    let n = c.loop-digit.number in
    let past = past_hex n (get_or digits c.loop-digit.digit-index 0) _ c.with_hex_digit-number.ensures.value (omega arith) in
    sym (hex_none digits (omega arith) (sym
    (stopped digits 16 4294967295 4294967296 n c.loop-digit.digit-index (omega arith) (omega arith) (omega arith) c.loop-digit.invariant.spelled past)))
