use Rattle.std.proofs.Common.{◌≡◌, get_or, arith}
use Rattle.std.proofs.lemmas.Bool.Decides.{nat_tests}
use Rattle.list_text.proofs.PlainLines.{IsRead, plain_line}
use Rattle.list_text.proofs.lists.read_plain.Goals as goal
use Rattle.list_text.proofs.lists.read_plain.Goals.{Else-number-gt-HEX_MAX}

is_read : (c : Else-number-gt-HEX_MAX) → IsRead c.args.text.now c.with_hex_digit-number-8.result
is_read c =
    let end : get_or c.args.text.now 8 0 ≡ 10 = grind (arith, nat_tests) in
    plain_line c.args.text.now _ _ _ _ _ _ _ _ c.in-len9-up.len_at_least end
    c.with_hex_digit-number.ensures.value c.with_hex_digit-number-2.ensures.value c.with_hex_digit-number-3.ensures.value c.with_hex_digit-number-4.ensures.value
    c.with_hex_digit-number-5.ensures.value c.with_hex_digit-number-6.ensures.value c.with_hex_digit-number-7.ensures.value c.with_hex_digit-number-8.ensures.value
    (omega arith)

pub returns-clause-number : goal.returns-clause-number
returns-clause-number c = (is_read c).number

pub returns-clause-later : goal.returns-clause-later
returns-clause-later c = (is_read c).later
