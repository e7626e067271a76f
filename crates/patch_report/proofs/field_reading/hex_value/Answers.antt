use Rattle.std.proofs.Common.{arith}
use Rattle.patch_report.proofs.HexDigits.{table_is}
use Rattle.patch_report.proofs.field_reading.hex_value.Goals as goal

pub returns-then-value-lt16-clause-value : goal.returns-then-value-lt16-clause-value
returns-then-value-lt16-clause-value c = (table_is c.args.digit c.from.result c.from.ensures (omega arith)).0 c.if-value-lt16.true

pub returns-else-value-lt16-clause-value : goal.returns-else-value-lt16-clause-value
returns-else-value-lt16-clause-value c = (table_is c.args.digit c.from.result c.from.ensures (omega arith)).1 c.if-value-lt16.false
