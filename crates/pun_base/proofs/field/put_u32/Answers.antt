use Rattle.std.proofs.Common.{◌+◌, ◌-◌, arith}
use Rattle.pun_base.proofs.FieldNumbers.{field-put_mid}
use Rattle.pun_base.proofs.field.put_u32.Goals as goal

pub returns-clause-reads : goal.returns-clause-reads
returns-clause-reads c =
    field-put_mid 4 c.args.at (c.args.at + 4 - c.args.at) c.args.value c.args.bytes.now _ c.write_u32.new.buf (omega arith) (omega arith) c.write_u32.ensures
