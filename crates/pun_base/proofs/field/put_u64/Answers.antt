use Rattle.std.proofs.Common.{◌+◌, ◌-◌, arith}
use Rattle.pun_base.proofs.FieldNumbers.{field-put_mid}
use Rattle.pun_base.proofs.field.put_u64.Goals as goal

pub returns-clause-reads : goal.returns-clause-reads
returns-clause-reads c =
    field-put_mid 8 c.args.at (c.args.at + 8 - c.args.at) c.args.value c.args.bytes.now _ c.write_u64.new.buf (omega arith) (omega arith) c.write_u64.ensures
