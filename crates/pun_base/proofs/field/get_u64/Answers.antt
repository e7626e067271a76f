use Rattle.std.proofs.Common.{rules, ap, ◌∙◌}
use Rattle.byteorder.specs.Endian.{little_bytes}
use Rattle.pun_base.proofs.FieldNumbers.{little_bytes-field, little_number-part}
use Rattle.pun_base.proofs.field.get_u64.Goals as goal

pub returns-clause-spelled : goal.returns-clause-spelled
returns-clause-spelled c =
    ap (little_bytes 8) (c.read_u64.ensures ∙ little_number-part 8 c.args.at c.args.bytes.now c.requires)
    ∙ little_bytes-field 8 c.args.at c.args.bytes.now c.requires (search rules)
