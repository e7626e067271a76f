use Rattle.std.proofs.Common.{arith}
use Rattle.length_decode.specs.Prefix.{is_prefix}
use Rattle.length_decode.proofs.ByteLayouts.{prefixes, held_at}
use Rattle.length_decode.proofs.byte_tables.is_prefix.Goals as goal

pub returns : goal.returns
returns c = held_at is_prefix _ c.args.byte c.from.result _ prefixes c.from.ensures (omega arith)
