use Rattle.std.proofs.Common.{arith}
use Rattle.length_decode.proofs.ByteLayouts.{layout_of, layouts, held_at}
use Rattle.length_decode.proofs.byte_tables.after_modrm.Goals as goal

pub returns : goal.returns
returns c = held_at layout_of _ c.args.modrm c.from.result _ layouts c.from.ensures (omega arith)
