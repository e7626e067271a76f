use Rattle.std.proofs.Common.{arith}
use Rattle.insn_tables.proofs.TableAgreement.{row_at, one_byte, two_byte, byte_38, byte_3a, vex_1, vex_2, vex_3}
use Rattle.insn_tables.proofs.maps.row.Goals as goal

pub returns-in-0 : goal.returns-in-0
returns-in-0 g c = row_at _ g.row.MAP 0 c.args.byte c.from-place.result _ one_byte (omega arith) c.from-place.ensures (omega arith)

pub returns-in-1 : goal.returns-in-1
returns-in-1 g c = row_at _ g.row.MAP 1 c.args.byte c.from-place.result _ two_byte (omega arith) c.from-place.ensures (omega arith)

pub returns-in-2 : goal.returns-in-2
returns-in-2 g c = row_at _ g.row.MAP 2 c.args.byte c.from-place.result _ byte_38 (omega arith) c.from-place.ensures (omega arith)

pub returns-in-3 : goal.returns-in-3
returns-in-3 g c = row_at _ g.row.MAP 3 c.args.byte c.from-place.result _ byte_3a (omega arith) c.from-place.ensures (omega arith)

pub returns-in-4 : goal.returns-in-4
returns-in-4 g c = row_at _ g.row.MAP 4 c.args.byte c.from-place.result _ vex_1 (omega arith) c.from-place.ensures (omega arith)

pub returns-in-5 : goal.returns-in-5
returns-in-5 g c = row_at _ g.row.MAP 5 c.args.byte c.from-place.result _ vex_2 (omega arith) c.from-place.ensures (omega arith)

pub returns-in-6 : goal.returns-in-6
returns-in-6 g c = row_at _ g.row.MAP 6 c.args.byte c.from-place.result _ vex_3 (omega arith) c.from-place.ensures (omega arith)
