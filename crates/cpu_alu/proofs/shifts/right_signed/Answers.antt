use Rattle.cpu_alu.proofs.ShiftResults.{shifted_number, signed_value}
use Rattle.cpu_alu.proofs.shifts.right_signed.Goals as goal

pub returns : goal.returns
returns c =
    let a = c.args in
    cc (shifted_number a.number a.count c.ranges.number, signed_value a.width a.number a.count c.ranges.number)
