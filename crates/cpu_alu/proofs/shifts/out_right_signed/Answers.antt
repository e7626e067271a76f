use Rattle.std.proofs.Common.{◌-◌}
use Rattle.cpu_alu.proofs.ShiftResults.{shifted_number, signed_carry}
use Rattle.cpu_alu.proofs.shifts.out_right_signed.Goals as goal

pub returns : goal.returns
returns c =
    let a = c.args in
    cc (shifted_number a.number (a.count - 1) c.ranges.number, signed_carry a.number a.count)
