use Rattle.cpu_alu.proofs.SumTotals.{sum_value, sum_carries, sum_half, sum_overflows}
use Rattle.cpu_alu.proofs.sums.sum.Goals as goal

pub returns : goal.returns
returns c =
    let a = c.args in
    let r = c.requires in
    cc (sum_value a.width a.x a.y a.carry, sum_carries a.width a.x a.y a.carry r.left r.right, sum_half a.x a.y a.carry, sum_overflows a.width a.x a.y a.carry r.left r.right)
