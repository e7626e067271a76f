use Rattle.cpu_alu.proofs.SumTotals.{difference_value, difference_carries, difference_half, difference_overflows}
use Rattle.cpu_alu.proofs.sums.difference.Goals as goal

pub returns : goal.returns
returns c =
    let a = c.args in
    let r = c.requires in
    cc (difference_value a.width a.x a.y a.borrow r.left r.right, difference_carries a.width a.x a.y a.borrow r.left r.right, difference_half a.x a.y a.borrow, difference_overflows a.width a.x a.y a.borrow r.left r.right)
