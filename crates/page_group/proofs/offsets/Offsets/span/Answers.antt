use Rattle.std.proofs.Common.{arith}
use Rattle.page_group.proofs.offsets.Offsets.span.Goals as goal

pub returns-clause-among : goal.returns-clause-among
returns-clause-among c = λ k t.
    let l = c.lowest.ensures.least k t in
    (omega arith, c.filled.ensures.above k t)
