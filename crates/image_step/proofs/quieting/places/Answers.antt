use Rattle.image_step.proofs.InstructionByteSearch.{first_end}
use Rattle.image_step.proofs.quieting.places.Goals as goal

pub returns-clause-order : goal.returns-clause-order
returns-clause-order c =
    first_end c.args.entries.now c.args.addr c.count_below-first.result c.count_below-end.result c.count_below-first.ensures.parted c.count_below-end.ensures.parted
    c.count_below-first.ensures.bound
