use Rattle.std.proofs.Common.{length, arith}
use Rattle.image_step.proofs.InstructionByteSearch.{clear}
use Rattle.image_step.proofs.quieting.are_apart.Goals as goal

pub returns-then-begin_below : goal.returns-then-begin_below
returns-then-begin_below c = λ t.
    clear c.args.entries.now c.args.addr c.args.end (length c.args.entries.now) c.requires.short (c.begin_below.ensures c.if-begin_below.true) (λ k d u v. absurd (omega arith))

pub returns : goal.returns
returns c = λ t.
    clear c.args.entries.now c.args.addr c.args.end c.count_below.result c.requires.short (c.begin_below-2.ensures t) c.count_below.ensures.parted.1
