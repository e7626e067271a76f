use Rattle.std.proofs.Common.{◌<◌, arith}
use Rattle.address_space.specs.Marks.{IsBetween, IsRemainder}
use Rattle.address_space.proofs.MarkedWords.{marked_by_both}
use Rattle.address_space.proofs.Remainders.{remainders_are}
use Rattle.address_space.proofs.marks.mark_remainders.Goals as goal

pub returns-clause-marked : goal.returns-clause-marked
returns-clause-marked c =
    let begin = c.remainder-begin.result in
    let some : 0 < c.args.count = omega (arith, c.requires.few) in
    marked_by_both c.args.words.now c.mark.new.words c.mark-2.new.words (IsBetween begin c.min.result) (IsBetween 0 c.min-2.result)
    (IsRemainder c.args.low c.args.high c.args.count) c.mark.ensures.marked c.mark-2.ensures.marked
    (λ m. remainders_are c.args.low c.args.high c.args.count begin c.min.result c.min-2.result m some c.requires.ordered.0
    c.remainder-begin.ensures (omega (arith, c.min.ensures)) (omega (arith, c.min-2.ensures, c.saturating_sub.ensures)))
