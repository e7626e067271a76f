use Rattle.address_space.proofs.MarkedWords.{marked_by_bits}
use Rattle.address_space.proofs.marks.mark_bits.Goals as goal

pub returns-clause-marked : goal.returns-clause-marked
returns-clause-marked c = marked_by_bits c.args.words.now c.args.word c.ones.result c.args.low c.args.high c.requires.word c.requires.bits.1 c.ones.ensures
