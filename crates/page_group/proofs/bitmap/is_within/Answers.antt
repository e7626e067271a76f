use Rattle.page_group.proofs.WordBits.{within_bits}
use Rattle.page_group.proofs.bitmap.is_within.Goals as goal

pub returns : goal.returns
returns c = λ _. within_bits c.args.words.now c.args.others.now c.loop-index.index c.loop-index-test.false c.loop-index.invariant
