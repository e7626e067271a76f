use Rattle.address_space.proofs.MarkedWords.{ones_between}
use Rattle.address_space.proofs.marks.ones.Goals as goal

pub returns : goal.returns
returns c = λ k. ones_between c.args.low c.args.high k c.requires.0 c.requires.1
