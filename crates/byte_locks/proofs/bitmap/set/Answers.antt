use Rattle.byte_locks.proofs.SetBits.{bit_set}
use Rattle.byte_locks.proofs.bitmap.set.Goals as goal

pub returns : goal.returns
returns c = λ other. bit_set c.args.words.now c.args.place other c.requires
