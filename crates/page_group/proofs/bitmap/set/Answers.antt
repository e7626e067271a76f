use Rattle.std.proofs.Common.{arith}
use Rattle.page_group.proofs.WordBits.{bit_added}
use Rattle.page_group.proofs.bitmap.set.Goals as goal

pub returns : goal.returns
returns c = λ k. bit_added c.args.words.now c.args.place k (omega arith)
