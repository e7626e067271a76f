use Rattle.length_decode.proofs.ShapeAnswers.{prefix_free}
use Rattle.length_decode.proofs.laws.prefix_free.Goals as goal

pub returns : goal.returns
returns c = prefix_free
