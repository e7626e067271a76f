use Rattle.length_decode.proofs.ShapeAnswers.{decoded}
use Rattle.length_decode.proofs.laws.decoded.Goals as goal

pub returns : goal.returns
returns c = decoded
