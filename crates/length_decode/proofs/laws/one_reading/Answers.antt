use Rattle.length_decode.proofs.ShapeAnswers.{one_parts, one_fields}
use Rattle.length_decode.proofs.laws.one_reading.Goals as goal

pub returns : goal.returns
returns c = record { parts = one_parts; fields = one_fields }
