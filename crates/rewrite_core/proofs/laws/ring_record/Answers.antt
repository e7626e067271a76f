use Rattle.rewrite_core.proofs.RingRecords.{ring_tells}
use Rattle.rewrite_core.proofs.laws.ring_record.Goals as goal

pub returns : goal.returns
returns c = ring_tells
