use Rattle.pun_base.proofs.PrivateLengths.{has_front}
use Rattle.pun_base.proofs.laws.private_bytes.Goals as goal

pub returns : goal.returns
returns c = has_front
