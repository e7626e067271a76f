use Rattle.start_entries.proofs.SpelledBytes.{are_code}
use Rattle.start_entries.proofs.laws.are_code.Goals as goal

pub returns : goal.returns
returns c = are_code
