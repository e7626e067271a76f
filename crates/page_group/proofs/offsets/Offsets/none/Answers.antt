use Rattle.page_group.proofs.WordBits.{none_has}
use Rattle.page_group.proofs.offsets.Offsets.none.Goals as goal

pub returns : goal.returns
returns c = none_has 64
