use Rattle.page_group.proofs.Groupings.{no_group_is_empty}
use Rattle.page_group.proofs.laws.no_group_is_empty.Goals as goal

pub returns : goal.returns
returns c = no_group_is_empty
