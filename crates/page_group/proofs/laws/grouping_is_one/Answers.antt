use Rattle.page_group.proofs.Groupings.{grouping_is_one}
use Rattle.page_group.proofs.laws.grouping_is_one.Goals as goal

pub returns : goal.returns
returns c = grouping_is_one
