use Rattle.page_group.proofs.Groupings.{groups_are_few}
use Rattle.page_group.proofs.laws.groups_are_few.Goals as goal

pub returns : goal.returns
returns c = groups_are_few
