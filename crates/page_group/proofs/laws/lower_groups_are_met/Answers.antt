use Rattle.page_group.proofs.Groupings.{lower_groups_are_met}
use Rattle.page_group.proofs.laws.lower_groups_are_met.Goals as goal

pub returns : goal.returns
returns c = lower_groups_are_met
