use Rattle.page_group.proofs.KeptGroupings.{grouped}
use Rattle.page_group.proofs.groups.Groups.keeps.Goals as goal

pub returns : goal.returns
returns c = let kept = c.self.invariant in rw (← c.self.view_is) (grouped _ _ _ kept.listed kept.joined)
