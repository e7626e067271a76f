use Rattle.std.proofs.Common.{◌∙◌, sym}
use Rattle.page_group.proofs.KeptGroupings.{counted}
use Rattle.page_group.proofs.groups.Groups.count.Goals as goal

pub returns : goal.returns
returns c =
    let kept = c.self.invariant in
    rw (← c.self.view_is) (kept.counted ∙ sym (counted c.self.inside.pages.items c.self.inside.homes.items kept.joined.size))
