use Rattle.std.proofs.Common.{◌==◌, List, ℕ, ap, ◌∙◌}
use Rattle.std.specs.Prelude.{count_by}
use Rattle.page_group.proofs.KeptGroupings.{depth_counted}
use Rattle.page_group.proofs.groups.Groups.depth.Goals as goal

pub returns : goal.returns
returns c =
    let kept = c.self.invariant in
    let group = c.args.group in
    rw (← c.self.view_is, depth_counted c.self.inside.pages.items c.self.inside.homes.items group kept.joined.size)
    (c.count_pages.ensures ∙ ap (λ (homes : List ℕ). count_by (λ home. home == group) homes) c.deref.ensures.value)
