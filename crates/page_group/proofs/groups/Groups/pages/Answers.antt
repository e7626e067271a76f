use Rattle.std.proofs.Common.{◌∙◌, sym}
use Rattle.std.proofs.lemmas.Slice.Zip.{firsts-zip}
use Rattle.page_group.proofs.groups.Groups.pages.Goals as goal

pub returns-clause-value : goal.returns-clause-value
returns-clause-value c =
    let kept = c.self.invariant in
    rw (← c.self.view_is) (c.deref.ensures.value ∙ sym (firsts-zip c.self.inside.pages.items c.self.inside.homes.items kept.joined.size))
