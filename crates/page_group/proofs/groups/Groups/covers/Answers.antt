use Rattle.std.proofs.Common.{rules, tests}
use Rattle.std.proofs.lemmas.Iterator.{YieldsList-from_slice}
use Rattle.std.proofs.lemmas.Iterator.Search.{any_from_yields_List}
use Rattle.pun_base.specs.Ranges.{ends}
use Rattle.page_group.specs.Pages.{holds}
use Rattle.page_group.proofs.PageLists.{covered-ends}
use Rattle.page_group.proofs.groups.Groups.covers.Goals as goal

pub returns : goal.returns
returns c =
    let byte = c.args.byte in
    let found = any_from_yields_List (λ range. holds byte (ends range)) _ _ c.any.result c.any.ensures.ran (YieldsList-from_slice c.self.inside.pieces.items cc) (λ x b q k. search (rules, tests)) in
    rw (← c.self.view_is, covered-ends byte c.self.inside.pieces.items) found
