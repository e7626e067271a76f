use Rattle.std.proofs.Common.{arith}
use Rattle.std.proofs.lemmas.Bool.{leb-true}
use Rattle.image_check.proofs.SkippedSpans.{begins_at}
use Rattle.image_check.proofs.near.begin_from.Goals as goal

pub returns : goal.returns
returns g c t =
    let k = c.if-place-items.false in
    begins_at g.T.Located.first c.args.items.now c.args.place c.args.addr c.index-items-place.result c.index-items-place.result c.first.result (omega arith)
    c.index-items-place.is c.first.ensures c.requires.rises (leb-true c.args.addr c.first.result t)
