use Rattle.std.proofs.Common.{◌≡◌, pos, ◌+ℤ◌, ◌+◌, ◌*◌, w64, to_z, of_z, inr, arith}
use Rattle.std.proofs.lemmas.Int.{ints}
use Rattle.scheme_search.proofs.MarkedValues.{fits_aside}
use Rattle.scheme_search.proofs.marked.mark_values.Goals as goal

pub returns : goal.returns
returns c =
    let way = c.args.way in
    let low : to_z w64 (of_z w64 way.lo) ≡ way.lo = omega (arith, ints, c.requires.way.low, c.requires.way.high) in
    let high : to_z w64 (of_z w64 c.end_of.result) ≡ way.lo +ℤ pos (c.args.to * way.scale + way.width) =
    omega (arith, ints, c.end_of.ensures, c.end_of.type_inv) in
    let marked = rw (low, high) at c.mark_places.ensures in
    λ y t less f. (marked y).1 (inr (fits_aside c.args.space.now.taken way c.args.to y t c.requires.each c.requires.few less f))
