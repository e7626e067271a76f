use Rattle.std.proofs.Common.{pos, ◌+ℤ◌, refl, arith}
use Rattle.std.proofs.lemmas.Int.{ints}
use Rattle.scheme_search.proofs.TargetBands.{fits_of, open_least}
use Rattle.scheme_search.proofs.bands.least_open.Goals as goal

pub returns-in-None : goal.returns-in-None
returns-in-None c = λ d o. c.in-None.ensures o.there.place
    (fits_of c.args.space.now.taken c.args.way c.args.low c.args.high c.args.width d (c.args.way.lo +ℤ pos c.args.low)
    (c.args.way.lo +ℤ pos c.args.high) refl refl o)

pub returns-in-Some : goal.returns-in-Some
returns-in-Some c =
    open_least c.args.space.now.taken c.args.way c.args.low c.args.high c.args.width c.in-Some.t c.gap.result
    (c.args.way.lo +ℤ pos c.args.low) (c.args.way.lo +ℤ pos c.args.high) refl refl c.in-Some.ensures (omega (arith, ints, c.gap.ensures))
