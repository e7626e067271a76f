use Rattle.std.proofs.Common.{◌≡◌, pos, ◌+ℤ◌, ◌+◌, ◌*◌, ◌≤◌, w64, to_z, of_z, arith}
use Rattle.std.proofs.Math.Nat.{mul-le-mul_right}
use Rattle.std.proofs.lemmas.Int.{ints}
use Rattle.scheme_search.proofs.shared.band_fit.Goals as goal

pub least_fit_near-requires-clause-step : goal.least_fit_near-requires-clause-step
least_fit_near-requires-clause-step c =
    let some : 1 ≤ c.args.to = omega (arith, c.requires.ordered) in
    let way = c.requires.way in
    let once = mul-le-mul_right c.args.way.scale some in
    (omega (arith, way.scale), omega (arith, way.parts, once))

pub returns : goal.returns
returns c =
    let way = c.args.way in
    let low : to_z w64 (of_z w64 c.start_of-start.result) ≡ way.lo +ℤ pos (c.args.x * way.scale) =
    omega (arith, ints, c.start_of-start.ensures, c.start_of-start.type_inv) in
    let high : to_z w64 (of_z w64 c.end_of-end.result) ≡ way.lo +ℤ pos (c.args.to * way.scale + way.width) =
    omega (arith, ints, c.end_of-end.ensures, c.end_of-end.type_inv) in
    rw (low, high) at c.least_fit_near.ensures
