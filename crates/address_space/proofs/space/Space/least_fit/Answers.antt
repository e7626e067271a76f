use Rattle.std.proofs.Common.{◌≡◌, to_z, of_z, w64, arith}
use Rattle.std.proofs.lemmas.Int.{ints}
use Rattle.address_space.proofs.EquivalentSearches.{least_of_one}
use Rattle.address_space.proofs.space.Space.least_fit.Goals as goal

pub returns : goal.returns
returns c =
    let lo : to_z w64 (of_z w64 c.args.lo) ≡ c.args.lo = omega (arith, ints) in
    let hi : to_z w64 (of_z w64 c.args.hi) ≡ c.args.hi = omega (arith, ints) in
    least_of_one c.args.self.now.taken c.args.lo c.args.hi c.args.size c.args.avoid c.least_fit_step.result (rw (lo, hi) at c.least_fit_step.ensures)
