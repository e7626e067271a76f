use Rattle.std.proofs.Common.{◌≡◌, ◌*◌, ℕ, refl, ap, arith}
use Rattle.std.proofs.lemmas.Grind.{div_ceil_times}
use Rattle.std.specs.Int.{div_ceil}
use Rattle.scheme_search.proofs.bands.bands_end.Goals as goal

pub returns-clause-multiple : goal.returns-clause-multiple
returns-clause-multiple c = (c.div_ceil.result, refl)

pub returns-clause-low : goal.returns-clause-low
returns-clause-low c =
    let bounds = div_ceil_times c.args.width c.args.step (omega (arith, c.requires.step.0)) in
    let e : c.div_ceil.result * c.args.step ≡ div_ceil c.args.width c.args.step * c.args.step =
    ap (λ (n : ℕ). n * c.args.step) c.div_ceil.ensures in
    omega (arith, bounds.0, e)

pub returns-clause-high : goal.returns-clause-high
returns-clause-high c =
    let bounds = div_ceil_times c.args.width c.args.step (omega (arith, c.requires.step.0)) in
    let e : c.div_ceil.result * c.args.step ≡ div_ceil c.args.width c.args.step * c.args.step =
    ap (λ (n : ℕ). n * c.args.step) c.div_ceil.ensures in
    omega (arith, bounds.1, e)
