use Rattle.std.proofs.Common.{◌≡◌, ◌*◌, ◌∙◌, ℕ, ap, arith}
use Rattle.std.proofs.lemmas.Int.{ints}
use Rattle.scheme_search.proofs.TargetBands.{far, served_within}
use Rattle.scheme_search.proofs.bands.next_stepped.Goals as goal

pub returns-then-x-to : goal.returns-then-x-to
returns-then-x-to c = record {
  least = omega arith;
  most = c.requires.ordered;
  none = λ y t low high f. absurd (omega (arith, low, high));
  found = λ below. absurd (omega (arith, below, c.if-x-to.true));
}

pub returns-in-Some : goal.returns-in-Some
returns-in-Some c =
    let w = c.args.way in
    let fit = c.in-Some.ensures.good in
    let from = fit.from in
    let before = fit.before in
    let d = far w.lo _ c.args.x (omega (arith, ints, from, c.above-low.ensures)) in
    let ends = c.bands_end.ensures in
    let whole : c.bands_end.result ≡ ends.multiple.0 * w.step = ends.multiple.1 ∙ ap (λ (s : ℕ). ends.multiple.0 * s) c.from-step.ensures in
    record {
      least = omega arith;
      most = c.requires.ordered;
      none = λ y t low high f. absurd (omega (arith, low, high));
      found = λ below. served_within c.args.space.now.taken w c.args.x _ d.0 ends.multiple.0 c.requires.stepped.each c.requires.way.step d.1 d.2
          (omega (arith, ints, before, c.above-high.ensures, c.saturating_sub.ensures, whole, d.1, d.2, ends.low, c.from-step.ensures, c.requires.way.width))
          (omega (arith, whole, ends.high, c.from-step.ensures)) fit.free;
    }
