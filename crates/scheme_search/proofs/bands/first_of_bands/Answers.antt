use Rattle.std.proofs.Common.{◌≡◌, ◌+◌, ◌-◌, ◌*◌, ◌∙◌, ◌<◌, ℕ, ap, inl, inr, subst, arith}
use Rattle.std.proofs.Math.Nat.{add-mul}
use Rattle.std.proofs.lemmas.Bool.{cases_lt}
use Rattle.scheme_search.specs.Shared.{FitsWay}
use Rattle.scheme_search.proofs.TargetBands.{in_band, band_ends, near_at, passed_over, target_at, within_bands}
use Rattle.scheme_search.proofs.bands.first_of_bands.Goals as goal

pub loop-band-init : goal.loop-band-init
loop-band-init c = record {
  some = c.requires.ordered;
  top = omega arith;
  near = c.requires.stepped.near;
  found = λ l. absurd (omega (arith, l));
  whole = (0, omega arith);
  none = λ k y l a b o. absurd (omega (arith, l));
}

pub loop-band-preserved : goal.loop-band-preserved
loop-band-preserved c =
    let w = c.args.way in
    let taken = c.args.space.now.taken in
    let h = c.loop-band.invariant in
    let d = c.in-Some.d in
    let fit = c.in-Some.ensures.good in
    let next = c.band_of-next.result in
    let e = c.from-step.ensures in
    let p = c.band_of-next.ensures in
    let m = c.min-best.ensures in
    let ends = c.bands_end-end.ensures in
    let multiple : next ≡ p.multiple.0 * w.step = p.multiple.1 ∙ ap (λ (s : ℕ). p.multiple.0 * s) e in
    let end : c.bands_end-end.result ≡ ends.multiple.0 * w.step = ends.multiple.1 ∙ ap (λ (s : ℕ). ends.multiple.0 * s) e in
    let inside : p.multiple.0 * w.step < w.width =
    within_bands p.multiple.0 ends.multiple.0 w.step w.width (omega (arith, p.low, fit.below, multiple, end)) (omega (arith, ends.high, end, e)) in
    record {
      some = omega (arith, m, p.low, h.some, c.if-d-least.false);
      top = omega (arith, m, h.top);
      near = omega (arith, m, h.near);
      found = λ below. elim (cases_lt (d - next) c.loop-band.best) [
        | inl less ↦
            let same : d - next ≡ c.min-best.result = omega (arith, m, less) in (
              fit.there.place,
              subst (λ (y : ℕ). FitsWay taken w y fit.there.place) same
                  (target_at taken w (d - next) p.multiple.0 d c.requires.stepped.each inside (omega (arith, p.low, multiple)) fit.there),
            )
        | inr more ↦
            let same : c.loop-band.best ≡ c.min-best.result = omega (arith, m, more) in
            let old = h.found (omega (arith, below, same)) in
            (old.0, subst (λ (y : ℕ). FitsWay taken w y old.0) same old.1)
      ];
      whole = (p.multiple.0 + 1, omega (arith, multiple, e, add-mul p.multiple.0 1 w.step));
      none = λ k y l a b o. elim (cases_lt (k * w.step) c.loop-band.band) [
        | inl q ↦ h.none k y q a (omega (arith, m, b)) o
        | inr q ↦ passed_over taken w c.args.x c.loop-band.band (c.bands_end-end.result + c.args.x)
            (c.loop-band.best - c.args.x) d next h.whole.0 p.multiple.0 c.requires.way.step h.whole.1 c.in-Some.ensures p.low
            (omega (arith, p.high, e)) multiple k y q (omega (arith, l, e)) a (omega (arith, b, m, h.near)) (omega (arith, b, m, h.some))
            (omega (arith, b, m)) o
      ];
    }

pub returns-then-d-least : goal.returns-then-d-least
returns-then-d-least c =
    let w = c.args.way in
    let fit = c.in-Some.ensures.good in
    let e = c.from-step.ensures in
    let p = c.band_of-next.ensures in
    let ends = c.bands_end-end.ensures in
    let multiple : c.band_of-next.result ≡ p.multiple.0 * w.step = p.multiple.1 ∙ ap (λ (s : ℕ). p.multiple.0 * s) e in
    let end : c.bands_end-end.result ≡ ends.multiple.0 * w.step = ends.multiple.1 ∙ ap (λ (s : ℕ). ends.multiple.0 * s) e in
    let inside : p.multiple.0 * w.step < w.width =
    within_bands p.multiple.0 ends.multiple.0 w.step w.width (omega (arith, p.low, fit.below, multiple, end)) (omega (arith, ends.high, end, e)) in
    record {
      least = omega arith;
      most = omega (arith, c.requires.ordered);
      none = λ y t low high f. absurd (omega (arith, low, high));
      found = λ below. (
        fit.there.place,
        target_at c.args.space.now.taken w c.args.x p.multiple.0 c.in-Some.d c.requires.stepped.each inside
            (omega (arith, c.if-d-least.true, multiple)) fit.there,
      );
    }

pub returns-in-None : goal.returns-in-None
returns-in-None c =
    let w = c.args.way in
    let h = c.loop-band.invariant in
    let ends = c.bands_end-end.ensures in
    let multiple : c.bands_end-end.result ≡ ends.multiple.0 * w.step =
    ends.multiple.1 ∙ ap (λ (s : ℕ). ends.multiple.0 * s) c.from-step.ensures in
    record {
      least = omega (arith, h.some);
      most = h.top;
      none = λ y t l m f.
          let b = in_band c.args.space.now.taken w y t c.requires.stepped.each f in
          let under = band_ends b.index ends.multiple.0 w.step w.width b.inside (omega (arith, ends.low, multiple)) in
          elim (cases_lt (b.index * w.step) c.loop-band.band) [
            | inl q ↦ h.none b.index y q l m b.there
            | inr q ↦ c.in-None.ensures (b.index * w.step + y)
                (near_at c.args.space.now.taken w c.args.x c.loop-band.band (c.bands_end-end.result + c.args.x) (c.loop-band.best - c.args.x)
                b.index y h.whole.0 c.requires.way.step h.whole.1 q l (omega (arith, m, h.some)) (omega (arith, under, multiple, m, h.near))
                b.there)
          ];
      found = h.found;
    }

pub returns : goal.returns
returns c =
    let h = c.loop-band.invariant in
    record {
      least = omega (arith, h.some);
      most = h.top;
      none = λ y t l m f.
          let b = in_band c.args.space.now.taken c.args.way y t c.requires.stepped.each f in
          let n = c.loop-band-test.false in
          h.none b.index y (omega (arith, b.inside, n, c.bands_end-end.ensures.low)) l m b.there;
      found = h.found;
    }
