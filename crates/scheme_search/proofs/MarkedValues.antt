-- Free targets by shared value, as places whose distances from the lowest target are marked.
use Rattle.std.proofs.Common.{◌≡◌, ℕ, ℤ, pos, ◌+ℤ◌, ◌≤ℤ◌, ◌+◌, ◌*◌, ◌<◌, ◌≤◌, List, None, ap, subst, ◌∙◌, arith}
use Rattle.std.proofs.lemmas.Int.{ints}
use Rattle.address_space.specs.declared.extent.Extent.{Extent}
use Rattle.address_space.specs.Fit.{Fits, FitsAside, Steps}
use Rattle.scheme_search.specs.declared.shared.Way.{Way}
use Rattle.scheme_search.specs.Shared.{FitsWay}
use Rattle.scheme_search.proofs.UnservedValues.{whole}

-- What lies at or above the lowest target of the value 0 lies at or above the low end.
from_lowest : (lo : ℤ) (scale t : ℕ) → (lo +ℤ pos (0 * scale)) ≤ℤ pos t → lo ≤ℤ pos t
from_lowest lo scale t h = omega (arith, ints, h)

-- A free target of a value before another one fits in the window of them all.
fits_before : (taken : List Extent) (w : Way) (to y t : ℕ) → y < to → FitsWay taken w y t
    → Fits taken w.lo (w.lo +ℤ pos (to * w.scale + w.width)) w.size None t
fits_before taken w to y t less f =
    let low : 0 ≤ y = omega arith in
    let fits = (whole taken w 0 to y t low less f).fits in
    record { from = from_lowest w.lo w.scale t fits.from; before = fits.before; free = fits.free; away = tt }

-- Where values lie one address apart, a free target of a value lies whole steps above the one so far above the low end.
pub fits_aside : (taken : List Extent) (w : Way) (to y t : ℕ) → w.scale ≡ 1 → to ≤ w.step → y < to → FitsWay taken w y t
    → FitsAside taken w.lo (w.lo +ℤ pos (to * w.scale + w.width)) w.step w.size y
fits_aside taken w to y t each few less f =
    let unit : y * 1 ≡ y = omega arith in
    let one : y * w.scale ≡ y = ap (λ (s : ℕ). y * s) each ∙ unit in
    record {
      less = omega (arith, less, few);
      place = t;
      fits = fits_before taken w to y t less f;
      steps = subst (λ (a : ℕ). Steps (w.lo +ℤ pos a) w.step t) one f.target.0;
    }
