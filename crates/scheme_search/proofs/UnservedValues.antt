-- The least free target of many shared values: its own value, and those below it, which have none.
use Rattle.std.proofs.Common.{◌≡◌, ℕ, ℤ, pos, ◌+ℤ◌, ◌≤ℤ◌, ◌<ℤ◌, ◌+◌, ◌-◌, ◌*◌, ◌/◌, ◌<◌, ◌≤◌, List, None, ap, sym, ◌∙◌, arith}
use Rattle.std.proofs.Math.Nat.{mul-le-mul_right, add-mul, div-mul-le_self}
use Rattle.std.proofs.lemmas.Int.{ints}
use Rattle.std.proofs.lemmas.Nat.{div-mul-add}
use Rattle.address_space.specs.declared.extent.Extent.{Extent}
use Rattle.pun_base.specs.Least.{IsLeast}
use Rattle.address_space.specs.Fit.{FitsNear, FitsStep}
use Rattle.scheme_search.specs.declared.shared.Way.{Way}
use Rattle.scheme_search.specs.Shared.{FitsWay}
use Rattle.scheme_search.proofs.TargetBands.{within_width, from_value}

-- Where a part begins and ends, seen from the way's low end.
within : (lo : ℤ) (a k b t : ℕ) → pos t ≡ (lo +ℤ pos a) +ℤ pos k → pos t <ℤ (lo +ℤ pos b)
    → (d : ℕ) × (pos t ≡ lo +ℤ pos d) × (a ≤ d) × (d < b)
within lo a k b t e h = (a + k, omega (arith, ints), omega arith, omega (arith, ints))

-- A place above a part's begin lies a number of ones above it.
steps_of : (lo : ℤ) (a t d : ℕ) → pos t ≡ lo +ℤ pos d → a ≤ d → (k : ℕ) × (pos t ≡ (lo +ℤ pos a) +ℤ pos (k * 1))
steps_of lo a t d e h = (d - a, omega (arith, ints))

-- A place in a part lies before its end.
below : (lo : ℤ) (t d b : ℕ) → pos t ≡ lo +ℤ pos d → d < b → pos t <ℤ (lo +ℤ pos b)
below lo t d b e h = omega (arith, ints)

-- A place in a part lies at its begin or above it.
above : (lo : ℤ) (t d a : ℕ) → pos t ≡ lo +ℤ pos d → a ≤ d → (lo +ℤ pos a) ≤ℤ pos t
above lo t d a e h = omega (arith, ints)

-- A target some steps above a value's lowest one, seen from that of a first value.
from_first : (lo : ℤ) (a b c k t : ℕ) → pos t ≡ (lo +ℤ pos b) +ℤ pos k → c + a ≡ b → pos t ≡ (lo +ℤ pos a) +ℤ pos (c + k)
from_first lo a b c k t e p = omega (arith, ints)

-- Two distances from the low end to one place.
same_distance : (lo : ℤ) (t d a p : ℕ) → pos t ≡ lo +ℤ pos d → pos t ≡ (lo +ℤ pos a) +ℤ pos p → d ≡ a + p
same_distance lo t d a p e f = omega (arith, ints)

module _ (taken : List Extent) (w : Way) (x t : ℕ) where
  -- A free target of one value, as a search for it sees it.
  abbrev pub FitsValue : Type 0
  FitsValue = FitsStep taken (w.lo +ℤ pos (x * w.scale)) (w.lo +ℤ pos (x * w.scale + w.width)) w.step w.size None t

  pub as_fit : FitsWay taken w x t → FitsValue
  as_fit f =
      let at = f.target.0.1 in
      record { fits = record { from = omega (arith, ints, at); before = f.target.1; free = f.free; away = tt }; steps = f.target.0 }

  pub of_fit : FitsValue → FitsWay taken w x t
  of_fit f = record { target = (f.steps, f.fits.before); free = f.fits.free }

module _ (taken : List Extent) (w : Way) (x to : ℕ) where
  -- A free target of the values from x to the last one, seen as one window.
  abbrev pub FitsParts : ℕ → Type 0
  FitsParts t = FitsStep taken (w.lo +ℤ pos (x * w.scale)) (w.lo +ℤ pos (to * w.scale + w.width)) 1 w.size None t

  -- A free target of a value between is one of them all.
  pub whole : (y t : ℕ) → x ≤ y → y < to → FitsWay taken w y t → FitsParts t
  whole y t low high f =
      let d = within w.lo (y * w.scale) (f.target.0.0 * w.step) (y * w.scale + w.width) t f.target.0.1 f.target.1 in
      let up : y ≤ to = omega arith in
      let p = mul-le-mul_right w.scale low in
      let q = mul-le-mul_right w.scale up in
      record {
        fits = record {
          from = above w.lo t d.0 (x * w.scale) d.1 (omega (arith, d.2, p));
          before = below w.lo t d.0 (to * w.scale + w.width) d.1 (omega (arith, d.3, q));
          free = f.free;
          away = tt;
        };
        steps = steps_of w.lo (x * w.scale) t d.0 d.1 (omega (arith, d.2, p));
      }

  -- The same as one in the band of its value.
  abbrev pub FitsBands : ℕ → Type 0
  FitsBands t = FitsNear taken (w.lo +ℤ pos (x * w.scale)) (w.lo +ℤ pos (to * w.scale + w.width)) w.scale w.width w.size t

  -- A free target of a value between is one of these.
  pub banded : (y t : ℕ) → x ≤ y → y < to → FitsWay taken w y t → FitsBands t
  banded y t low high f =
      let back : y - x + x ≡ y = omega (arith, low) in
      let parts : (y - x) * w.scale + x * w.scale ≡ y * w.scale = sym (add-mul (y - x) x w.scale) ∙ ap (λ (n : ℕ). n * w.scale) back in
      record {
        fits = (whole y t low high f).fits;
        near = record {
          steps = y - x;
          more = f.target.0.0 * w.step;
          few = within_width w.lo (y * w.scale) (f.target.0.0 * w.step) w.width t f.target.0.1 f.target.1;
          is = from_first w.lo (x * w.scale) (y * w.scale) ((y - x) * w.scale) (f.target.0.0 * w.step) t f.target.0.1 parts;
        };
      }

  module _ (bands : w.width ≤ w.scale) (t0 d0 : ℕ) (fit : IsLeast FitsBands t0) (at : pos t0 ≡ w.lo +ℤ pos d0) where
    -- Places are ordered as their distances from the low end.
    ordered : (t d : ℕ) → pos t ≡ w.lo +ℤ pos d → t0 ≤ t → d0 ≤ d
    ordered t d e h = omega (arith, ints)

    -- No value before that of the least free place has one.
    pub none_before : (y t : ℕ) → x ≤ y → y < d0 / w.scale → y < to → FitsWay taken w y t → ⊥
    none_before y t low high top f =
        let d = within w.lo (y * w.scale) (f.target.0.0 * w.step) (y * w.scale + w.width) t f.target.0.1 f.target.1 in
        let least = ordered t d.0 d.1 (fit.least t (banded y t low top f)) in
        let up : y + 1 ≤ d0 / w.scale = omega arith in
        omega (arith, least, d.3, mul-le-mul_right w.scale up, add-mul y 1 w.scale, div-mul-le_self d0 w.scale)

    -- The place lies in the band of a value that isn't below the first one.
    band_is : d0 / w.scale ≡ x + fit.good.near.steps
    band_is =
        let n = fit.good.near in
        let parts = same_distance w.lo t0 d0 (x * w.scale) (n.steps * w.scale + n.more) at n.is in
        let whole : d0 ≡ (x + n.steps) * w.scale + n.more = omega (arith, parts, add-mul x n.steps w.scale) in
        ap (λ (k : ℕ). k / w.scale) whole ∙ div-mul-add (x + n.steps) w.scale n.more (omega (arith, n.few, bands))

    pub not_before : x ≤ d0 / w.scale
    not_before = omega (arith, band_is)

    -- It is a free target of that value.
    pub of_band : w.step ≡ 1 → FitsWay taken w (d0 / w.scale) t0
    of_band each =
        let n = fit.good.near in
        let unit : n.more * 1 ≡ n.more = omega arith in
        let one : n.more * w.step ≡ n.more = ap (λ (s : ℕ). n.more * s) each ∙ unit in
        let same : d0 / w.scale * w.scale ≡ (x + n.steps) * w.scale = ap (λ (k : ℕ). k * w.scale) band_is in
        let parts = same_distance w.lo t0 d0 (x * w.scale) (n.steps * w.scale + n.more) at n.is in
        let seen = from_value w.lo t0 d0 (d0 / w.scale * w.scale) (n.more * w.step) w.width at
        (omega (arith, parts, same, one, add-mul x n.steps w.scale)) (omega (arith, one, n.few)) in
        record { target = ((n.more, seen.0), seen.1); free = fit.good.fits.free }
