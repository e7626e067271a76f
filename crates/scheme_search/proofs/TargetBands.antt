-- Values whose targets lie a step apart, by bands of as many addresses as the step, and those that a band passes over.
use Rattle.std.proofs.Common.{◌≡◌, ℕ, ℤ, pos, ◌+ℤ◌, ◌≤ℤ◌, ◌<ℤ◌, ◌+◌, ◌-◌, ◌*◌, ◌/◌, ◌%◌, ◌<◌, ◌≤◌, ◌^◌, min, inl, inr, List, refl, ap, sym, ◌∙◌, subst, arith}
use Rattle.std.proofs.Math.Nat.{mul-le-mul_right, add-mul}
use Rattle.std.proofs.lemmas.Bool.{cases_lt}
use Rattle.std.proofs.lemmas.Grind.{div_ceil_times}
use Rattle.std.proofs.lemmas.Int.{ints}
use Rattle.std.proofs.lemmas.Nat.{div-add-mod'}
use Rattle.address_space.specs.declared.extent.Extent.{Extent}
use Rattle.pun_base.specs.Least.{IsLeast}
use Rattle.address_space.specs.Fit.{FitsNear}
use Rattle.address_space.specs.Free.{IsFree}
use Rattle.address_space.proofs.EquivalentSearches.{single_steps}
use Rattle.address_space.proofs.FreeParts.{part_free}
use Rattle.scheme_search.specs.declared.shared.Way.{Way}
use Rattle.scheme_search.specs.Bands.{IsOpenAt, IsOpenNear}
use Rattle.scheme_search.specs.Shared.{FitsWay, IsWay}

-- A target some steps above a value's lowest one, seen from the way's low end.
from_low : (lo : ℤ) (a k t : ℕ) → pos t ≡ (lo +ℤ pos a) +ℤ pos k → pos t ≡ lo +ℤ pos (k + a)
from_low lo a k t e = omega (arith, ints)

-- As many steps lie within the width.
pub within_width : (lo : ℤ) (a k b t : ℕ) → pos t ≡ (lo +ℤ pos a) +ℤ pos k → pos t <ℤ (lo +ℤ pos (a + b)) → k < b
within_width lo a k b t e h = omega (arith, ints)

-- A free target of a value, as the one that it has in a band.
pub record InBand (taken : List Extent) (w : Way) (y : ℕ) : Type 0 where
  pub index : ℕ
  pub inside : index * w.step < w.width
  pub there : IsOpenAt taken w (index * w.step + y)

-- Where values lie one address apart, a free target of a value lies whole steps above it, within the width.
pub in_band : (taken : List Extent) (w : Way) (y t : ℕ) → w.scale ≡ 1 → FitsWay taken w y t → InBand taken w y
in_band taken w y t e f =
    let k = f.target.0.0 in
    let unit : y * 1 ≡ y = omega arith in
    let one : y * w.scale ≡ y = ap (λ (s : ℕ). y * s) e ∙ unit in
    let at : pos t ≡ (w.lo +ℤ pos y) +ℤ pos (k * w.step) = subst (λ (a : ℕ). pos t ≡ (w.lo +ℤ pos a) +ℤ pos (k * w.step)) one f.target.0.1 in
    let under : pos t <ℤ (w.lo +ℤ pos (y + w.width)) = subst (λ (a : ℕ). pos t <ℤ (w.lo +ℤ pos (a + w.width))) one f.target.1 in
    record {
      index = k;
      inside = within_width w.lo y (k * w.step) w.width t at under;
      there = record { place = t; is = from_low w.lo y (k * w.step) t at; free = f.free };
    }

-- A multiple of a step below a further one.
next_multiple : (k j step : ℕ) → k < j → k * step + step ≤ j * step
next_multiple k j step l =
    let up : k + 1 ≤ j = omega (arith, l) in
    omega (arith, mul-le-mul_right step up, add-mul k 1 step)

-- The band in which a distance lies begins at or below it, and ends above it.
pub band_around : (d x step : ℕ) → x ≤ d → 1 ≤ step → ((d - x) / step * step + x ≤ d) × (d < (d - x) / step * step + x + step)
band_around d x step above some = let e = div-add-mod' (d - x) step in (omega (arith, e), omega (arith, e))

-- The steps between two multiples.
steps_between : (i k step : ℕ) → 0 < step → i * step ≤ k * step → (k - i) * step + i * step ≡ k * step
steps_between i k step some l = elim (cases_lt k i) [
  | inl lt ↦ absurd (omega (arith, next_multiple k i step lt, l, some))
  | inr ge ↦ (let back : k - i + i ≡ k = omega (arith, ge) in sym (add-mul (k - i) i step) ∙ ap (λ (n : ℕ). n * step) back)
]

-- A band that begins below an end at or below a multiple of the step ends at or below that.
pub band_ends : (k m step width : ℕ) → k * step < width → width ≤ m * step → k * step + step ≤ m * step
band_ends k m step width l h = elim (cases_lt k m) [
  | inl lt ↦ next_multiple k m step lt
  | inr ge ↦ absurd (omega (arith, mul-le-mul_right step ge, l, h))
]

-- Where a value of a band from a first one on is open, the search from that band on looks for it.
pub near_at : (taken : List Extent) (w : Way) (x low high width k y i : ℕ) → 0 < w.step → low ≡ i * w.step → low ≤ k * w.step → x ≤ y
    → y < x + width → k * w.step + y < high → IsOpenAt taken w (k * w.step + y) → IsOpenNear taken w (low + x) high width (k * w.step + y)
near_at taken w x low high width k y i some at l a b under o =
    let between : (k - i) * w.step + i * w.step ≡ k * w.step = steps_between i k w.step some (omega (arith, at, l)) in
    record {
      steps = k - i;
      more = y - x;
      few = omega (arith, a, b);
      near = omega (arith, between, at, a);
      below = under;
      there = o;
    }

module _ (taken : List Extent) (w : Way) (x low high width d next i j : ℕ) (some : 0 < w.step) (at : low ≡ i * w.step)
    (fit : IsLeast (IsOpenNear taken w (low + x) high width) d) (under : next + x ≤ d) (over : d < next + x + w.step)
    (multiple : next ≡ j * w.step) where
  -- A band up to that of the least free target begins before it, for values that have none there.
  before : (k y : ℕ) → k * w.step < next + w.step → y < x + w.step → y < d - next → k * w.step + y < d
  before k y l n m = elim (cases_lt k j) [
    | inl lt ↦ omega (arith, next_multiple k j w.step lt, multiple, n, under)
    | inr ge ↦ elim (cases_lt j k) [
      | inl gt ↦ absurd (omega (arith, next_multiple j k w.step gt, multiple, l))
      | inr le ↦ (let same : k ≡ j = omega (arith, ge, le) in omega (arith, ap (λ (i : ℕ). i * w.step) same, multiple, m))
    ]
  ]

  -- No such value has a free target in them.
  pub passed_over : (k y : ℕ) → low ≤ k * w.step → k * w.step < next + w.step → x ≤ y → y < x + w.step → y < x + width → y < d - next
      → IsOpenAt taken w (k * w.step + y) → ⊥
  passed_over k y a l b n v m o =
      let p = before k y l n m in
      let q = fit.least (k * w.step + y) (near_at taken w x low high width k y i some at a b v (omega (arith, p, fit.good.below)) o) in
      omega (arith, p, q)

-- A place so far above a way's low end, seen from a value's lowest target.
pub from_value : (lo : ℤ) (t d a p b : ℕ) → pos t ≡ lo +ℤ pos d → d ≡ a + p → p < b → (pos t ≡ (lo +ℤ pos a) +ℤ pos p) × (pos t <ℤ (lo +ℤ pos (a + b)))
from_value lo t d a p b at is less = (omega (arith, ints), omega (arith, ints))

-- Where values lie one address apart, code that is free whole steps above a value, within the width, is free at a target of it.
pub target_at : (taken : List Extent) (w : Way) (y k d : ℕ) → w.scale ≡ 1 → k * w.step < w.width → d ≡ y + k * w.step → (o : IsOpenAt taken w d)
    → FitsWay taken w y o.place
target_at taken w y k d each inside is o =
    let unit : y * 1 ≡ y = omega arith in
    let one : y * w.scale ≡ y = ap (λ (s : ℕ). y * s) each ∙ unit in
    let seen = from_value w.lo o.place d (y * w.scale) (k * w.step) w.width o.is (omega (arith, is, one)) inside in
    record { target = ((k, seen.0), seen.1); free = o.free }

-- A multiple of a step below a further one that ends less than a step above the width lies within the width.
pub within_bands : (k m step width : ℕ) → k * step < m * step → m * step < width + step → k * step < width
within_bands k m step width l h = elim (cases_lt k m) [
  | inl lt ↦ omega (arith, next_multiple k m step lt, h)
  | inr ge ↦ absurd (omega (arith, mul-le-mul_right step ge, l))
]

-- A place that isn't below another one, seen from a way's low end.
pub far : (lo : ℤ) (t a : ℕ) → (lo +ℤ pos a) ≤ℤ pos t → (d : ℕ) × (pos t ≡ lo +ℤ pos d) × (a ≤ d)
far lo t a h =
    let steps = single_steps (lo +ℤ pos a) t h in
    (a + steps.0 * 1, omega (arith, ints, steps.1), omega arith)

-- The place behind it that lies so far above a value.
next_place : (lo : ℤ) (t d x p : ℕ) → pos t ≡ lo +ℤ pos d → x ≤ d → d - x ≤ p → pos (t + (p - (d - x))) ≡ lo +ℤ pos (x + p)
next_place lo t d x p at low above = omega (arith, ints)

-- Where the code is free at so many places side by side as a step has addresses, one of them is a target of a value.
pub served_within : (taken : List Extent) (w : Way) (x t d m : ℕ) → w.scale ≡ 1 → 0 < w.step → pos t ≡ w.lo +ℤ pos d → x ≤ d
    → d + w.step < m * w.step + x → m * w.step < w.width + w.step → IsFree taken t (w.size + w.step) → (u : ℕ) × FitsWay taken w x u
served_within taken w x t d m each some at low high over free =
    let k = (d - x) / w.step + min 1 ((d - x) % w.step) in
    let up = div_ceil_times (d - x) w.step some in
    let u = t + (k * w.step - (d - x)) in
    let inside : k * w.step < w.width = within_bands k m w.step w.width (omega (arith, up.1, high, low)) over in
    let there : IsOpenAt taken w (x + k * w.step) = record {
      place = u;
      is = next_place w.lo t d x (k * w.step) at low up.0;
      free = part_free t (w.size + w.step) u w.size (omega arith) (omega (arith, up.1)) taken free;
    } in
    (u, target_at taken w x k (x + k * w.step) each inside refl there)

-- What is open is what the space's search looks for.
pub fits_of : (taken : List Extent) (w : Way) (low high width d : ℕ) (start end : ℤ) → start ≡ w.lo +ℤ pos low → end ≡ w.lo +ℤ pos high
    → (o : IsOpenNear taken w low high width d) → FitsNear taken start end w.step width w.size o.there.place
fits_of taken w low high width d start end e f o =
    let i = o.there.is in
    let n = o.near in
    let b = o.below in
    record {
      fits = record { from = omega (arith, ints, i, n, e); before = omega (arith, ints, i, b, f); free = o.there.free; away = tt };
      near = record { steps = o.steps; more = o.more; few = o.few; is = omega (arith, ints, i, n, e) };
    }

-- And the least that it finds is the least that is open.
pub open_least : (taken : List Extent) (w : Way) (low high width t d : ℕ) (start end : ℤ) → start ≡ w.lo +ℤ pos low
    → end ≡ w.lo +ℤ pos high → IsLeast (FitsNear taken start end w.step width w.size) t → pos t ≡ w.lo +ℤ pos d
    → IsLeast (IsOpenNear taken w low high width) d
open_least taken w low high width t d start end e f fit at = record {
  good = record {
    steps = fit.good.near.steps;
    more = fit.good.near.more;
    few = fit.good.near.few;
    near = let n = fit.good.near.is in omega (arith, ints, n, at, e);
    below = let b = fit.good.fits.before in omega (arith, ints, b, at, f);
    there = record { place = t; is = at; free = fit.good.fits.free };
  };
  least = λ s o.
      let m = fit.least o.there.place (fits_of taken w low high width s start end e f o) in
      let i = o.there.is in
      omega (arith, ints, m, i, at);
}

-- A way of small numbers up to a value has them up to 0, and where values are one address apart the value is small.
pub way_low : (w : Way) (to : ℕ) → IsWay w to → IsWay w 0
way_low w to h = record {
  step = h.step;
  size = h.size;
  small = h.small;
  scale = h.scale;
  width = h.width;
  low = h.low;
  high = h.high;
  parts = omega arith;
}

-- Where values lie one address apart, there are at most 2^32 of them.
pub few_values : (w : Way) (to : ℕ) → w.scale ≡ 1 → IsWay w to → to ≤ 2 ^ 32
few_values w to e h =
    let unit : to * 1 ≡ to = omega arith in
    let p = h.parts in
    omega (arith, p, ap (λ (s : ℕ). to * s) e, unit)
