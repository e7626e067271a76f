-- The marks of the places in free ranges, as places where addresses fit.
use Rattle.std.proofs.Common.{◌≡◌, ℕ, ℤ, pos, ◌+ℤ◌, ◌+◌, ◌-◌, ◌*◌, ◌/◌, ◌%◌, ◌^◌, ◌<◌, ◌≤◌, ◌↔◌, max, min, List, length, get_or, ap, subst, sym, ◌∙◌, inl, inr, arith}
use Rattle.std.proofs.Math.Nat.{div-add-mod', mod-lt}
use Rattle.std.proofs.lemmas.Bool.{cases_eq}
use Rattle.std.proofs.lemmas.Int.{ints}
use Rattle.std.proofs.lemmas.List.{get_or_default}
use Rattle.address_space.specs.declared.free_range.FreeRange.{FreeRange}
use Rattle.address_space.specs.declared.window.Window.{Window}
use Rattle.address_space.specs.Fit.{FitsAside, Steps}
use Rattle.address_space.specs.Marks.{IsRemainder, MarksMore}
use Rattle.address_space.specs.Ranges.{Ascending, IsPlaceIn, IsPlaceAmong, gaps}
use Rattle.address_space.specs.Windows.{IsStart, IsTop}
use Rattle.address_space.proofs.Gaps.{free_is}
use Rattle.address_space.proofs.RangePlaces.{place_of, lies_from}

-- The places in a range are the addresses between two, so much added to them.
pub places_between : (w : Window) (shift low high : ℕ) (range : FreeRange) (m : ℕ) → 1 ≤ w.size → low ≡ max range.lo w.from
    → high ≡ min (range.hi + 1 - w.size) w.top → IsRemainder (low + shift) (high + shift) w.step m ↔ IsPlaceIn w shift range m
places_between w shift low high range m some begin end = (
  λ r.
      let same : r.number - shift + shift ≡ r.number = omega (arith, r.between.0) in
      record {
        place = r.number - shift;
        inside = (omega (arith, r.between.0, begin), omega (arith, r.between.0, r.between.1, end, some));
        from = omega (arith, r.between.0, begin);
        before = omega (arith, r.between.0, r.between.1, end);
        is = ap (λ (n : ℕ). n % w.step) same ∙ r.is;
      },
  λ p. record {
    number = p.place + shift;
    between = (omega (arith, begin, p.inside.0, p.from), omega (arith, end, p.inside.1, p.before));
    is = p.is;
  },
)

-- The places in one range more.
pub one_range_more : (w : Window) (shift count : ℕ) (ranges : List FreeRange) (d : FreeRange) (a b c : List ℕ) → count < length ranges
    → MarksMore a (IsPlaceAmong w shift ranges count) b → MarksMore b (IsPlaceIn w shift (get_or ranges count d)) c
    → MarksMore a (IsPlaceAmong w shift ranges (count + 1)) c
one_range_more w shift count ranges d a b c less first then = λ n. (
  λ m. elim ((then n).0 m) [
    | inl before ↦ elim ((first n).0 before) [
      | inl was ↦ inl was
      | inr p ↦ inr (record { index = p.index; below = omega (arith, p.below); there = p.there })
    ]
    | inr q ↦ inr (record {
      index = count;
      below = omega arith;
      there = λ e. subst (λ (r : FreeRange). IsPlaceIn w shift r n) (get_or_default ranges count d e less) q;
    })
  ],
  λ m. elim m [
    | inl was ↦ (then n).1 (inl ((first n).1 (inl was)))
    | inr p ↦ elim (cases_eq p.index count) [
      | inl same ↦ (then n).1 (inr (subst (λ (k : ℕ). IsPlaceIn w shift (get_or ranges k d) n) same (p.there d)))
      | inr differs ↦ (then n).1 (inl ((first n).1 (inr (record { index = p.index; below = omega (arith, p.below, differs); there = p.there }))))
    ]
  ],
)

-- An address that is so far above a lower end lies at or above the start from there.
at_or_above : (lo : ℤ) (from t d : ℕ) → IsStart lo 1 from → pos t ≡ lo +ℤ pos d → from ≤ t
at_or_above lo from t d start e =
    let unit : d * 1 ≡ d = omega arith in
    let steps : Steps lo 1 t = (d, subst (λ (n : ℕ). pos t ≡ lo +ℤ pos n) (sym unit) e) in
    omega (arith, (start.from t steps).1)

-- And one at or above that start is so far above the lower end.
far_above : (lo : ℤ) (from t k : ℕ) → pos from ≡ lo +ℤ pos (k * 1) → from ≤ t → pos t ≡ lo +ℤ pos (k + (t - from))
far_above lo from t k e h = omega (arith, ints)

-- A distance in two parts, and back.
in_parts : (lo : ℤ) (t d r p y : ℕ) → pos t ≡ lo +ℤ pos d → d ≡ r + p → r ≡ y → pos t ≡ (lo +ℤ pos y) +ℤ pos p
in_parts lo t d r p y at parts same = omega (arith, ints)

as_one : (lo : ℤ) (t y p : ℕ) → pos t ≡ (lo +ℤ pos y) +ℤ pos p → pos t ≡ lo +ℤ pos (y + p)
as_one lo t y p at = omega (arith, ints)

module _ (rs : List FreeRange) (lo hi : ℤ) (w : Window) (shift y : ℕ) (some : 1 ≤ w.size) (least : 1 ≤ w.step) (up : Ascending 0x20000 rs)
    (start : IsStart lo 1 w.from) (end : IsTop hi w.top)
    (is : (t y k : ℕ) → y < w.step → pos t ≡ lo +ℤ pos (y + k * w.step) → (t + shift) % w.step ≡ y) where
  -- A place in a free range is one where the addresses fit.
  pub fits_aside : IsPlaceAmong w shift rs (length rs) y → FitsAside (gaps 0x20000 rs) lo hi w.step w.size y
  fits_aside p =
      let blank : FreeRange = record { lo = 0; hi = 0 } in
      let q = p.there blank in
      let free = (free_is rs q.place w.size some up).1 (lies_from rs p.index q.place w.size blank p.below q.inside) in
      let low : q.place < 2 ^ 32 = omega (arith, free.below) in
      let d = start.steps.0 + (q.place - w.from) in
      let at : pos q.place ≡ lo +ℤ pos d = far_above lo w.from q.place start.steps.0 start.steps.1 q.from in
      let less : d % w.step < w.step = mod-lt d least in
      let parts : d ≡ d % w.step + d / w.step * w.step = omega (arith, div-add-mod' d w.step) in
      let same : d % w.step ≡ y =
      sym (is q.place (d % w.step) (d / w.step) less (at ∙ ap (λ (n : ℕ). lo +ℤ pos n) parts)) ∙ q.is in
      record {
        less = omega (arith, same, less);
        place = q.place;
        fits = record { from = omega (arith, ints, at); before = (end q.place low).0 q.before; free = free; away = tt };
        steps = (d / w.step, in_parts lo q.place d (d % w.step) (d / w.step * w.step) y at parts same);
      }

  -- And the other way round.
  pub place_aside : FitsAside (gaps 0x20000 rs) lo hi w.step w.size y → IsPlaceAmong w shift rs (length rs) y
  place_aside f =
      let here = place_of rs f.place w.size ((free_is rs f.place w.size some up).0 f.fits.free) in
      let low : f.place < 2 ^ 32 = omega (arith, f.fits.free.below) in
      let at : pos f.place ≡ lo +ℤ pos (y + f.steps.0 * w.step) = as_one lo f.place y (f.steps.0 * w.step) f.steps.1 in
      record {
        index = here.place;
        below = here.below;
        there = λ d. record {
          place = f.place;
          inside = here.lies d;
          from = at_or_above lo w.from f.place (y + f.steps.0 * w.step) start at;
          before = (end f.place low).1 f.fits.before;
          is = is f.place y f.steps.0 f.less at;
        };
      }
