-- The least place, by steps and by ranges.
use Rattle.std.proofs.Common.{◌≡◌, ℕ, ◌+◌, ◌-◌, ◌<◌, ◌≤◌, List, length, get_or, take, drop, min, ap, ◌∙◌, length-take, length-drop, Option, Some, None, inl, inr, subst, sym, arith}
use Rattle.std.proofs.Math.Nat.{eq-or-lt_of_le}
use Rattle.std.proofs.lemmas.Bool.{cases_lt}
use Rattle.std.proofs.lemmas.List.{get_or-take, get_or-drop, get_or_default}
use Rattle.pun_base.specs.declared.range.Range.{Range}
use Rattle.address_space.specs.declared.free_range.FreeRange.{FreeRange}
use Rattle.address_space.specs.declared.window.Window.{Window}
use Rattle.pun_base.specs.Least.{IsLeast, Least}
use Rattle.address_space.specs.Fit.{IsAway}
use Rattle.address_space.specs.Ranges.{IsApart, StepsFrom, PlacesFrom, FitsIn, FitsAmong}
use Rattle.address_space.specs.Blocks.{no_range}
use Rattle.address_space.proofs.RangePlaces.{apart}

-- The next step is the next place where it is away from what is to be avoided.
pub stays : (w : Window) (low next : ℕ) (avoid : Option Range) → w.avoid ≡ avoid → IsLeast (StepsFrom w.from w.step w.width low) next → IsAway avoid next w.size → IsLeast (PlacesFrom w low) next
stays w low next avoid e l away = record {
  good = record { steps = l.good; away = subst (λ (o : Option Range). IsAway o next w.size) (sym e) away };
  least = λ s f. l.least s f.steps;
}

-- Else the next place is the next step behind what is to be avoided.
pub passes : (w : Window) (low next past : ℕ) (range : Range) → w.avoid ≡ Some range → IsLeast (StepsFrom w.from w.step w.width low) next
    → range.lo < next + w.size → next < range.hi → IsLeast (StepsFrom w.from w.step w.width range.hi) past → IsLeast (PlacesFrom w low) past
passes w low next past range e l over under p = record {
  good = record {
    steps = record { steps = p.good.steps; above = omega (arith, l.good.above, p.good.above) };
    away = subst (λ (o : Option Range). IsAway o past w.size) (sym e) (inr p.good.above);
  };
  least = λ s f. elim (subst (λ (o : Option Range). IsAway o s w.size) e f.away) [
    | inl below ↦ absurd (omega (arith, l.least s f.steps, below))
    | inr above ↦ p.least s (record { steps = f.steps.steps; above = above })
  ];
}

-- The least place in a range is the least in all where none before it has one.
pub found_at : (w : Window) (rs : List FreeRange) (k t : ℕ) → IsApart rs → k < length rs
    → ((j : ℕ) (d : FreeRange) → j < k → (s : ℕ) → FitsIn w (get_or rs j d) s → ⊥) → ((d : FreeRange) → IsLeast (FitsIn w (get_or rs k d)) t) → IsLeast (FitsAmong w rs) t
found_at w rs k t apart h none here = record {
  good = record { place = k; below = h; fits = λ d. (here d).good };
  least = λ s f. elim (cases_lt f.place k) [
    | inl before ↦ absurd (none f.place no_range before s (f.fits no_range))
    | inr after ↦ elim (eq-or-lt_of_le after) [
      | inl same ↦ (here no_range).least s (subst (λ j. FitsIn w (get_or rs j no_range) s) (sym same) (f.fits no_range))
      | inr behind ↦ omega (arith, apart k f.place no_range behind f.below, (here no_range).good.inside.1, (f.fits no_range).inside.0)
    ]
  ];
}

-- There is none where no range has one.
pub found_none : (w : Window) (rs : List FreeRange) → ((j : ℕ) (d : FreeRange) → j < length rs → (s : ℕ) → FitsIn w (get_or rs j d) s → ⊥) → Least (FitsAmong w rs) None
found_none w rs none s f = none f.place no_range f.below s (f.fits no_range)

-- No range below a place has one.
abbrev pub NoneBelow : Window → List FreeRange → ℕ → Type 0
NoneBelow w rs k = (j : ℕ) (d : FreeRange) → j < k → (s : ℕ) → FitsIn w (get_or rs j d) s → ⊥

-- An element of a part of a list.
part_at : (rs : List FreeRange) (at next k : ℕ) (d : FreeRange) → at ≤ k → k < next → get_or (take (next - at) (drop at rs)) (k - at) d ≡ get_or rs k d
part_at rs at next k d h l =
    get_or-take (next - at) (drop at rs) (k - at) d (omega arith) ∙ get_or-drop at rs (k - at) d ∙ ap (λ i. get_or rs i d) (let e : at + (k - at) ≡ k = omega arith in e)

-- the part of a list from one index to another has as many elements as the indices are apart
part_length : (rs : List FreeRange) (at next : ℕ) → at ≤ next → next ≤ length rs → length (take (next - at) (drop at rs)) ≡ next - at
part_length rs at next h l = length-take (next - at) (drop at rs) ∙ (let e : min (next - at) (length (drop at rs)) ≡ next - at = rw length-drop (omega arith) in e)

-- What fits in a range of the part fits in the part.
in_part : (w : Window) (rs : List FreeRange) (at next k s : ℕ) → at ≤ k → k < next → next ≤ length rs → ((d : FreeRange) → FitsIn w (get_or rs k d) s) → FitsAmong w (take (next - at) (drop at rs)) s
in_part w rs at next k s h l le f =
    let long = part_length rs at next (omega arith) le in
    record { place = k - at; below = omega arith; fits = λ d. subst (λ (r : FreeRange). FitsIn w r s) (sym (part_at rs at next k d h l)) (f d) }

-- What fits in the part fits in a range of it.
of_part : (w : Window) (rs : List FreeRange) (at next s : ℕ) → at ≤ next → next ≤ length rs → FitsAmong w (take (next - at) (drop at rs)) s
    → (k : ℕ) × (k < next) × ((d : FreeRange) → FitsIn w (get_or rs k d) s)
of_part w rs at next s h l f =
    let long = part_length rs at next h l in
    let e = λ (d : FreeRange). get_or-take (next - at) (drop at rs) f.place d (omega (arith, f.below)) ∙ get_or-drop at rs f.place d in
    (at + f.place, omega (arith, f.below), λ d. subst (λ (r : FreeRange). FitsIn w r s) (e d) (f.fits d))

-- The least place in a part is the least in all where none before the part has one.
pub found_part : (w : Window) (rs : List FreeRange) (at next t : ℕ) → IsApart rs → at ≤ next → next ≤ length rs → NoneBelow w rs at
    → IsLeast (FitsAmong w (take (next - at) (drop at rs))) t → IsLeast (FitsAmong w rs) t
found_part w rs at next t apart h l none here =
    let found = of_part w rs at next t h l here.good in
    record {
      good = record { place = found.0; below = omega (arith, found.1); fits = found.2 };
      least = λ s f. elim (cases_lt f.place at) [
        | inl before ↦ absurd (none f.place no_range before s (f.fits no_range))
        | inr after ↦ elim (cases_lt f.place next) [
          | inl inside ↦ here.least s (in_part w rs at next f.place s after inside l f.fits)
          | inr behind ↦ omega (arith, apart found.0 f.place no_range (omega (arith, found.1)) f.below, (found.2 no_range).inside.1, (f.fits no_range).inside.0)
        ]
      ];
    }

-- Where a part has none, none before its end has one.
pub none_part : (w : Window) (rs : List FreeRange) (at next : ℕ) → next ≤ length rs → NoneBelow w rs at → Least (FitsAmong w (take (next - at) (drop at rs))) None → NoneBelow w rs next
none_part w rs at next l none here j d less s f =
    elim (cases_lt j at) [
      | inl before ↦ none j d before s f
      | inr after ↦ here s (in_part w rs at next j s after less l (λ e. subst (λ (r : FreeRange). FitsIn w r s) (get_or_default rs j d e (omega arith)) f))
    ]

-- None fits where the window ends before it begins.
pub none_late : (w : Window) (rs : List FreeRange) → w.top ≤ w.from → Least (FitsAmong w rs) None
none_late w rs late s f = let here = f.fits no_range in omega (arith, here.before, here.steps.is)
