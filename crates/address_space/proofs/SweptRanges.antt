-- Free ranges from what is taken, in ascending order.
use Rattle.std.proofs.Common.{◌≡◌, ℕ, ◌+◌, ◌*◌, ◌/◌, ◌<◌, ◌≤◌, ◌⊎◌, ◌↔◌, min, max, List, [], ◌++◌, length, get_or, take, map, inl, inr, arith, subst, sym, append_assoc}
use Rattle.std.specs.List.{All}
use Rattle.std.specs.List.Sorted.{IsNonDecreasingBy, IsPermutation}
use Rattle.std.proofs.lemmas.List.{append-nil, take_all, take-take, get_or-take, get_or_default, length-take}
use Rattle.std.proofs.lemmas.List.Elements.{All-nil, All-more, All-take, All-map}
use Rattle.std.proofs.lemmas.List.Sorted.{All-permutation, IsPermutation-sym}
use Rattle.std.proofs.lemmas.Grind.{div_ceil_times}
use Rattle.pun_base.specs.declared.range.Range.{Range}
use Rattle.address_space.specs.declared.extent.Extent.{Extent}
use Rattle.address_space.specs.declared.free_range.FreeRange.{FreeRange}
use Rattle.address_space.specs.Free.{Misses, IsFree, whole_pages}
use Rattle.address_space.specs.Ranges.{Ascending, LiesAmong, gaps, range_if}
use Rattle.address_space.proofs.Gaps.{lies_above, lies_below, free_is}
use Rattle.address_space.proofs.SplitRanges.{ascending_from, range_if_cases, lies_if, lies_left, lies_right, lies_either}

-- The first k of what is taken is passed: the ranges before it are found, and nothing is taken from low on.
pub record IsSwept (taken : List Extent) (k : ℕ) (free : List FreeRange) (low : ℕ) : Type 0 where
  pub above : 0x20000 ≤ low
  pub ascends : (rest : List FreeRange) → Ascending low rest → Ascending 0x20000 (free ++ rest)
  pub before : (t n j : ℕ) (d : Extent) → LiesAmong free t n → k ≤ j → j < length taken → t + n ≤ (get_or taken j d).lo
  pub misses : (t n : ℕ) → 1 ≤ n → LiesAmong free t n ⊎ (low ≤ t) → All (Misses t n) (take k taken)
  pub found : (t n : ℕ) → 1 ≤ n → 0x20000 ≤ t → t + n ≤ 0x7FFF0000 → All (Misses t n) (take k taken) → LiesAmong free t n ⊎ (low ≤ t)

-- A range that begins at low, and ranges behind it.
range_ascends : (low hi next : ℕ) (rest : List FreeRange) → hi ≤ 0x7FFF0000 → low ≤ next → hi < next ⊎ (hi ≤ low) → Ascending next rest → Ascending low (range_if low hi ++ rest)
range_ascends low hi next rest below le after up =
    range_if_cases (λ rs. Ascending low (rs ++ rest)) low hi
    (λ some. (le_self low, some, below, ascending_from rest (hi + 1) next (elim after [ inl a ↦ omega arith | inr b ↦ absurd (omega arith) ]) up))
    (λ none. ascending_from rest low next le up)
  where
    le_self : (a : ℕ) → a ≤ a
    le_self a = omega arith

-- Before the first that is taken nothing is found, and all from 0x20000 on is left.
pub swept_none : (taken : List Extent) → IsSwept taken 0 [] 0x20000
swept_none taken = record {
  above = omega arith;
  ascends = λ rest up. up;
  before = λ t n j d l h b. absurd l;
  misses = λ t n some l. All-nil (Misses t n);
  found = λ t n some above below m. inr above;
}

-- What lies in a range that may have no address lies between its ends.
ends_if : (lo hi t n : ℕ) → LiesAmong (range_if lo hi) t n → (lo ≤ t) × (t + n ≤ hi)
ends_if lo hi t n =
    range_if_cases (λ rs. LiesAmong rs t n → (lo ≤ t) × (t + n ≤ hi)) lo hi
    (λ some l. elim l [ inl here ↦ here | inr none ↦ absurd none ])
    (λ none l. absurd l)

-- One more that is taken is passed.
pub swept_more : (taken : List Extent) (k : ℕ) (free : List FreeRange) (low : ℕ) (d : Extent) → k < length taken → IsNonDecreasingBy (λ e. e.lo) taken → All (λ e. e.lo < e.hi) taken
    → IsSwept taken k free low → IsSwept taken (k + 1) (free ++ range_if low (min (get_or taken k d).lo 0x7FFF0000)) (max low (get_or taken k d).hi)
swept_more taken k free low d h sorted some s = record {
  above = omega (arith, s.above);
  ascends = λ rest up. rw append_assoc (s.ascends (range_if low hi ++ rest) (range_ascends low hi (max low e.hi) rest (omega arith) (omega arith) (inl (omega (arith, full))) up));
  before = λ t n j d' l le below. elim (lies_either free (range_if low hi) t n l) [
    | inl old ↦ s.before t n j d' old (omega arith) below
    | inr new ↦ let rises = sorted k j d (omega arith) below in
        let same = get_or_default taken j d d' below in
        subst (λ (x : Extent). t + n ≤ x.lo) same (omega (arith, rises, (ends_if low hi t n new).1))
  ];
  misses = λ t n n1 l. let m = missed t n l in All-more (Misses t n) taken k d h (s.misses t n n1 m.0) m.1;
  found = λ t n n1 above below m. left t n n1 below (s.found t n n1 above below (fewer t n m)) (last t n m);
}
  where
    e : Extent
    e = get_or taken k d

    hi : ℕ
    hi = min (get_or taken k d).lo 0x7FFF0000

    full : e.lo < e.hi
    full = some k d h

    missed : (t n : ℕ) → LiesAmong (free ++ range_if low hi) t n ⊎ (max low e.hi ≤ t) → (LiesAmong free t n ⊎ (low ≤ t)) × Misses t n e
    missed t n l = elim l [
      | inl lies ↦ elim (lies_either free (range_if low hi) t n lies) [
        | inl old ↦ (inl old, inl (s.before t n k d old (omega arith) h))
        | inr new ↦ let b = ends_if low hi t n new in (inr b.0, inl (omega (arith, b.1)))
      ]
      | inr over ↦ (inr (omega arith), inr (omega arith))
    ]

    left : (t n : ℕ) → 1 ≤ n → t + n ≤ 0x7FFF0000 → LiesAmong free t n ⊎ (low ≤ t) → Misses t n e → LiesAmong (free ++ range_if low hi) t n ⊎ (max low e.hi ≤ t)
    left t n n1 below l m = elim l [
      | inl old ↦ inl (lies_left free (range_if low hi) t n old)
      | inr above ↦ elim m [
        | inl under ↦ inl (lies_right free (range_if low hi) t n ((lies_if low hi t n n1).1 (above, omega arith)))
        | inr over ↦ inr (omega arith)
      ]
    ]

    fewer : (t n : ℕ) → All (Misses t n) (take (k + 1) taken) → All (Misses t n) (take k taken)
    fewer t n m = subst (All (Misses t n)) (take-take k (k + 1) taken (omega arith)) (All-take (Misses t n) k (take (k + 1) taken) m)

    last : (t n : ℕ) → All (Misses t n) (take (k + 1) taken) → Misses t n e
    last t n m = subst (Misses t n) (get_or-take (k + 1) taken k d (omega arith)) (m k d (let l = length-take (k + 1) taken in omega arith))

-- All is passed: the ranges and the last one are exactly what is free.
pub swept_ascends : (taken : List Extent) (k : ℕ) (free : List FreeRange) (low : ℕ) → IsSwept taken k free low → Ascending 0x20000 (free ++ range_if low 0x7FFF0000)
swept_ascends taken k free low s =
    let up = range_ascends low 0x7FFF0000 (low + 0x7FFF0001) [] (omega arith) (omega arith) (inl (omega arith)) tt in
    s.ascends (range_if low 0x7FFF0000) (subst (Ascending low) (append-nil (range_if low 0x7FFF0000)) up)

-- Something lies among the ranges and the last one exactly where it is free.
pub swept_all : (taken : List Extent) (k : ℕ) (free : List FreeRange) (low t n : ℕ) → length taken ≤ k → IsSwept taken k free low → 1 ≤ n → LiesAmong (free ++ range_if low 0x7FFF0000) t n ↔ IsFree taken t n
swept_all taken k free low t n past s some =
    let all : take k taken ≡ taken = take_all k taken past in
    let up = swept_ascends taken k free low s in (
      λ l. record {
        above = lies_above (free ++ range_if low 0x7FFF0000) 0x20000 t n up l;
        below = lies_below (free ++ range_if low 0x7FFF0000) 0x20000 t n up l;
        misses = subst (All (Misses t n)) all (s.misses t n some (elim (lies_either free (range_if low 0x7FFF0000) t n l) [
          | inl old ↦ inl old
          | inr new ↦ inr ((lies_if low 0x7FFF0000 t n some).0 new).0
        ]));
      },
      λ f. elim (s.found t n some f.above f.below (subst (All (Misses t n)) (sym all) f.misses)) [
        | inl old ↦ lies_left free (range_if low 0x7FFF0000) t n old
        | inr new ↦ lies_right free (range_if low 0x7FFF0000) t n ((lies_if low 0x7FFF0000 t n some).1 (new, f.below))
      ],
    )

-- A range widened to whole pages has an address.
whole_some : (range : Range) → (whole_pages range).lo < (whole_pages range).hi
whole_some range =
    let up = div_ceil_times range.hi 4096 (omega arith) in
    let down : range.lo / 4096 * 4096 ≤ range.lo = omega arith in
    omega (arith, up.0, down, range.nonempty)

-- Each of the sorted ranges of whole pages has an address.
pub pages_some : (ranges : List Range) (sorted seen : List Extent) → IsPermutation (map whole_pages ranges) sorted → seen ≡ sorted → All (λ e. e.lo < e.hi) seen
pages_some ranges sorted seen moved same =
    let Some : Extent → Type 0 = λ e. e.lo < e.hi in
    subst (All Some) (sym same) (All-permutation Some (map whole_pages ranges) sorted moved (All-map Some whole_pages ranges (λ k d h. whole_some (get_or ranges k d))))

-- In another order the same addresses are free.
free_moved : (xs ys : List Extent) (t n : ℕ) → IsPermutation xs ys → IsFree xs t n → IsFree ys t n
free_moved xs ys t n moved f = record { above = f.above; below = f.below; misses = All-permutation (Misses t n) xs ys moved f.misses }

-- What is free beside the sorted pages is free beside the pages.
pub made_is : (pages sorted seen : List Extent) (rs : List FreeRange) → IsPermutation pages sorted → seen ≡ sorted → Ascending 0x20000 rs
    → ((t n : ℕ) → 1 ≤ n → LiesAmong rs t n ↔ IsFree seen t n) → (t n : ℕ) → 1 ≤ n → IsFree (gaps 0x20000 rs) t n ↔ IsFree pages t n
made_is pages sorted seen rs moved same up lies t n some =
    let gaps_are = free_is rs t n some up in
    let back = IsPermutation-sym pages sorted moved in (
      λ f. free_moved sorted pages t n back (subst (λ (xs : List Extent). IsFree xs t n) same ((lies t n some).0 (gaps_are.0 f))),
      λ f. gaps_are.1 ((lies t n some).1 (subst (λ (xs : List Extent). IsFree xs t n) (sym same) (free_moved pages sorted t n moved f))),
    )
