-- A range taken out of a free one.
use Rattle.std.proofs.Common.{◌≡◌, ℕ, suc, add-one, ◌+◌, ◌-◌, ◌<◌, ◌≤◌, ◌⊎◌, ◌↔◌, nat_lt, List, [], ◌∷◌, ◌++◌, length, take, drop, get_or, set, inl, inr, arith, refl, subst, sym, ap, ◌∙◌}
use Rattle.std.proofs.Math.Nat.{eq-or-lt_of_le}
use Rattle.std.proofs.lemmas.Bool.{cond_both, ltb-true, ltb-false, cases_lt}
use Rattle.std.proofs.lemmas.List.{set_split, get_or_default}
use Rattle.address_space.specs.declared.free_range.FreeRange.{FreeRange}
use Rattle.address_space.specs.Free.{SpaceState, Misses, IsFree}
use Rattle.address_space.specs.Ranges.{Ascending, LiesIn, LiesAmong, EndedFirst, IsWithin, IsTaken, gaps, range_if}
use Rattle.address_space.proofs.Gaps.{lies_above, free_is}
use Rattle.address_space.proofs.RangePlaces.{apart, place_of}
use Rattle.address_space.proofs.LongestRanges.{around}

abbrev range_of : ℕ → ℕ → FreeRange
range_of lo hi = record { lo = lo; hi = hi }

-- What holds of the range, where it has an address, and of nothing, holds of the range if it has one.
pub range_if_cases : (P : List FreeRange → Type 0) (lo hi : ℕ) → (lo < hi → P (range_of lo hi ∷ [])) → (hi ≤ lo → P []) → P (range_if lo hi)
range_if_cases P lo hi some none = cond_both (nat_lt lo hi) (range_of lo hi ∷ []) [] P (λ e. some (ltb-true lo hi e)) (λ e. none (ltb-false lo hi e))

-- What lies in such a range lies between its ends, and the other way round.
pub lies_if : (lo hi t n : ℕ) → 1 ≤ n → LiesAmong (range_if lo hi) t n ↔ ((lo ≤ t) × (t + n ≤ hi))
lies_if lo hi t n some =
    range_if_cases (λ rs. LiesAmong rs t n ↔ ((lo ≤ t) × (t + n ≤ hi))) lo hi
    (λ h. ((λ l. elim l [ inl here ↦ here | inr none ↦ absurd none ]), (λ b. inl b)))
    (λ h. ((λ l. absurd l), (λ b. absurd (omega (arith, b.0, b.1)))))

-- What lies among the first ranges lies among all.
pub lies_left : (xs ys : List FreeRange) (t n : ℕ) → LiesAmong xs t n → LiesAmong (xs ++ ys) t n
lies_left [] ys t n l = absurd l
lies_left (x ∷ xs) ys t n l = elim l [ inl here ↦ inl here | inr there ↦ inr (lies_left xs ys t n there) ]

-- What lies among the last ranges lies among all.
pub lies_right : (xs ys : List FreeRange) (t n : ℕ) → LiesAmong ys t n → LiesAmong (xs ++ ys) t n
lies_right [] ys t n l = l
lies_right (x ∷ xs) ys t n l = inr (lies_right xs ys t n l)

-- What lies among all lies among the first or among the last.
pub lies_either : (xs ys : List FreeRange) (t n : ℕ) → LiesAmong (xs ++ ys) t n → LiesAmong xs t n ⊎ LiesAmong ys t n
lies_either [] ys t n l = inr l
lies_either (x ∷ xs) ys t n l =
    elim l [
      | inl here ↦ inl (inl here)
      | inr there ↦ elim (lies_either xs ys t n there) [ inl before ↦ inl (inr before) | inr behind ↦ inr behind ]
    ]

-- Ranges may be said to begin higher up than they must.
pub ascending_from : (rs : List FreeRange) (low from : ℕ) → low ≤ from → Ascending from rs → Ascending low rs
ascending_from [] low from h up = tt
ascending_from (r ∷ rs) low from h up = (omega (arith, h, up.0), up.1, up.2, up.3)

-- A range in the midst of others.
pub record IsMiddle (before : List FreeRange) (whole : FreeRange) (behind : List FreeRange) (low : ℕ) : Type 0 where
  pub from : low ≤ whole.lo
  pub some : whole.lo < whole.hi
  pub below : whole.hi ≤ 0x7FFF0000
  pub after : Ascending (whole.hi + 1) behind
  pub front : (t n : ℕ) → LiesAmong before t n → t + n < whole.lo
  pub others : (parts : List FreeRange) → ((low' : ℕ) → low' ≤ whole.lo → Ascending low' parts) → Ascending low (before ++ parts)

-- Each range of ranges that ascend stands so in their midst.
pub middle : (before : List FreeRange) (whole : FreeRange) (behind : List FreeRange) (low : ℕ) → Ascending low (before ++ whole ∷ behind) → IsMiddle before whole behind low
middle [] whole behind low up = record {
  from = up.0;
  some = up.1;
  below = up.2;
  after = up.3;
  front = λ t n l. absurd l;
  others = λ parts p. p low up.0;
}
middle (r ∷ rs) whole behind low up =
    let m = middle rs whole behind (r.hi + 1) up.3 in
    record {
      from = omega (arith, up.0, up.1, m.from);
      some = m.some;
      below = m.below;
      after = m.after;
      front = λ t n l. elim l [ inl here ↦ omega (arith, here.1, m.from) | inr there ↦ m.front t n there ];
      others = λ parts p. (up.0, up.1, up.2, m.others parts p);
    }

-- What is left still ascends.
pub split_ascends : (before : List FreeRange) (whole : FreeRange) (behind : List FreeRange) (low lo hi : ℕ) → Ascending low (before ++ whole ∷ behind) → IsWithin whole lo hi
    → Ascending low (before ++ ((range_if whole.lo lo ++ range_if hi whole.hi) ++ behind))
split_ascends before whole behind low lo hi up w =
    let m = middle before whole behind low up in
    m.others ((range_if whole.lo lo ++ range_if hi whole.hi) ++ behind) (λ low' h.
    let upper : (rest : ℕ) → rest ≤ hi → Ascending rest (range_if hi whole.hi ++ behind) =
    λ rest k. range_if_cases (λ rs. Ascending rest (rs ++ behind)) hi whole.hi
    (λ some. (k, some, m.below, m.after))
    (λ none. ascending_from behind rest (whole.hi + 1) (omega (arith, w.some, w.below)) m.after) in
    range_if_cases (λ rs. Ascending low' ((rs ++ range_if hi whole.hi) ++ behind)) whole.lo lo
    (λ some. (h, some, omega (arith, w.some, w.below, m.below), upper (lo + 1) (omega (arith, w.some))))
    (λ none. upper low' (omega (arith, w.some, w.above))))

-- What is left is what was there and misses the range.
pub split_lies : (before : List FreeRange) (whole : FreeRange) (behind : List FreeRange) (low lo hi t n : ℕ) → 1 ≤ n → Ascending low (before ++ whole ∷ behind) → IsWithin whole lo hi
    → LiesAmong (before ++ ((range_if whole.lo lo ++ range_if hi whole.hi) ++ behind)) t n ↔ (LiesAmong (before ++ whole ∷ behind) t n × Misses t n (record { lo = lo; hi = hi }))
split_lies before whole behind low lo hi t n some up w = (there, λ b. back b.0 b.1)
  where
    m : IsMiddle before whole behind low
    m = middle before whole behind low up

    parts : List FreeRange
    parts = range_if whole.lo lo ++ range_if hi whole.hi

    Whole : Type 0
    Whole = LiesAmong (before ++ whole ∷ behind) t n × Misses t n (record { lo = lo; hi = hi })

    inner : LiesAmong parts t n → Whole
    inner l = elim (lies_either (range_if whole.lo lo) (range_if hi whole.hi) t n l) [
      | inl lower ↦ let b = (lies_if whole.lo lo t n some).0 lower in (lies_right before (whole ∷ behind) t n (inl (b.0, omega (arith, b.1, w.some, w.below))), inl b.1)
      | inr upper ↦ let b = (lies_if hi whole.hi t n some).0 upper in (lies_right before (whole ∷ behind) t n (inl (omega (arith, b.0, w.some, w.above), b.1)), inr b.0)
    ]

    there : LiesAmong (before ++ (parts ++ behind)) t n → Whole
    there l = elim (lies_either before (parts ++ behind) t n l) [
      | inl front ↦ (lies_left before (whole ∷ behind) t n front, inl (omega (arith, m.front t n front, w.above)))
      | inr rest ↦ elim (lies_either parts behind t n rest) [
        | inl here ↦ inner here
        | inr last ↦ (lies_right before (whole ∷ behind) t n (inr last), inr (omega (arith, w.below, lies_above behind (whole.hi + 1) t n m.after last)))
      ]
    ]

    kept : LiesIn whole t n → Misses t n (record { lo = lo; hi = hi }) → LiesAmong parts t n
    kept here misses = elim misses [
      | inl under ↦ lies_left (range_if whole.lo lo) (range_if hi whole.hi) t n ((lies_if whole.lo lo t n some).1 (here.0, under))
      | inr over ↦ lies_right (range_if whole.lo lo) (range_if hi whole.hi) t n ((lies_if hi whole.hi t n some).1 (over, here.1))
    ]

    back : LiesAmong (before ++ whole ∷ behind) t n → Misses t n (record { lo = lo; hi = hi }) → LiesAmong (before ++ (parts ++ behind)) t n
    back l misses = elim (lies_either before (whole ∷ behind) t n l) [
      | inl front ↦ lies_left before (parts ++ behind) t n front
      | inr rest ↦ elim rest [
        | inl here ↦ lies_right before (parts ++ behind) t n (lies_left parts behind t n (kept here misses))
        | inr last ↦ lies_right before (parts ++ behind) t n (lies_right parts behind t n last)
      ]
    ]

-- Of a free range whose end is taken the part below is left.
pub left_below : (whole : FreeRange) (lo hi : ℕ) → whole.lo < lo → whole.hi ≤ hi → range_if whole.lo lo ++ range_if hi whole.hi ≡ range_of whole.lo lo ∷ []
left_below whole lo hi some none =
    range_if_cases (λ rs. rs ++ range_if hi whole.hi ≡ range_of whole.lo lo ∷ []) whole.lo lo
    (λ _. range_if_cases (λ rs. range_of whole.lo lo ∷ rs ≡ range_of whole.lo lo ∷ []) hi whole.hi (λ h. absurd (omega arith)) (λ _. refl))
    (λ h. absurd (omega arith))

-- Of a free range whose beginning is taken the part above is left.
pub left_above : (whole : FreeRange) (lo hi : ℕ) → lo ≤ whole.lo → hi < whole.hi → range_if whole.lo lo ++ range_if hi whole.hi ≡ range_of hi whole.hi ∷ []
left_above whole lo hi none some =
    range_if_cases (λ rs. rs ++ range_if hi whole.hi ≡ range_of hi whole.hi ∷ []) whole.lo lo
    (λ h. absurd (omega arith))
    (λ _. range_if_cases (λ rs. rs ≡ range_of hi whole.hi ∷ []) hi whole.hi (λ _. refl) (λ h. absurd (omega arith)))

-- Where one range is left of a free one, it is put in its place, and the others stay.
pub put_is : (rs : List FreeRange) (k : ℕ) (old new d : FreeRange) (lo hi : ℕ) → k < length rs → old ≡ get_or rs k old
    → range_if old.lo lo ++ range_if hi old.hi ≡ new ∷ []
    → set rs k new ≡ take k rs ++ ((range_if (get_or rs k d).lo lo ++ range_if hi (get_or rs k d).hi) ++ drop (k + 1) rs)
put_is rs k old new d lo hi h is left =
    let same : old ≡ get_or rs k d = is ∙ get_or_default rs k old d h in
    let P : FreeRange → Type 0 = λ r. range_if r.lo lo ++ range_if hi r.hi ≡ new ∷ [] in
    let left' = subst P same left in
    rw add-one (set_split rs k new h ∙ ap (λ ps. take k rs ++ (ps ++ drop (suc k) rs)) (sym left'))

-- The free range that a range lies in is the first that ends behind its begin.
pub place_is : (rs : List FreeRange) (place lo hi : ℕ) → Ascending 0x20000 rs → EndedFirst rs lo place → lo < hi → LiesAmong rs lo (hi - lo) → IsTaken rs place lo hi
place_is rs place lo hi up parted some lies =
    let at = place_of rs lo (hi - lo) lies in
    let blank : FreeRange = range_of 0 0 in
    elim (cases_lt at.place place) [
      | inl before ↦ absurd (omega (arith, parted.first at.place blank before, (at.lies blank).1))
      | inr after ↦ elim (eq-or-lt_of_le after) [
        | inl same ↦ record {
          below = omega (arith, at.below);
          within = λ d. subst (λ k. IsWithin (get_or rs k d) lo hi) (sym same) (record { above = (at.lies d).0; some = some; below = omega (arith, (at.lies d).1) });
        }
        | inr behind ↦ absurd (omega (arith, apart rs 0x20000 up place at.place blank behind at.below, parted.others place blank (omega arith) (omega (arith, at.below)), (at.lies blank).0))
      ]
    ]

-- The same of the range at a place: what is left still ascends.
pub left_ascends : (rs : List FreeRange) (place lo hi : ℕ) (d : FreeRange) → Ascending 0x20000 rs → IsTaken rs place lo hi
    → Ascending 0x20000 (take place rs ++ ((range_if (get_or rs place d).lo lo ++ range_if hi (get_or rs place d).hi) ++ drop (place + 1) rs))
left_ascends rs place lo hi d up t =
    split_ascends (take place rs) (get_or rs place d) (drop (place + 1) rs) 0x20000 lo hi (subst (Ascending 0x20000) (around rs place d t.below) up) (t.within d)

-- What is left there is what was there and misses the range.
pub left_lies : (rs : List FreeRange) (place lo hi t n : ℕ) (d : FreeRange) → Ascending 0x20000 rs → IsTaken rs place lo hi → 1 ≤ n
    → LiesAmong (take place rs ++ ((range_if (get_or rs place d).lo lo ++ range_if hi (get_or rs place d).hi) ++ drop (place + 1) rs)) t n
    ↔ (LiesAmong rs t n × Misses t n (record { lo = lo; hi = hi }))
left_lies rs place lo hi t n d up k some =
    let whole = around rs place d k.below in
    let P : List FreeRange → Type 0 =
    λ xs. LiesAmong (take place rs ++ ((range_if (get_or rs place d).lo lo ++ range_if hi (get_or rs place d).hi) ++ drop (place + 1) rs)) t n
    ↔ (LiesAmong xs t n × Misses t n (record { lo = lo; hi = hi })) in
    subst P (sym whole) (split_lies (take place rs) (get_or rs place d) (drop (place + 1) rs) 0x20000 lo hi t n some (subst (Ascending 0x20000) whole up) (k.within d))

-- The view of a space.
abbrev pub state_of : List FreeRange → ℕ → SpaceState
state_of rs spare = record { taken = gaps 0x20000 rs; spare = spare }

-- What is free when it is taken out is what was free and misses it.
pub taken_out : (rs rs' : List FreeRange) (state : SpaceState) (spare place lo hi : ℕ) (d : FreeRange) → state_of rs spare ≡ state → Ascending 0x20000 rs → IsTaken rs place lo hi
    → rs' ≡ take place rs ++ ((range_if (get_or rs place d).lo lo ++ range_if hi (get_or rs place d).hi) ++ drop (place + 1) rs)
    → (t n : ℕ) → 1 ≤ n → IsFree (gaps 0x20000 rs') t n ↔ (IsFree state.taken t n × Misses t n (record { lo = lo; hi = hi }))
taken_out rs rs' state spare place lo hi d view up at is t n some =
    let up' : Ascending 0x20000 rs' = rw is (left_ascends rs place lo hi d up at) in
    let parts = left_lies rs place lo hi t n d up at some in (
      λ f. let lies = subst (λ (xs : List FreeRange). LiesAmong xs t n) is ((free_is rs' t n some up').0 f) in
          let old = parts.0 lies in
          (subst (λ (s : SpaceState). IsFree s.taken t n) view ((free_is rs t n some up).1 old.0), old.1),
      λ f. let old = (free_is rs t n some up).0 (subst (λ (s : SpaceState). IsFree s.taken t n) (sym view) f.0) in
          (free_is rs' t n some up').1 (subst (λ (xs : List FreeRange). LiesAmong xs t n) (sym is) (parts.1 (old, f.1))),
    )
