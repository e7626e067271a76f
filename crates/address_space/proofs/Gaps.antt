-- What lies among the free ranges misses what lies between them.
use Rattle.std.proofs.Common.{ℕ, ◌+◌, ◌≤◌, ◌⊎◌, ◌↔◌, List, [], ◌∷◌, inl, inr, arith}
use Rattle.std.specs.List.{AllByRecursion}
use Rattle.std.proofs.lemmas.List.Elements.{All-from_recursion, recursion_from_All}
use Rattle.address_space.specs.declared.free_range.FreeRange.{FreeRange}
use Rattle.address_space.specs.Free.{Misses, IsFree}
use Rattle.address_space.specs.Ranges.{Ascending, gaps, LiesAmong}

-- What misses the gaps ends by the first gap's begin or lies among the ranges.
lies_or_ends : (rs : List FreeRange) (low t n : ℕ) → 1 ≤ n → t + n ≤ 0x7FFF0000 → AllByRecursion (Misses t n) (gaps low rs) → (t + n ≤ low) ⊎ LiesAmong rs t n
lies_or_ends [] low t n some below m = elim m.0 [ inl under ↦ inl under | inr over ↦ absurd (omega arith) ]
lies_or_ends (r ∷ rs) low t n some below m =
    elim m.0 [
      | inl under ↦ inl under
      | inr over ↦ elim (lies_or_ends rs r.hi t n some below m.1) [ inl ends ↦ inr (inl (over, ends)) | inr lies ↦ inr (inr lies) ]
    ]

-- What ends by the first gap's begin misses all gaps.
under_gaps : (rs : List FreeRange) (low from t n : ℕ) → Ascending from rs → low ≤ from → t + n ≤ low → AllByRecursion (Misses t n) (gaps low rs)
under_gaps [] low from t n up below ends = (inl ends, tt)
under_gaps (r ∷ rs) low from t n up below ends = (inl ends, under_gaps rs r.hi (r.hi + 1) t n up.3 (omega arith) (omega (arith, up.0, up.1)))

-- What lies among the ranges begins at or above the first.
pub lies_above : (rs : List FreeRange) (from t n : ℕ) → Ascending from rs → LiesAmong rs t n → from ≤ t
lies_above [] from t n up l = absurd l
lies_above (r ∷ rs) from t n up l = elim l [ inl here ↦ omega (arith, up.0, here.0) | inr there ↦ omega (arith, up.0, up.1, lies_above rs (r.hi + 1) t n up.3 there) ]

-- What lies among the ranges ends by 0x7FFF0000.
pub lies_below : (rs : List FreeRange) (from t n : ℕ) → Ascending from rs → LiesAmong rs t n → t + n ≤ 0x7FFF0000
lies_below [] from t n up l = absurd l
lies_below (r ∷ rs) from t n up l = elim l [ inl here ↦ omega (arith, up.2, here.1) | inr there ↦ lies_below rs (r.hi + 1) t n up.3 there ]

-- What lies among the ranges misses all gaps.
lies_misses : (rs : List FreeRange) (low from t n : ℕ) → Ascending from rs → low ≤ from → LiesAmong rs t n → AllByRecursion (Misses t n) (gaps low rs)
lies_misses [] low from t n up below l = absurd l
lies_misses (r ∷ rs) low from t n up below l =
    elim l [
      | inl here ↦ (inr here.0, under_gaps rs r.hi (r.hi + 1) t n up.3 (omega arith) here.1)
      | inr there ↦ (inr (omega (arith, up.1, lies_above rs (r.hi + 1) t n up.3 there)), lies_misses rs r.hi (r.hi + 1) t n up.3 (omega arith) there)
    ]

-- n addresses are free exactly where they lie in one of the free ranges.
pub free_is : (rs : List FreeRange) (t n : ℕ) → 1 ≤ n → Ascending 0x20000 rs → IsFree (gaps 0x20000 rs) t n ↔ LiesAmong rs t n
free_is rs t n some up = (
  λ f. elim (lies_or_ends rs 0x20000 t n some f.below (recursion_from_All (Misses t n) (gaps 0x20000 rs) f.misses)) [
    | inl ends ↦ absurd (omega (arith, f.above))
    | inr lies ↦ lies
  ],
  λ l. record {
    above = lies_above rs 0x20000 t n up l;
    below = lies_below rs 0x20000 t n up l;
    misses = All-from_recursion (Misses t n) (gaps 0x20000 rs) (lies_misses rs 0x20000 0x20000 t n up (omega arith) l);
  },
)
