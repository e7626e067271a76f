-- Free ranges by their places.
use Rattle.std.proofs.Common.{ℕ, zero, suc, ◌+◌, ◌<◌, ◌≤◌, List, [], ◌∷◌, length, get_or, subst, inl, inr, arith}
use Rattle.std.proofs.Math.Nat.{eq-or-lt_of_le}
use Rattle.std.specs.List.Sorted.{IsNonDecreasingBy}
use Rattle.address_space.specs.declared.free_range.FreeRange.{FreeRange}
use Rattle.address_space.specs.Ranges.{Ascending, IsApart, LiesIn, LiesAmong}

-- A range's ends, by its place.
pub record IsRange (low : ℕ) (r : FreeRange) : Type 0 where
  pub from : low ≤ r.lo
  pub some : r.lo < r.hi
  pub below : r.hi ≤ 0x7FFF0000

-- Each of the ranges that ascend from an address on begins at or above it, has an address, and ends by 0x7FFF0000.
pub range_at : (rs : List FreeRange) (low k : ℕ) (d : FreeRange) → Ascending low rs → k < length rs → IsRange low (get_or rs k d)
range_at [] low k d up h = absurd (omega (arith, h))
range_at (r ∷ rs) low zero d up h = record { from = up.0; some = up.1; below = up.2 }
range_at (r ∷ rs) low (suc k) d up h =
    let next = range_at rs (r.hi + 1) k d up.3 (omega (arith, h)) in
    record { from = omega (arith, up.0, up.1, next.from); some = next.some; below = next.below }

-- Ascending ranges don't touch.
pub apart : (rs : List FreeRange) (low : ℕ) → Ascending low rs → IsApart rs
apart [] low up i j d h l = absurd (omega (arith, l))
apart (r ∷ rs) low up i zero d h l = absurd (omega (arith, h))
apart (r ∷ rs) low up zero (suc j) d h l = omega (arith, (range_at rs (r.hi + 1) j d up.3 (omega (arith, l))).from)
apart (r ∷ rs) low up (suc i) (suc j) d h l = apart rs (r.hi + 1) up.3 i j d (omega (arith, h)) (omega (arith, l))

-- The place of the range that something lies in.
pub record LiesAt (rs : List FreeRange) (t n : ℕ) : Type 0 where
  pub place : ℕ
  pub below : place < length rs
  pub lies : (d : FreeRange) → LiesIn (get_or rs place d) t n

-- What lies among ranges lies in the one at some place.
pub place_of : (rs : List FreeRange) (t n : ℕ) → LiesAmong rs t n → LiesAt rs t n
place_of [] t n l = absurd l
place_of (r ∷ rs) t n l =
    elim l [
      | inl here ↦ record { place = 0; below = omega arith; lies = λ d. here }
      | inr there ↦ let p = place_of rs t n there in record { place = suc p.place; below = omega (arith, p.below); lies = λ d. p.lies d }
    ]

-- What lies in the range at a place lies among the ranges.
pub lies_from : (rs : List FreeRange) (k t n : ℕ) (d : FreeRange) → k < length rs → LiesIn (get_or rs k d) t n → LiesAmong rs t n
lies_from [] k t n d h l = absurd (omega (arith, h))
lies_from (r ∷ rs) zero t n d h l = inl l
lies_from (r ∷ rs) (suc k) t n d h l = inr (lies_from rs k t n d (omega (arith, h)) l)

-- The ends of ascending ranges ascend.
pub ends_rise : (rs : List FreeRange) → Ascending 0x20000 rs → IsNonDecreasingBy (λ r. r.hi) rs
ends_rise rs up i j d h l =
    elim (eq-or-lt_of_le h) [
      | inr less ↦ let a = apart rs 0x20000 up i j d less l in let r = range_at rs 0x20000 j d up l in omega (arith, a, r.some)
      | inl same ↦ let P : ℕ → Type 0 = λ k. (get_or rs i d).hi ≤ (get_or rs k d).hi in subst P same (omega arith)
    ]

-- The beginnings of ascending ranges ascend.
pub begins_rise : (rs : List FreeRange) → Ascending 0x20000 rs → IsNonDecreasingBy (λ r. r.lo) rs
begins_rise rs up i j d h l =
    elim (eq-or-lt_of_le h) [
      | inr less ↦ let a = apart rs 0x20000 up i j d less l in let r = range_at rs 0x20000 i d up (omega arith) in omega (arith, a, r.some)
      | inl same ↦ let P : ℕ → Type 0 = λ k. (get_or rs i d).lo ≤ (get_or rs k d).lo in subst P same (omega arith)
    ]
