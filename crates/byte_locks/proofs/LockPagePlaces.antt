-- The place of a number among pages that ascend.
use Rattle.std.proofs.Common.{◌≡◌, ℕ, zero, suc, ◌+◌, ◌<◌, ◌≤◌, true, false, nat_lt, List, [], ◌∷◌, length, get_or, sym, ap, ◌∙◌, subst, inl, inr, arith}
use Rattle.std.specs.List.Sorted.{IsNonDecreasingBy}
use Rattle.std.proofs.lemmas.Bool.{cases_eq, cond-true, cond-false}
use Rattle.byte_locks.specs.declared.page.Page.{Page}
use Rattle.byte_locks.specs.Pages.{Ascending, count_lower}

-- each of the pages that ascend from a number on has at least that number
pub low_first : (low k : ℕ) (ps : List Page) (d : Page) → Ascending low ps → k < length ps → low ≤ (get_or ps k d).number
low_first low k [] d up l = absurd (omega arith)
low_first low zero (p ∷ ps) d up l = up.0
low_first low (suc k) (p ∷ ps) d up l = let e = low_first (p.number + 1) k ps d up.1 (omega arith) in let q = up.0 in omega arith

below_next : (low j k : ℕ) (ps : List Page) (d : Page) → Ascending low ps → j < k → k < length ps
    → (get_or ps j d).number ≤ (get_or ps k d).number
below_next low j k [] d up p l = absurd (omega arith)
below_next low j zero (r ∷ ps) d up p l = absurd (omega arith)
below_next low zero (suc k) (r ∷ ps) d up p l = let e = low_first (r.number + 1) k ps d up.1 (omega arith) in omega arith
below_next low (suc j) (suc k) (r ∷ ps) d up p l = below_next (r.number + 1) j k ps d up.1 (omega arith) (omega arith)

-- pages that ascend are in the order of their numbers
pub non_decreasing : (ps : List Page) → Ascending 0 ps → IsNonDecreasingBy (λ p. p.number) ps
non_decreasing ps up i j d p l = elim (cases_eq i j) [
  | inl e ↦ subst (λ (k : ℕ). (get_or ps i d).number ≤ (get_or ps k d).number) e (omega arith)
  | inr n ↦ below_next 0 i j ps d up (omega arith) l
]

-- where the first i have lower numbers and the others have not, i have lower numbers
pub lower_is : (ps : List Page) (n i : ℕ) → i ≤ length ps → ((k : ℕ) (d : Page) → k < i → nat_lt (get_or ps k d).number n ≡ true)
    → ((k : ℕ) (d : Page) → i ≤ k → k < length ps → nat_lt (get_or ps k d).number n ≡ false) → i ≡ count_lower ps n
lower_is [] n i l f g = omega arith
lower_is (p ∷ ps) n zero l f g = sym (cond-false (nat_lt p.number n) _ _ (g 0 p (omega arith) (omega arith)))
lower_is (p ∷ ps) n (suc i) l f g =
    ap suc (lower_is ps n i (omega arith) (λ k d m. f (suc k) d (omega arith)) (λ k d m n. g (suc k) d (omega arith) (omega arith)))
    ∙ sym (cond-true (nat_lt p.number n) _ _ (f 0 p (omega arith)))
