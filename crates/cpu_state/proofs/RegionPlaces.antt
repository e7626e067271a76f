-- The place of an address among regions that ascend.
use Rattle.std.proofs.Common.{◌≡◌, ℕ, zero, suc, ◌+◌, ◌<◌, ◌≤◌, true, false, nat_le, List, [], ◌∷◌, length, get_or, sym, ap, ◌∙◌, subst, inl, inr, arith}
use Rattle.std.specs.List.Sorted.{IsNonDecreasingBy}
use Rattle.std.proofs.lemmas.Bool.{cases_eq, cond-true, cond-false}
use Rattle.cpu_state.specs.declared.regions.MemoryRegion.{MemoryRegion}
use Rattle.cpu_state.specs.Regions.{Ascending, begun}

-- each of the regions that ascend from an address on begins at or above it
pub low_first : (low k : ℕ) (rs : List MemoryRegion) (d : MemoryRegion) → Ascending low rs → k < length rs → low ≤ (get_or rs k d).lo
low_first low k [] d up l = absurd (omega arith)
low_first low zero (r ∷ rs) d up l = up.0
low_first low (suc k) (r ∷ rs) d up l = let e = low_first (r.lo + length r.bytes.items) k rs d up.2 (omega arith) in let p = up.0 in omega arith

below_next : (low j k : ℕ) (rs : List MemoryRegion) (d : MemoryRegion) → Ascending low rs → j < k → k < length rs → (get_or rs j d).lo ≤ (get_or rs k d).lo
below_next low j k [] d up p l = absurd (omega arith)
below_next low j zero (r ∷ rs) d up p l = absurd (omega arith)
below_next low zero (suc k) (r ∷ rs) d up p l = let e = low_first (r.lo + length r.bytes.items) k rs d up.2 (omega arith) in omega arith
below_next low (suc j) (suc k) (r ∷ rs) d up p l = below_next (r.lo + length r.bytes.items) j k rs d up.2 (omega arith) (omega arith)

-- regions that ascend are in the order of their beginnings
pub non_decreasing : (rs : List MemoryRegion) → Ascending 0 rs → IsNonDecreasingBy (λ r. r.lo) rs
non_decreasing rs up i j d p l = elim (cases_eq i j) [
  | inl e ↦ subst (λ (k : ℕ). (get_or rs i d).lo ≤ (get_or rs k d).lo) e (omega arith)
  | inr n ↦ below_next 0 i j rs d up (omega arith) l
]

-- where the first i begin at or below an address and the others above it, i have begun
pub begun_is : (rs : List MemoryRegion) (a i : ℕ) → i ≤ length rs → ((k : ℕ) (d : MemoryRegion) → k < i → nat_le (get_or rs k d).lo a ≡ true)
    → ((k : ℕ) (d : MemoryRegion) → i ≤ k → k < length rs → nat_le (get_or rs k d).lo a ≡ false) → i ≡ begun rs a
begun_is [] a i l f g = omega arith
begun_is (r ∷ rs) a zero l f g = sym (cond-false (nat_le r.lo a) _ _ (g 0 r (omega arith) (omega arith)))
begun_is (r ∷ rs) a (suc i) l f g =
    ap suc (begun_is rs a i (omega arith) (λ k d m. f (suc k) d (omega arith)) (λ k d m n. g (suc k) d (omega arith) (omega arith)))
    ∙ sym (cond-true (nat_le r.lo a) _ _ (f 0 r (omega arith)))
