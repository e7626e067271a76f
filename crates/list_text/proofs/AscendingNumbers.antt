-- Numbers in ascending order, one after the other and by places.
use Rattle.std.proofs.Common.{◌≡◌, ℕ, zero, suc, ◌+◌, ◌<◌, List, [], ◌∷◌, Option, Some, None, true, refl, subst, arith}
use Rattle.std.specs.Prelude.{slice_index}
use Rattle.std.specs.List.Sorted.{IsStrictlyIncreasing}
use Rattle.std.proofs.lemmas.Bool.{ltb-true, lt-ltb}
use Rattle.list_text.specs.Lists.{is_above}

-- Each number is above the one before it, and the first above `before`.
abbrev pub Ascends : Option ℕ → List ℕ → Type 0
Ascends before [] = Unit {0}
Ascends before (n ∷ ns) = (is_above before n ≡ true) × Ascends (Some n) ns

one_place : (x n : ℕ) (ns : List ℕ) → x < n → IsStrictlyIncreasing (n ∷ ns) → IsStrictlyIncreasing (x ∷ n ∷ ns)
one_place x n ns less s zero h = less
one_place x n ns less s (suc k) h =
    let e : suc (k + 1) ≡ suc k + 1 = omega arith in
    subst (λ (j : ℕ). slice_index (n ∷ ns) k < slice_index (x ∷ n ∷ ns) j) e (s k (omega arith))

by_places : (x : ℕ) (ns : List ℕ) → Ascends (Some x) ns → IsStrictlyIncreasing (x ∷ ns)
by_places x [] a = λ k h. absurd (omega arith)
by_places x (n ∷ ns) a = one_place x n ns (ltb-true x n a.0) (by_places n ns a.1)

-- Numbers of which each is above the one before it increase strictly, by places.
pub increasing : (ns : List ℕ) → Ascends None ns → IsStrictlyIncreasing ns
increasing [] a = λ k h. absurd (omega arith)
increasing (n ∷ ns) a = by_places n ns a.1

later_places : (x : ℕ) (ns : List ℕ) → IsStrictlyIncreasing (x ∷ ns) → IsStrictlyIncreasing ns
later_places x ns s k h =
    let e : suc k + 1 ≡ suc (k + 1) = omega arith in
    subst (λ (j : ℕ). slice_index ns k < slice_index (x ∷ ns) j) e (s (suc k) (omega arith))

by_order : (x : ℕ) (ns : List ℕ) → IsStrictlyIncreasing (x ∷ ns) → Ascends (Some x) ns
by_order x [] s = tt
by_order x (n ∷ ns) s = (lt-ltb x n (s 0 (omega arith)), by_order n ns (later_places x (n ∷ ns) s))

-- Numbers that increase strictly are each above the one before.
pub ascends : (ns : List ℕ) → IsStrictlyIncreasing ns → Ascends None ns
ascends [] s = tt
ascends (n ∷ ns) s = (refl, by_order n ns s)
