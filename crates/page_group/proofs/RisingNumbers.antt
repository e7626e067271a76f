-- Rising numbers are told by which they are.
use Rattle.std.proofs.Common.{◌≡◌, ℕ, zero, suc, ◌<◌, ◌≤◌, ◌⊎◌, inl, inr, List, [], ◌∷◌, length, get_or, refl, sym, ap₂, subst, arith}
use Rattle.std.specs.Prelude.{Contains}
use Rattle.std.specs.List.Sorted.{IsStrictlyIncreasing}
use Rattle.std.proofs.lemmas.List.Kept.{AllPairs-from_increasing}

-- each number is lower than those behind it
abbrev pub RiseAll : List ℕ → Type 0
RiseAll xs = (i j d : ℕ) → i < j → j < length xs → get_or xs i d < get_or xs j d

-- those behind the first rise too
rest_rises : (x : ℕ) (xs : List ℕ) → RiseAll (x ∷ xs) → RiseAll xs
rest_rises x xs r i j d l m = r (suc i) (suc j) d (omega arith) (omega arith)

-- an element is the first or a later one
first_or_later : (x y : ℕ) (ys : List ℕ) → Contains (y ∷ ys) x → (x ≡ y) ⊎ Contains ys x
first_or_later x y ys (zero, l, e) = inl (sym e)
first_or_later x y ys (suc k, l, e) = inr (k, omega arith, e)

-- a later one is one of them all
later : (x y : ℕ) (ys : List ℕ) → Contains ys x → Contains (y ∷ ys) x
later x y ys c = let l = c.1 in (suc c.0, omega arith, c.2)

-- a later one is above the first
above_first : (x y : ℕ) (ys : List ℕ) → RiseAll (y ∷ ys) → Contains ys x → y < x
above_first x y ys r c =
    let l = c.1 in
    let a = r 0 (suc c.0) x (omega arith) (omega arith) in
    omega (arith, a, c.2)

-- the first is the least
least_first : (x y : ℕ) (ys : List ℕ) → RiseAll (y ∷ ys) → Contains (y ∷ ys) x → y ≤ x
least_first x y ys r c = elim (first_or_later x y ys c) [
  | inl e ↦ omega (arith, e)
  | inr d ↦ (let l = above_first x y ys r d in omega (arith, l))
]

-- which numbers stand behind the first that both lists have
behind : (p : ℕ) (ps qs : List ℕ) → RiseAll (p ∷ ps) → ((x : ℕ) → Contains (p ∷ ps) x → Contains (p ∷ qs) x)
    → (x : ℕ) → Contains ps x → Contains qs x
behind p ps qs r f x c = elim (first_or_later x p qs (f x (later x p ps c))) [
  | inl e ↦ (let l = above_first x p ps r c in absurd (omega (arith, l, e)))
  | inr d ↦ d
]

-- two lists that rise and have the same numbers are one
same_rising : (ps qs : List ℕ) → RiseAll ps → RiseAll qs → ((x : ℕ) → Contains ps x → Contains qs x)
    → ((x : ℕ) → Contains qs x → Contains ps x) → ps ≡ qs
same_rising [] [] r s f g = refl
same_rising [] (q ∷ qs) r s f g = let c = g q (zero, omega arith, refl) in let l = c.1 in absurd (omega arith)
same_rising (p ∷ ps) [] r s f g = let c = f p (zero, omega arith, refl) in let l = c.1 in absurd (omega arith)
same_rising (p ∷ ps) (q ∷ qs) r s f g =
    let a = least_first p q qs s (f p (zero, omega arith, refl)) in
    let b = least_first q p ps r (g q (zero, omega arith, refl)) in
    let e : p ≡ q = omega (arith, a, b) in
    let r' : RiseAll (q ∷ ps) = subst (λ (z : ℕ). RiseAll (z ∷ ps)) e r in
    let f' : (x : ℕ) → Contains (q ∷ ps) x → Contains (q ∷ qs) x =
    subst (λ (z : ℕ). (x : ℕ) → Contains (z ∷ ps) x → Contains (q ∷ qs) x) e f in
    let g' : (x : ℕ) → Contains (q ∷ qs) x → Contains (q ∷ ps) x =
    subst (λ (z : ℕ). (x : ℕ) → Contains (q ∷ qs) x → Contains (z ∷ ps) x) e g in
    ap₂ (λ (x : ℕ) (xs : List ℕ). x ∷ xs) e
    (same_rising ps qs (rest_rises p ps r) (rest_rises q qs s) (behind q ps qs r' f') (behind q qs ps s g'))

-- two lists that ascend strictly and have the same numbers are one
pub rising_once : (ps qs : List ℕ) → IsStrictlyIncreasing ps → IsStrictlyIncreasing qs → ((x : ℕ) → Contains ps x → Contains qs x)
    → ((x : ℕ) → Contains qs x → Contains ps x) → ps ≡ qs
rising_once ps qs r s = same_rising ps qs (AllPairs-from_increasing ps r) (AllPairs-from_increasing qs s)
