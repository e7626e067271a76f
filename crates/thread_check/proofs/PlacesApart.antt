-- Codes sorted by place meet exactly where one begins below the end of the one before it.
use Rattle.std.proofs.Common.{◌≡◌, ◌⊎◌, inl, inr, ℕ, suc, ◌+◌, ◌<◌, ◌≤◌, true, false, cond, eqb, leb, ltb, List, [], ◌∷◌, length, Option, Some, None, refl, sym, ap, ◌∙◌, subst, arith}
use Rattle.std.specs.Prelude.{count_by}
use Rattle.std.specs.List.{list_any}
use Rattle.std.specs.List.Sorted.{IsNonDecreasingBy}
use Rattle.std.proofs.lemmas.Bool.{cases_Bool, cases_lt, and_parts, and_from, or_parts, eq-eqb, leb-true, ltb-true, le-leb, lt-ltb, false_from_ne_true, true≢false}
use Rattle.patch_report.proofs.ListPlaces.{some_is, count_cons}
use Rattle.image_check.specs.declared.placed_code.PlacedCode.{PlacedCode}
use Rattle.image_check.specs.CodeParts.{in_code}
use Rattle.thread_check.specs.LineParts.{first_overlap}

-- the address after a code
abbrev end_of : PlacedCode → ℕ
end_of p = p.line.tramp.place + length p.bytes

-- what a test on the first code gives where none meets
none_below : (place reached : ℕ) (o : Option ℕ) → cond (ltb place reached) (Some place) o ≡ None → (reached ≤ place) × (o ≡ None)
none_below place reached o h = elim (cases_lt place reached) [
  | inl l ↦ absurd (let e : Some place ≡ None = ap (λ b. cond b (Some place) o) (sym (lt-ltb place reached l)) ∙ h in cc)
  | inr l ↦ (l, ap (λ b. cond b (Some place) o) (sym (false_from_ne_true (ltb place reached) (λ t. let k = ltb-true place reached t in absurd (omega (arith, l, k))))) ∙ h)
]

-- an address below a code isn't in it
not_in : (x : ℕ) (p : PlacedCode) → x < p.line.tramp.place → in_code x p ≡ false
not_in x p l = false_from_ne_true (in_code x p) (λ t.
    let q = leb-true p.line.tramp.place x (and_parts (leb p.line.tramp.place x) (ltb x (end_of p)) t).0 in absurd (omega (arith, l, q)))

-- no address below what is reached is in a code
none_in : (x reached : ℕ) (ps : List PlacedCode) → first_overlap reached ps ≡ None → x < reached → count_by (in_code x) ps ≡ 0
none_in x reached [] h l = refl
none_in x reached (p ∷ ps) h l =
    let q = none_below p.line.tramp.place reached (first_overlap (end_of p) ps) h in
    let low = q.0 in
    let n = count_cons (in_code x) p ps ∙ ap (λ b. cond b 1 0 + count_by (in_code x) ps) (not_in x p (omega (arith, l, low))) in
    let k = none_in x (end_of p) ps q.1 (omega (arith, l, low)) in omega (arith, n, k)

-- where no code begins below the end of the one before it, each address is in one code at most
pub in_one : (x reached : ℕ) (ps : List PlacedCode) → first_overlap reached ps ≡ None → count_by (in_code x) ps ≤ 1
in_one x reached [] h = omega arith
in_one x reached (p ∷ ps) h =
    let q = none_below p.line.tramp.place reached (first_overlap (end_of p) ps) h in
    elim (cases_Bool (in_code x p)) [
      | inl t ↦ (let n = count_cons (in_code x) p ps ∙ ap (λ b. cond b 1 0 + count_by (in_code x) ps) t in
          let below : x < end_of p = ltb-true x (end_of p) (and_parts (leb p.line.tramp.place x) (ltb x (end_of p)) t).1 in
          let k = none_in x (end_of p) ps q.1 below in omega (arith, n, k))
      | inr f ↦ (let n = count_cons (in_code x) p ps ∙ ap (λ b. cond b 1 0 + count_by (in_code x) ps) f in
          let k = in_one x (end_of p) ps q.1 in omega (arith, n, k))
    ]

-- no code is empty
abbrev pub HaveBytes : List PlacedCode → Type 0
HaveBytes ps = list_any (λ (p : PlacedCode). eqb (length p.bytes) 0) ps ≡ false

-- a code begins in itself
in_itself : (p : PlacedCode) → eqb (length p.bytes) 0 ≡ false → in_code p.line.tramp.place p ≡ true
in_itself p h =
    let some : 0 < length p.bytes = (elim (cases_lt 0 (length p.bytes)) [
      | inl l ↦ l
      | inr l ↦ absurd (true≢false (sym (eq-eqb (length p.bytes) 0 (omega (arith, l))) ∙ h))
    ]) in
    and_from (leb p.line.tramp.place p.line.tramp.place) (ltb p.line.tramp.place (end_of p)) (le-leb p.line.tramp.place p.line.tramp.place (omega arith))
    (lt-ltb p.line.tramp.place (end_of p) (omega (arith, some)))

-- the first of codes begins at an address below what is reached
record BeginsBelow (x reached : ℕ) (ps : List PlacedCode) : Type 0 where
  first : PlacedCode
  rest : List PlacedCode
  is : ps ≡ first ∷ rest
  at : first.line.tramp.place ≡ x
  below : x < reached

-- the codes after the first rise
rest_rises : (p : PlacedCode) (ps : List PlacedCode) → IsNonDecreasingBy (λ (p : PlacedCode). p.line.tramp.place) (p ∷ ps)
    → IsNonDecreasingBy (λ (p : PlacedCode). p.line.tramp.place) ps
rest_rises p ps h = λ i j d l k. h (suc i) (suc j) d (omega (arith, l)) (omega (arith, k))

-- the address that is given is that at which the first code begins, or in two codes
meets : (x reached : ℕ) (ps : List PlacedCode) → IsNonDecreasingBy (λ (p : PlacedCode). p.line.tramp.place) ps → HaveBytes ps
    → first_overlap reached ps ≡ Some x → BeginsBelow x reached ps ⊎ (2 ≤ count_by (in_code x) ps)
meets x reached [] rise some h = absurd cc
meets x reached (p ∷ ps) rise some h =
    let b = or_parts (eqb (length p.bytes) 0) (list_any (λ (p : PlacedCode). eqb (length p.bytes) 0) ps) some in
    by_test (cases_lt p.line.tramp.place reached) b.0 b.1 (meets x (end_of p) ps (rest_rises p ps rise) b.1)
  where
    -- p and the code after it
    by_next : (q : PlacedCode) (qs : List PlacedCode) → ps ≡ q ∷ qs → q.line.tramp.place ≡ x → x < end_of p → HaveBytes ps → 2 ≤ count_by (in_code x) (p ∷ ps)
    by_next q qs e at below more =
        let first = or_parts (eqb (length q.bytes) 0) (list_any (λ (p : PlacedCode). eqb (length p.bytes) 0) qs) (subst HaveBytes e more) in
        let here : in_code x q ≡ true = subst (λ (z : ℕ). in_code z q ≡ true) at (in_itself q first.0) in
        let rise' : IsNonDecreasingBy (λ (p : PlacedCode). p.line.tramp.place) (p ∷ (q ∷ qs)) =
        subst (λ (z : List PlacedCode). IsNonDecreasingBy (λ (p : PlacedCode). p.line.tramp.place) (p ∷ z)) e rise in
        let low : p.line.tramp.place ≤ q.line.tramp.place = rise' 0 1 p (omega arith) (omega arith) in
        let own : in_code x p ≡ true = and_from (leb p.line.tramp.place x) (ltb x (end_of p)) (le-leb p.line.tramp.place x (omega (arith, low, at))) (lt-ltb x (end_of p) below) in
        let one = ap (count_by (in_code x)) e ∙ count_cons (in_code x) q qs ∙ ap (λ b. cond b 1 0 + count_by (in_code x) qs) here in
        let n = count_cons (in_code x) p ps ∙ ap (λ b. cond b 1 0 + count_by (in_code x) ps) own in
        omega (arith, one, n)

    by_test : (p.line.tramp.place < reached) ⊎ (reached ≤ p.line.tramp.place) → eqb (length p.bytes) 0 ≡ false → HaveBytes ps
        → (first_overlap (end_of p) ps ≡ Some x → BeginsBelow x (end_of p) ps ⊎ (2 ≤ count_by (in_code x) ps))
        → BeginsBelow x reached (p ∷ ps) ⊎ (2 ≤ count_by (in_code x) (p ∷ ps))
    by_test (inl l) own more go =
        let e : Some p.line.tramp.place ≡ Some x = ap (λ b. cond b (Some p.line.tramp.place) (first_overlap (end_of p) ps)) (sym (lt-ltb p.line.tramp.place reached l)) ∙ h in
        let s : p.line.tramp.place ≡ x = some_is p.line.tramp.place x e in
        inl (record { first = p; rest = ps; is = refl; at = s; below = omega (arith, s, l) })
    by_test (inr l) own more go =
        let t : ltb p.line.tramp.place reached ≡ false = false_from_ne_true (ltb p.line.tramp.place reached) (λ t. let k = ltb-true p.line.tramp.place reached t in absurd (omega (arith, l, k))) in
        elim (go (ap (λ b. cond b (Some p.line.tramp.place) (first_overlap (end_of p) ps)) (sym t) ∙ h)) [
          | inl f ↦ inr (by_next f.first f.rest f.is f.at f.below more)
          | inr two ↦ (let n = count_cons (in_code x) p ps in inr (omega (arith, two, n)))
        ]

-- the address that is given is in two codes
pub in_two : (x : ℕ) (ps : List PlacedCode) → IsNonDecreasingBy (λ (p : PlacedCode). p.line.tramp.place) ps → HaveBytes ps
    → first_overlap 0 ps ≡ Some x → 2 ≤ count_by (in_code x) ps
in_two x ps rise some h = elim (meets x 0 ps rise some h) [
  | inl f ↦ (let b = f.below in absurd (omega (arith, b)))
  | inr two ↦ two
]
