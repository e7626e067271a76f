-- A stable sort by `p_vaddr` is the definition's order.
use Rattle.std.proofs.Common.{◌≡◌, ℕ, zero, suc, ◌<◌, ◌≤◌, inl, inr, Bool, true, false, cond, nat_le, List, [], ◌∷◌, length, get_or, filter, nat_cmp, is_lt, refl, sym, ap, ◌∙◌, arith, suc-le-suc, zero-le}
use Rattle.std.specs.List.{AllByRecursion}
use Rattle.std.specs.List.Sorted.{ties, IsNonDecreasingBy, IsStableByKey}
use Rattle.std.proofs.lemmas.Bool.{cases_Bool, cond-true, cond-false, leb-true, leb-false}
use Rattle.std.proofs.lemmas.Bool.Decides.{nat_tests}
use Rattle.elf_read.specs.declared.segment.Segment.{Segment}
use Rattle.elf_emit.specs.Layout.{insert_load, in_order}
use Rattle.elf_emit.proofs.StayingSegments.{all_map}
use Rattle.elf_emit.proofs.WrittenTable.{all_insert}

-- segments tie where their addresses are the same
abbrev tie : Segment → Segment → Bool
tie = ties (λ s t. is_lt (nat_cmp s.vaddr t.vaddr))

-- two numbers tie exactly where they are the same
ties_at : (m n : ℕ) → (ties (λ x y. is_lt (nat_cmp x y)) m n ≡ true → m ≡ n) × (m ≡ n → ties (λ x y. is_lt (nat_cmp x y)) m n ≡ true)
ties_at m n = (λ h. grind (arith, nat_tests), λ h. grind (arith, nat_tests))

-- a tie's addresses
tie-true : (s t : Segment) → tie s t ≡ true → s.vaddr ≡ t.vaddr
tie-true s t = (ties_at s.vaddr t.vaddr).0

-- a tie from its addresses
tie_from : (s t : Segment) → s.vaddr ≡ t.vaddr → tie s t ≡ true
tie_from s t = (ties_at s.vaddr t.vaddr).1

-- an element that passes
kept : (p : Segment → Bool) (t : Segment) (ts : List Segment) → p t ≡ true → filter p (t ∷ ts) ≡ t ∷ filter p ts
kept p t ts h = cond-true _ _ _ h

-- an element that doesn't pass
dropped : (p : Segment → Bool) (t : Segment) (ts : List Segment) → p t ≡ false → filter p (t ∷ ts) ≡ filter p ts
dropped p t ts h = cond-false _ _ _ h

-- an insertion keeps ties in their order
ties_insert : (x s : Segment) (ts : List Segment) → filter (tie x) (insert_load s ts) ≡ filter (tie x) (s ∷ ts)
ties_insert x s [] = refl
ties_insert x s (t ∷ ts) = elim (cases_Bool (nat_le s.vaddr t.vaddr)) [
  | inl b ↦ ap (filter (tie x)) (cond-true (nat_le s.vaddr t.vaddr) (s ∷ t ∷ ts) (t ∷ insert_load s ts) b)
  | inr b ↦
      ap (filter (tie x)) (cond-false (nat_le s.vaddr t.vaddr) (s ∷ t ∷ ts) (t ∷ insert_load s ts) b)
      ∙ elim (cases_Bool (tie x t)) [
        | inr without ↦
            dropped (tie x) t (insert_load s ts) without ∙ ties_insert x s ts
            ∙ ap (λ (l : List Segment). cond (tie x s) (s ∷ l) l) (sym (dropped (tie x) t ts without))
        | inl with ↦
            elim (cases_Bool (tie x s)) [
              | inl both ↦ absurd (omega (arith, leb-false _ _ b, tie-true x s both, tie-true x t with))
              | inr only ↦
                  kept (tie x) t (insert_load s ts) with ∙ ap (λ (l : List Segment). t ∷ l) (ties_insert x s ts ∙ dropped (tie x) s ts only)
                  ∙ sym (dropped (tie x) s (t ∷ ts) only ∙ kept (tie x) t ts with)
            ]
      ]
]

-- the definition keeps ties in their order
ties_order : (x : Segment) (ss : List Segment) → filter (tie x) (in_order ss) ≡ filter (tie x) ss
ties_order x [] = refl
ties_order x (s ∷ ss) = ties_insert x s (in_order ss) ∙ ap (λ (l : List Segment). cond (tie x s) (s ∷ l) l) (ties_order x ss)

-- addresses from a number on
abbrev AtLeast : ℕ → List Segment → Type 0
AtLeast n ts = AllByRecursion (λ t. n ≤ t.vaddr) ts

-- addresses that don't fall
abbrev Rises : List Segment → Type 0
Rises [] = Unit {0}
Rises (t ∷ ts) = AtLeast t.vaddr ts × Rises ts

-- the same by places
at_least : (n : ℕ) (d : Segment) (ts : List Segment) → ((j : ℕ) → j < length ts → n ≤ (get_or ts j d).vaddr) → AtLeast n ts
at_least n d [] h = tt
at_least n d (t ∷ ts) h = (h zero (suc-le-suc zero-le), at_least n d ts (λ j l. h (suc j) (suc-le-suc l)))

-- what std calls sorted rises
rises_sorted : (ts : List Segment) → IsNonDecreasingBy (λ t. t.vaddr) ts → Rises ts
rises_sorted [] h = tt
rises_sorted (t ∷ ts) h = (
  at_least t.vaddr t ts (λ j l. h zero (suc j) t zero-le (suc-le-suc l)),
  rises_sorted ts (λ i j d k l. h (suc i) (suc j) d (suc-le-suc k) (suc-le-suc l)),
)

-- an insertion keeps a list rising
rises_insert : (s : Segment) (ts : List Segment) → Rises ts → Rises (insert_load s ts)
rises_insert s [] h = (tt, tt)
rises_insert s (t ∷ ts) h = step (nat_le s.vaddr t.vaddr) refl (rises_insert s ts h.1)
  where
    step : (b : Bool) → nat_le s.vaddr t.vaddr ≡ b → Rises (insert_load s ts) → Rises (cond b (s ∷ t ∷ ts) (t ∷ insert_load s ts))
    step true e r =
        let l = leb-true s.vaddr t.vaddr e in
        ((l, all_map (λ u. t.vaddr ≤ u.vaddr) (λ u. s.vaddr ≤ u.vaddr) ts (λ u k. omega arith) h.0), h)
    step false e r =
        let l = leb-false s.vaddr t.vaddr e in
        (all_insert (λ u. t.vaddr ≤ u.vaddr) s ts (omega arith) h.0, r)

-- the definition's order rises
rises_order : (ss : List Segment) → Rises (in_order ss)
rises_order [] = tt
rises_order (s ∷ ss) = rises_insert s (in_order ss) (rises_order ss)

-- an address that occurs is no lower than the least
found : (n : ℕ) (x : Segment) (ts : List Segment) (w : Segment) (ws : List Segment)
    → AtLeast n ts → filter (tie x) ts ≡ w ∷ ws → n ≤ x.vaddr
found n x [] w ws h e = cc
found n x (t ∷ ts) w ws h e = elim (cases_Bool (tie x t)) [
  | inl with ↦ omega (arith, h.0, tie-true x t with)
  | inr without ↦ found n x ts w ws h.1 (sym (dropped (tie x) t ts without) ∙ e)
]

-- rising lists with the same ties are the same
same_ties : (ys zs : List Segment) → Rises ys → Rises zs → ((x : Segment) → filter (tie x) ys ≡ filter (tie x) zs) → ys ≡ zs
same_ties [] [] left right same = refl
same_ties [] (z ∷ zs) left right same = let clash = same z ∙ kept (tie z) z zs (tie_from z z refl) in cc
same_ties (y ∷ ys) [] left right same = let clash = sym (same y) ∙ kept (tie y) y ys (tie_from y y refl) in cc
same_ties (y ∷ ys) (z ∷ zs) left right same =
    let at_y = kept (tie y) y ys (tie_from y y refl) in
    let at_z = kept (tie z) z zs (tie_from z z refl) in
    let up = found z.vaddr y (z ∷ zs) y _ (omega arith, right.0) (sym (same y) ∙ at_y) in
    let down = found y.vaddr z (y ∷ ys) z _ (omega arith, left.0) (same z ∙ at_z) in
    let heads = sym at_y ∙ same y ∙ kept (tie y) z zs (tie_from y z (omega arith)) in
    let head : y ≡ z = cc in
    let tails : (x : Segment) → filter (tie x) ys ≡ filter (tie x) zs =
    λ x. elim (cases_Bool (tie x y)) [
      | inl with ↦ let both = sym (kept (tie x) y ys with) ∙ same x ∙ kept (tie x) z zs (ap (tie x) (sym head) ∙ with) in cc
      | inr without ↦ sym (dropped (tie x) y ys without) ∙ same x ∙ dropped (tie x) z zs (ap (tie x) (sym head) ∙ without)
    ] in
    ap (λ w. w ∷ ys) head ∙ ap (λ l. z ∷ l) (same_ties ys zs left.1 right.1 tails)

-- what a stable sort ensures gives the definition's order
pub in_order-from_sort : (xs ys : List Segment)
    → IsNonDecreasingBy (λ s. s.vaddr) ys → IsStableByKey (λ s. s.vaddr) nat_cmp xs ys → ys ≡ in_order xs
in_order-from_sort xs ys sorted stable =
    same_ties ys (in_order xs) (rises_sorted ys sorted) (rises_order xs) (λ x. stable x ∙ sym (ties_order x xs))
