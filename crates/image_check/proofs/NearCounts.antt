-- What is counted among things near an address is counted among all.
use Rattle.std.proofs.Common.{◌≡◌, ℕ, zero, suc, ◌+◌, ◌-◌, ◌<◌, ◌≤◌, Bool, true, false, cond, ltb, leb, List, [], ◌∷◌, length, get_or, take, drop, map, refl, sym, ap, ap₂, ◌∙◌, subst, arith}
use Rattle.std.specs.Prelude.{◌&&◌, nat_le, nat_lt}
use Rattle.std.specs.List.{count_by, list_any}
use Rattle.std.specs.List.Sorted.{IsPartitionPoint, IsPermutation, IsNonDecreasingBy}
use Rattle.std.proofs.lemmas.Bool.{and_parts, ltb-true, leb-true, leb-false, false_from_ne_true}
use Rattle.std.proofs.lemmas.List.{get_or-take, get_or-drop, length-take, length-drop}
use Rattle.std.proofs.lemmas.List.Sums.{sum_by-take-drop, sum_by-take-le}
use Rattle.std.proofs.lemmas.List.Sorted.{sum_by-IsPermutation}
use Rattle.pun_base.specs.declared.plan.Write.{Write}
use Rattle.patch_report.specs.Grammar.{AscendFrom}
use Rattle.patch_report.specs.Values.{write_value}
use Rattle.image_check.specs.Nearness.{IsNear}
use Rattle.sound_images.specs.Reports.{in_run}
use Rattle.sound_images.proofs.CountedElements.{by_count, count_cons}

-- nothing is counted where nothing passes
none_counted : {X : Type 0} (p : X → Bool) (xs : List X) → ((k : ℕ) (d : X) → k < length xs → p (get_or xs k d) ≡ false) → count_by p xs ≡ 0
none_counted p [] h = refl
none_counted p (x ∷ xs) h =
    count_cons p x xs ∙ ap₂ (λ (b : Bool) (n : ℕ). cond b 1 0 + n) (h 0 x (omega arith)) (none_counted p xs (λ k d l. h (suc k) d
    (omega (arith, l))))

-- the part between two places of a sorted list
pub near_is : {X : Type 0} (first : X → ℕ) (size x low : ℕ) (xs : List X) (i j : ℕ) → i ≤ length xs → low ≡ x - size
    → IsPartitionPoint (λ y. ltb (first y) low ≡ true) (λ y. ltb (first y) low ≡ false) xs i
    → IsPartitionPoint (λ y. leb (first y) x ≡ true) (λ y. leb (first y) x ≡ false) (drop i xs) j
    → IsNear (λ (y : X). y) first size x (take j (drop i xs)) xs
near_is {X} first size x low xs i j bound over a b p h =
    let f : X → ℕ = λ y. cond (p y) 1 0 in
    let below : count_by p (take i xs) ≡ 0 = none_counted p (take i xs) (λ k d l. false_from_ne_true _ (λ t.
    let m : k < i = omega (arith, l, length-take i xs, bound) in
    let w = h (get_or xs k d) (sym (ap p (get_or-take i xs k d m)) ∙ t) in
    let q = ltb-true _ _ (a.0 k d (omega arith) m) in
    omega (arith, w.0, w.1, q, over))) in
    let above : count_by p (drop j (drop i xs)) ≡ 0 = none_counted p (drop j (drop i xs)) (λ k d l. false_from_ne_true _ (λ t.
    let w = h (get_or (drop i xs) (j + k) d) (sym (ap p (get_or-drop j (drop i xs) k d)) ∙ t) in
    let q = leb-false _ _ (b.1 (j + k) d (omega arith) (omega (arith, l, length-drop j (drop i xs)))) in
    omega (arith, w.0, q))) in
    let s : count_by p (take i xs) + count_by p (drop i xs) ≡ count_by p xs = sum_by-take-drop f xs i in
    let r : count_by p (take j (drop i xs)) + count_by p (drop j (drop i xs)) ≡ count_by p (drop i xs) = sum_by-take-drop f (drop i xs) j in
    omega (arith, below, above, s, r)

-- a test of what a list is mapped to counts as much
pub count_map : {X Y : Type 0} (p : Y → Bool) (f : X → Y) (xs : List X) → count_by p (map f xs) ≡ count_by (λ x. p (f x)) xs
count_map p f [] = refl
count_map p f (x ∷ xs) =
    count_cons p (f x) (map f xs) ∙ ap (λ (n : ℕ). cond (p (f x)) 1 0 + n) (count_map p f xs) ∙ sym (count_cons (λ z. p (f z)) x xs)

-- the order of a list doesn't count
pub count_moved : {X : Type 0} (p : X → Bool) (xs ys : List X) → IsPermutation xs ys → count_by p ys ≡ count_by p xs
count_moved p xs ys h = sum_by-IsPermutation (λ y. cond (p y) 1 0) xs ys h

-- near what a list stands for, in any order
pub near_told : {X Y : Type 0} (view : X → Y) (first : X → ℕ) (size x : ℕ) (near xs : List X) (all : List Y)
    → IsNear (λ (y : X). y) first size x near xs → IsPermutation all (map view xs) → IsNear view first size x near all
near_told view first size x near xs all n h p w =
    n (λ y. p (view y)) w ∙ sym (count_map p view xs) ∙ count_moved p all (map view xs) h

-- where the part after the first place is given, its elements up to the second place are those near an address
pub near_from : {X : Type 0} (first : X → ℕ) (size x low : ℕ) (xs rest : List X) (i j : ℕ) → i ≤ length xs → low ≡ x - size
    → rest ≡ drop i xs
    → IsPartitionPoint (λ y. ltb (first y) low ≡ true) (λ y. ltb (first y) low ≡ false) xs i
    → IsPartitionPoint (λ y. leb (first y) x ≡ true) (λ y. leb (first y) x ≡ false) rest j
    → IsNear (λ (y : X). y) first size x (take j rest) xs
near_from {X} first size x low xs rest i j bound over e a b =
    let P : List X → Type 0 = λ z. IsNear (λ (y : X). y) first size x (take j z) xs in
    let Q : List X → Type 0 = λ z. IsPartitionPoint (λ y. leb (first y) x ≡ true) (λ y. leb (first y) x ≡ false) z j in
    subst P (sym e) (near_is first size x low xs i j bound over a (subst Q e b))

-- a test that passes something near passes something
pub any_near : {X Y : Type 0} (view : X → Y) (first : X → ℕ) (size x : ℕ) (near : List X) (all : List Y) → IsNear view first size x near all
    → (p : Y → Bool) → ((y : X) → p (view y) ≡ true → (first y ≤ x) × (x < first y + size))
    → list_any (λ y. p (view y)) near ≡ list_any p all
any_near view first size x near all n p w =
    by_count (λ y. p (view y)) near ∙ ap (λ (k : ℕ). ltb 0 k) (n p w) ∙ sym (by_count p all)

-- each page is above those before it
page_above : (low : ℕ) (ps : List (ℕ × ℕ)) → AscendFrom low ps → (j : ℕ) (d : ℕ × ℕ) → j < length ps → low ≤ (get_or ps j d).0
page_above low [] a j d l = absurd (omega (arith, l))
page_above low (p ∷ ps) a zero d l = a.0
page_above low (p ∷ ps) a (suc j) d l = let r = page_above (p.0 + 1) ps a.1 j d (omega (arith, l)) in omega (arith, r, a.0)

-- pages that ascend rise by their addresses
pub pages_rise : (low : ℕ) (ps : List (ℕ × ℕ)) → AscendFrom low ps → IsNonDecreasingBy (λ (p : ℕ × ℕ). p.0) ps
pages_rise low [] a i j d m l = absurd (omega (arith, l))
pages_rise low (p ∷ ps) a zero zero d m l = omega arith
pages_rise low (p ∷ ps) a zero (suc j) d m l = let r = page_above (p.0 + 1) ps a.1 j d (omega (arith, l)) in omega (arith, r)
pages_rise low (p ∷ ps) a (suc i) zero d m l = absurd (omega (arith, m))
pages_rise low (p ∷ ps) a (suc i) (suc j) d m l = pages_rise (p.0 + 1) ps a.1 i j d (omega (arith, m)) (omega (arith, l))

-- an address on a page lies from the page's first address on and less than 4096 bytes above it
page_held : (x : ℕ) (p : ℕ × ℕ) → (nat_le p.0 x && nat_lt x (p.0 + 4096)) ≡ true → (p.0 ≤ x) × (x < p.0 + 4096)
page_held x p h = let q = and_parts (nat_le p.0 x) _ h in (leb-true p.0 x q.0, ltb-true x (p.0 + 4096) q.1)

-- an address is on a page near it, or on none
pub page_near : (x : ℕ) (near ps : List (ℕ × ℕ)) → IsNear (λ (p : ℕ × ℕ). p) (λ (p : ℕ × ℕ). p.0) 4096 x near ps
    → list_any (λ (p : ℕ × ℕ). nat_le p.0 x && nat_lt x (p.0 + 4096)) near ≡ list_any (λ (p : ℕ × ℕ). nat_le p.0 x && nat_lt x
    (p.0 + 4096)) ps
page_near x near ps n =
    any_near (λ (p : ℕ × ℕ). p) (λ (p : ℕ × ℕ). p.0) 4096 x near ps n (λ (p : ℕ × ℕ). nat_le p.0 x && nat_lt x (p.0 + 4096)) (page_held x)

-- a run that holds an address is near it
pub run_held : (x : ℕ) (w : Write) → in_run x (write_value w) ≡ true → (w.addr ≤ x) × (x < w.addr + 16)
run_held x w h =
    let q = and_parts (nat_le w.addr x) _ h in
    let l = ltb-true x (w.addr + length w.was) q.1 in
    (leb-true w.addr x q.0, omega (arith, l, w.equal, w.fits))

-- a part of a list has no more than all of it
pub part_is : {X : Type 0} (xs rest : List X) (i j : ℕ) → rest ≡ drop i xs → (q : X → Bool) → count_by q (take j rest) ≤ count_by q xs
part_is {X} xs rest i j e q =
    let f : X → ℕ = λ y. cond (q y) 1 0 in
    let a : count_by q (take j rest) ≤ count_by q rest = sum_by-take-le f rest j in
    let b : count_by q (take i xs) + count_by q (drop i xs) ≡ count_by q xs = sum_by-take-drop f xs i in
    let d : count_by q rest ≡ count_by q (drop i xs) = ap (count_by q) e in
    omega (arith, a, b, d)

-- the order of a list doesn't decide whether something passes
pub any_moved : {X : Type 0} (p : X → Bool) (xs ys : List X) → IsPermutation xs ys → list_any p ys ≡ list_any p xs
any_moved p xs ys h = by_count p ys ∙ ap (λ (n : ℕ). ltb 0 n) (count_moved p xs ys h) ∙ sym (by_count p xs)
