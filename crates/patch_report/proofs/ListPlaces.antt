-- Elements of a list by their places: found, counted, joined, mapped.
use Rattle.std.proofs.Common.{◌≡◌, ◌⊎◌, inl, inr, ℕ, zero, suc, ◌+◌, ◌<◌, ◌≤◌, Bool, true, false, cond, List, [], ◌∷◌, ◌++◌, map, Some, refl, sym, ap, ◌∙◌, subst, arith}
use Rattle.std.specs.Prelude.{Contains, count_by, slice_get}
use Rattle.std.specs.List.{list_any, find, flat_map, AllByRecursion}
use Rattle.std.proofs.lemmas.Bool.{or_cases, or_left, or_right, cond-true, false≢true}
use Rattle.std.proofs.lemmas.List.Sums.{sum_by-cons}
use Rattle.std.proofs.lemmas.Option.{slice_get_within, get_or_from_slice_get, slice_get-get_or}
pub use Rattle.std.proofs.lemmas.Option.{same_Some as some_is}

-- an element that passes a test, and its place
pub record Found {X : Type 0} (p : X → Bool) (xs : List X) : Type 0 where
  pub place : ℕ
  pub is : X
  pub at : slice_get xs place ≡ Some is
  pub passes : p is ≡ true

-- what a test finds
pub found : {X : Type 0} (p : X → Bool) (xs : List X) → list_any p xs ≡ true → Found p xs
found p [] h = absurd (false≢true h)
found p (x ∷ xs) h = elim (or_cases (p x) (list_any p xs) h) [
  | inl k ↦ record { place = 0; is = x; at = refl; passes = k }
  | inr k ↦ (let q = found p xs k in record { place = suc q.place; is = q.is; at = q.at; passes = q.passes })
]

-- what stands in a list settles a test of any
pub any_at : {X : Type 0} (p : X → Bool) (xs : List X) (i : ℕ) (x : X) → slice_get xs i ≡ Some x → p x ≡ true → list_any p xs ≡ true
any_at p [] i x e h = absurd cc
any_at p (y ∷ ys) zero x e h = or_left (p y) (list_any p ys) (ap p (some_is y x e) ∙ h)
any_at p (y ∷ ys) (suc i) x e h = or_right (p y) (list_any p ys) (any_at p ys i x e h)

-- a place in a list and to be one of it
pub contains_at : {X : Type 0} (xs : List X) (i : ℕ) (x : X) → slice_get xs i ≡ Some x → Contains xs x
contains_at xs i x e = (i, slice_get_within xs i x e, get_or_from_slice_get xs i x x e)

-- and back
pub place_of : {X : Type 0} (xs : List X) (x : X) → Contains xs x → (i : ℕ) × (slice_get xs i ≡ Some x)
place_of xs x c = (c.0, slice_get-get_or xs c.0 x c.1 ∙ ap Some c.2)

-- a list's count is that of its first and that of the others together
pub count_cons : {X : Type 0} (p : X → Bool) (x : X) (xs : List X) → count_by p (x ∷ xs) ≡ cond (p x) 1 0 + count_by p xs
count_cons p x xs = sum_by-cons (λ y. cond (p y) 1 0) x xs

-- what passes counts one
pub one_more : (b : Bool) → b ≡ true → ◌≡◌ {A = ℕ} (cond b 1 0) 1
one_more b e = cond-true b 1 0 e

-- one place is counted
counted : {X : Type 0} (p : X → Bool) (xs : List X) (i : ℕ) (x : X) → slice_get xs i ≡ Some x → p x ≡ true → 1 ≤ count_by p xs
counted p [] i x e h = absurd cc
counted p (y ∷ ys) zero x e h = omega (arith, count_cons p y ys, one_more (p y) (ap p (some_is y x e) ∙ h))
counted p (y ∷ ys) (suc i) x e h = omega (arith, count_cons p y ys, counted p ys i x e h)

-- two places of elements that pass are counted twice
pub counted_twice : {X : Type 0} (p : X → Bool) (xs : List X) (i j : ℕ) (x y : X) → i < j → slice_get xs i ≡ Some x → p x ≡ true
    → slice_get xs j ≡ Some y → p y ≡ true → 2 ≤ count_by p xs
counted_twice p [] i j x y l e h f k = absurd cc
counted_twice p (z ∷ zs) i zero x y l e h f k = absurd (omega arith)
counted_twice p (z ∷ zs) zero (suc j) x y l e h f k = omega (
  arith,
  count_cons p z zs,
  one_more (p z)
      (ap p (some_is z x e) ∙ h),
  counted p zs j y f k,
)
counted_twice p (z ∷ zs) (suc i) (suc j) x y l e h f k = omega (arith, count_cons p z zs, counted_twice p zs i j x y (omega arith) e h f k)

-- what is found is one of the list, and passes
pub record Finds {X : Type 0} (p : X → Bool) (xs : List X) (x : X) : Type 0 where
  pub place : ℕ
  pub at : slice_get xs place ≡ Some x
  pub passes : p x ≡ true

-- by a search
pub finds : {X : Type 0} (p : X → Bool) (xs : List X) (x : X) → find p xs ≡ Some x → Finds p xs x
finds p [] x e = absurd cc
finds p (y ∷ ys) x e = by_test (p y) refl e (λ f. finds p ys x f)
  where
    by_test : (b : Bool) → p y ≡ b → cond b (Some y) (find p ys) ≡ Some x → (find p ys ≡ Some x → Finds p ys x) → Finds p (y ∷ ys) x
    by_test true h f go = let q = some_is y x f in record { place = 0; at = f; passes = ap p (sym q) ∙ h }
    by_test false h f go = let q = go f in record { place = suc q.place; at = q.at; passes = q.passes }

-- one stands at some place of a list
abbrev pub In : {X : Type 0} → List X → X → Type 0
In xs x = (i : ℕ) × (slice_get xs i ≡ Some x)

-- one of a list is one of it with another
pub in_left : {X : Type 0} (xs ys : List X) (x : X) → In xs x → In (xs ++ ys) x
in_left [] ys x h = let e = h.1 in absurd cc
in_left (z ∷ zs) ys x (zero, e) = (zero, e)
in_left (z ∷ zs) ys x (suc i, e) = let q = in_left zs ys x (i, e) in (suc q.0, q.1)

-- and of a list after another
pub in_right : {X : Type 0} (xs ys : List X) (x : X) → In ys x → In (xs ++ ys) x
in_right [] ys x h = h
in_right (z ∷ zs) ys x h = let q = in_right zs ys x h in (suc q.0, q.1)

-- and the other way round
pub in_either : {X : Type 0} (xs ys : List X) (x : X) → In (xs ++ ys) x → In xs x ⊎ In ys x
in_either [] ys x h = inr h
in_either (z ∷ zs) ys x (zero, e) = inl (zero, e)
in_either (z ∷ zs) ys x (suc i, e) = elim (in_either zs ys x (i, e)) [ inl q ↦ inl (suc q.0, q.1) | inr q ↦ inr q ]

-- a mapped element
pub in_map : {X Y : Type 0} (f : X → Y) (xs : List X) (x : X) → In xs x → In (map f xs) (f x)
in_map f [] x h = let e = h.1 in absurd cc
in_map f (z ∷ zs) x (zero, e) = (zero, ap (λ y. Some (f y)) (some_is z x e))
in_map f (z ∷ zs) x (suc i, e) = let q = in_map f zs x (i, e) in (suc q.0, q.1)

-- one of a mapped list comes from one of the list
pub from_map : {X Y : Type 0} (f : X → Y) (xs : List X) (y : Y) → In (map f xs) y → (x : X) × In xs x × (f x ≡ y)
from_map f [] y h = let e = h.1 in absurd cc
from_map f (z ∷ zs) y (zero, e) = (z, (zero, refl), some_is (f z) y e)
from_map f (z ∷ zs) y (suc i, e) = let q = from_map f zs y (i, e) in (q.0, (suc q.1.0, q.1.1), q.2)

-- one of a part is one of the whole
pub in_flat : {X Y : Type 0} (f : X → List Y) (xs : List X) (x : X) (y : Y) → In xs x → In (f x) y → In (flat_map f xs) y
in_flat f [] x y h k = let e = h.1 in absurd cc
in_flat f (z ∷ zs) x y (zero, e) k = in_left (f z) (flat_map f zs) y (subst (λ w. In (f w) y) (sym (some_is z x e)) k)
in_flat f (z ∷ zs) x y (suc i, e) k = in_right (f z) (flat_map f zs) y (in_flat f zs x y (i, e) k)

-- and the other way round
pub from_flat : {X Y : Type 0} (f : X → List Y) (xs : List X) (y : Y) → In (flat_map f xs) y → (x : X) × In xs x × In (f x) y
from_flat f [] y h = let e = h.1 in absurd cc
from_flat f (z ∷ zs) y h = elim (in_either (f z) (flat_map f zs) y h) [
  | inl q ↦ (z, (zero, refl), q)
  | inr q ↦ (let r = from_flat f zs y q in (r.0, (suc r.1.0, r.1.1), r.2))
]

-- what holds of each holds of one of them
pub all_in : {X : Type 0} (P : X → Type 0) (xs : List X) (x : X) → AllByRecursion P xs → In xs x → P x
all_in P [] x a h = let e = h.1 in absurd cc
all_in P (z ∷ zs) x a (zero, e) = subst P (some_is z x e) a.0
all_in P (z ∷ zs) x a (suc i, e) = all_in P zs x a.1 (i, e)

-- and the other way round
pub all_from : {X : Type 0} (P : X → Type 0) (xs : List X) → ((x : X) → In xs x → P x) → AllByRecursion P xs
all_from P [] h = tt
all_from P (x ∷ xs) h = (h x (zero, refl), all_from P xs (λ y c. h y (suc c.0, c.1)))
