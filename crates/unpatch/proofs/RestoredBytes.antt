-- Bytes that are put back one after the other.
use Rattle.std.proofs.Common.{◌≡◌, ◌≢◌, ℕ, suc, ◌+◌, ◌-◌, ◌<◌, ◌≤◌, ◌==◌, ◌⊎◌, inl, inr, Bool, true, false, cond, ◌||◌, nat_lt, List, [], ◌∷◌, ◌++◌, length, set, slice_index, Option, Some, None, refl, sym, ap, ◌∙◌, subst, arith, length-set, get_or-set_same, get_or-set_other, ext_get_or, eqb-true}
use Rattle.std.specs.List.{AllByRecursion, list_any, flat_map}
use Rattle.std.proofs.lemmas.Bool.{cases_Bool, cases_eq, cond-true, cond-false, true≢false, or_cases, or_left, or_right, lt-ltb}
use Rattle.std.proofs.lemmas.Bool.Decides.{nat_tests}
use Rattle.patch_report.specs.Values.{WriteValue}
use Rattle.pun_base.proofs.JoinedLists.{all_appended}
use Rattle.unpatch.specs.Undone.{addressed, place_of, put_at, put_back}

-- a place is this one
abbrev pub is_at : ℕ → Option ℕ → Bool
is_at k None = false
is_at k (Some m) = m == k

-- a byte is the original's where it is put
abbrev pub IsRight : List ℕ → List ℕ → ℕ × ℕ → Type 0
IsRight file orig p = (k : ℕ) → place_of file p.0 ≡ Some k → k < length orig → slice_index orig k ≡ p.1

length_put : (o : Option ℕ) (b : ℕ) (xs : List ℕ) → length (put_at o b xs) ≡ length xs
length_put None b xs = refl
length_put (Some k) b xs = step (nat_lt k (length xs))
  where
    step : (c : Bool) → length (cond c (set xs k b) xs) ≡ length xs
    step true = length-set xs k b
    step false = refl

-- what is right stays right, and what is put is right
abbrev IsPut : List ℕ → ℕ → ℕ → Option ℕ → Type 0
IsPut orig k b o = (m : ℕ) → o ≡ Some m → m < length orig → slice_index orig m ≡ b

set_here : (xs : List ℕ) (k m b : ℕ) → m ≡ k → k < length xs → slice_index (set xs m b) k ≡ b
set_here xs k m b e l = subst (λ (j : ℕ). slice_index (set xs j b) k ≡ b) (sym e) (get_or-set_same xs k b 0 l)

put_here : (orig xs : List ℕ) (k b : ℕ) (o : Option ℕ) → length xs ≡ length orig → k < length orig → IsPut orig k b o → is_at k o ≡ true
    → slice_index (put_at o b xs) k ≡ slice_index orig k
put_here orig xs k b None e l r h = absurd (true≢false (sym h))
put_here orig xs k b (Some m) e l r h =
    let q : m ≡ k = eqb-true m k h in
    ap (λ (z : List ℕ). slice_index z k) (cond-true (nat_lt m (length xs)) (set xs m b) xs (lt-ltb m (length xs) (omega arith)))
    ∙ set_here xs k m b q (omega arith) ∙ sym (r m refl (omega arith)) ∙ ap (λ (j : ℕ). slice_index orig j) q

other : (m k : ℕ) → (m == k) ≡ false → k ≢ m
other m k h = λ e. absurd (same k m e h)
  where
    same : (i j : ℕ) → i ≡ j → (j == i) ≡ false → ⊥
    same i j e g = grind (arith, nat_tests)

put_there : (orig xs : List ℕ) (k b : ℕ) (o : Option ℕ) → is_at k o ≡ false → slice_index (put_at o b xs) k ≡ slice_index xs k
put_there orig xs k b None h = refl
put_there orig xs k b (Some m) h = elim (cases_Bool (nat_lt m (length xs))) [
  | inl t ↦ ap (λ (z : List ℕ). slice_index z k) (cond-true (nat_lt m (length xs)) (set xs m b) xs t) ∙ get_or-set_other xs m k b 0 (other m k h)
  | inr t ↦ ap (λ (z : List ℕ). slice_index z k) (cond-false (nat_lt m (length xs)) (set xs m b) xs t)
]

-- each byte is the original's, or will be put
abbrev pub IsMet : List ℕ → List ℕ → List ℕ → List (ℕ × ℕ) → ℕ → Type 0
IsMet file orig xs ps k = (slice_index xs k ≡ slice_index orig k) ⊎ (list_any (λ p. is_at k (place_of file p.0)) ps ≡ true)

-- where each byte is the original's or will be put, and what is put is right, the original comes back
pub all_put : (file orig : List ℕ) (ps : List (ℕ × ℕ)) (xs : List ℕ) → length xs ≡ length orig → AllByRecursion (IsRight file orig) ps
    → ((k : ℕ) → k < length orig → IsMet file orig xs ps k) → put_back file ps xs ≡ orig
all_put file orig [] xs e r h = ext_get_or 0 xs orig e (λ k l. done k (h k (omega arith)))
  where
    done : (k : ℕ) → IsMet file orig xs [] k → slice_index xs k ≡ slice_index orig k
    done k (inl q) = q
    done k (inr q) = absurd (true≢false (sym q))
all_put file orig (p ∷ ps) xs e r h =
    let o = place_of file p.0 in
    all_put file orig ps (put_at o p.1 xs) (length_put o p.1 xs ∙ e) r.1 (λ k l. elim (cases_Bool (is_at k o)) [
      | inl t ↦ inl (put_here orig xs k p.1 o e l r.0 t)
      | inr t ↦ later k t (h k l)
    ])
  where
    later : (k : ℕ) → is_at k (place_of file p.0) ≡ false → IsMet file orig xs (p ∷ ps) k → IsMet file orig (put_at (place_of file p.0) p.1 xs) ps k
    later k t (inl q) = inl (put_there orig xs k p.1 (place_of file p.0) t ∙ q)
    later k t (inr q) = elim (or_cases (is_at k (place_of file p.0)) (list_any (λ s. is_at k (place_of file s.0)) ps) q) [
      | inl u ↦ absurd (true≢false (sym u ∙ t))
      | inr u ↦ inr u
    ]

-- what holds of each byte of a list with its address holds of all
pub all_addressed : (P : ℕ × ℕ → Type 0) (a : ℕ) (bs : List ℕ) → ((k : ℕ) → k < length bs → P (a + k, slice_index bs k)) → AllByRecursion P (addressed a bs)
all_addressed P a [] h = tt
all_addressed P a (b ∷ bs) h = (
  (let e : a + 0 ≡ a = omega arith in subst (λ (x : ℕ). P (x, b)) e (h 0 (omega arith))),
  all_addressed P (a + 1) bs (λ k l. let e : a + suc k ≡ a + 1 + k = omega arith in subst (λ (x : ℕ). P (x, slice_index bs k)) e (h (suc k) (omega arith))),
)

-- what holds of all bytes of each run holds of all bytes of the runs
pub all_flat : (P : ℕ × ℕ → Type 0) (g : WriteValue → List (ℕ × ℕ)) (ws : List WriteValue) → AllByRecursion (λ w. AllByRecursion P (g w)) ws → AllByRecursion P (flat_map g ws)
all_flat P g [] h = tt
all_flat P g (w ∷ ws) h = all_appended P (g w) (flat_map g ws) h.0 (all_flat P g ws h.1)

-- some byte of runs, from one of one
any_append : {X : Type 0} (p : X → Bool) (xs ys : List X) → (list_any p xs || list_any p ys) ≡ true → list_any p (xs ++ ys) ≡ true
any_append p [] ys h = h
any_append p (x ∷ xs) ys h = step (p x) (list_any p xs) (list_any p ys) (list_any p (xs ++ ys)) h (any_append p xs ys)
  where
    step : (a b c d : Bool) → ((a || b) || c) ≡ true → ((b || c) ≡ true → d ≡ true) → (a || d) ≡ true
    step true b c d h2 k = refl
    step false b c d h2 k = k h2

-- where a test passes at an address of a list of bytes, it passes at one of them with its address
pub any_addressed : (p : ℕ → Bool) (lo a : ℕ) (bs : List ℕ) → lo ≤ a → a - lo < length bs → p a ≡ true → list_any (λ (s : ℕ × ℕ). p s.0) (addressed lo bs) ≡ true
any_addressed p lo a [] l m h = absurd (omega arith)
any_addressed p lo a (b ∷ bs) l m h = elim (cases_eq lo a) [
  | inl e ↦ or_left (p lo) (list_any (λ (s : ℕ × ℕ). p s.0) (addressed (lo + 1) bs)) (ap (λ (x : ℕ). p x) e ∙ h)
  | inr n ↦ or_right (p lo) (list_any (λ (s : ℕ × ℕ). p s.0) (addressed (lo + 1) bs)) (any_addressed p (lo + 1) a bs (omega arith) (omega arith) h)
]

-- where some run has a byte that passes a test, the runs' bytes have one
pub any_flat : (p : ℕ × ℕ → Bool) (g : WriteValue → List (ℕ × ℕ)) (q : WriteValue → Bool) (ws : List WriteValue)
    → AllByRecursion (λ w. q w ≡ true → list_any p (g w) ≡ true) ws → list_any q ws ≡ true → list_any p (flat_map g ws) ≡ true
any_flat p g q [] h e = absurd (true≢false (sym e))
any_flat p g q (w ∷ ws) h e = any_append p (g w) (flat_map g ws) (elim (or_cases (q w) (list_any q ws) e) [
  | inl t ↦ or_left (list_any p (g w)) (list_any p (flat_map g ws)) (h.0 t)
  | inr t ↦ or_right (list_any p (g w)) (list_any p (flat_map g ws)) (any_flat p g q ws h.1 t)
])

-- bytes into which others are put back are as many as before
pub length_back : (file : List ℕ) (ps : List (ℕ × ℕ)) (xs : List ℕ) → length (put_back file ps xs) ≡ length xs
length_back file [] xs = refl
length_back file (p ∷ ps) xs = length_back file ps (put_at (place_of file p.0) p.1 xs) ∙ length_put (place_of file p.0) p.1 xs
