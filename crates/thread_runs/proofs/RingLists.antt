-- Claims and fills of a ring as lists: what one more of them changes, and which slot shows which claim.
use Rattle.std.proofs.Common.{◌≡◌, ◌⊎◌, inl, inr, ℕ, zero, suc, ◌+◌, ◌%◌, ◌<◌, ◌≤◌, Bool, true, false, ◌||◌, cond, eqb, List, [], ◌∷◌, ◌++◌, length, Option, Some, None, refl, sym, ap, ap₂, ◌∙◌, subst, arith}
use Rattle.std.specs.Prelude.{slice_get}
use Rattle.std.specs.List.{AllByRecursion, list_any}
use Rattle.std.proofs.lemmas.Bool.{or_parts, or_right, eq-eqb, eqb-true, ne_eqb, cond-true, cond-false, true≢false, false≢true}
use Rattle.std.proofs.lemmas.List.{append_assoc}
use native.Mathlib.Nat.{mod-eq_of_lt}
use Rattle.thread_runs.specs.ThreadCode.{is_ring_length}
use Rattle.thread_runs.specs.Threading.{Threading}
use Rattle.thread_runs.specs.Watching.{EffectStep, Claim, Fill, is_by, last_claim}
use Rattle.thread_runs.specs.Ring.{claimed_by, ringing_at, kept_by, or_later, last_fill, number_shown, shown_by, is_filled, NoneOvertaken}
use Rattle.thread_runs.proofs.WatchedRelation.{AreSorted}
use Rattle.patch_report.proofs.ListPlaces.{some_is}

-- ---- lists with one element more

-- an element of a list is one of the longer list, at the same place
pub get_more : {X : Type 0} (xs : List X) (y : X) (i : ℕ) (x : X) → slice_get xs i ≡ Some x → slice_get (xs ++ y ∷ []) i ≡ Some x
get_more [] y i x e = absurd cc
get_more (z ∷ zs) y zero x e = e
get_more (z ∷ zs) y (suc i) x e = get_more zs y i x e

-- the new element stands at its end
pub get_end : {X : Type 0} (xs : List X) (y : X) → slice_get (xs ++ y ∷ []) (length xs) ≡ Some y
get_end [] y = refl
get_end (z ∷ zs) y = get_end zs y

-- an element of the longer list is one of the list, or the new one
pub get_either : {X : Type 0} (xs : List X) (y : X) (i : ℕ) (x : X) → slice_get (xs ++ y ∷ []) i ≡ Some x → (slice_get xs i ≡ Some x) ⊎ (i ≡ length xs) × (y ≡ x)
get_either [] y zero x e = inr (refl, some_is y x e)
get_either [] y (suc i) x e = absurd cc
get_either (z ∷ zs) y zero x e = inl e
get_either (z ∷ zs) y (suc i) x e = elim (get_either zs y i x e) [
  | inl q ↦ inl q
  | inr q ↦ inr (ap suc q.0, q.1)
]

-- an element stands below the length
pub get_below : {X : Type 0} (xs : List X) (i : ℕ) (x : X) → slice_get xs i ≡ Some x → i < length xs
get_below [] i x e = absurd cc
get_below (z ∷ zs) zero x e = omega arith
get_below (z ∷ zs) (suc i) x e = omega (arith, get_below zs i x e)

-- below the length there is an element
pub get_some : {X : Type 0} (xs : List X) (i : ℕ) → i < length xs → (x : X) × (slice_get xs i ≡ Some x)
get_some [] i h = absurd (omega (arith, h))
get_some (z ∷ zs) zero h = (z, refl)
get_some (z ∷ zs) (suc i) h = get_some zs i (omega (arith, h))

-- from the length on there is none
pub get_none : {X : Type 0} (xs : List X) (i : ℕ) → length xs ≤ i → slice_get xs i ≡ None
get_none [] i h = refl
get_none (z ∷ zs) zero h = absurd (omega (arith, h))
get_none (z ∷ zs) (suc i) h = get_none zs i (omega (arith, h))

-- some element of the longer list passes a test where one of the list or the new one does
pub any_more : {X : Type 0} (p : X → Bool) (xs : List X) (y : X) → list_any p (xs ++ y ∷ []) ≡ (list_any p xs || p y)
any_more p [] y = by_test (p y)
  where
    by_test : (b : Bool) → (b || false) ≡ b
    by_test true = refl
    by_test false = refl
any_more p (z ∷ zs) y = by_test (p z) (any_more p zs y)
  where
    by_test : (b : Bool) → list_any p (zs ++ y ∷ []) ≡ (list_any p zs || p y) → (b || list_any p (zs ++ y ∷ [])) ≡ ((b || list_any p zs) || p y)
    by_test true e = refl
    by_test false e = e

-- ---- claims

-- a claim more is one of its thread's
pub claimed_more : (k : ℕ) (cs : List Claim) (c : Claim) → claimed_by k (cs ++ c ∷ []) ≡ claimed_by k cs ++ cond (is_by k c) (c.number ∷ []) []
claimed_more k [] c = refl
claimed_more k (d ∷ ds) c = by_test (is_by k d) (claimed_more k ds c)
  where
    by_test : (b : Bool) → claimed_by k (ds ++ c ∷ []) ≡ claimed_by k ds ++ cond (is_by k c) (c.number ∷ []) []
        → cond b (d.number ∷ claimed_by k (ds ++ c ∷ [])) (claimed_by k (ds ++ c ∷ [])) ≡ cond b (d.number ∷ claimed_by k ds) (claimed_by k ds) ++ cond (is_by k c) (c.number ∷ []) []
    by_test true e = ap (λ l. d.number ∷ l) e
    by_test false e = e

-- an effect step more is one of its thread's
pub kept_more : (r : Threading) (k : ℕ) (es : List EffectStep) (e : EffectStep) → kept_by r k (es ++ e ∷ []) ≡ kept_by r k es ++ cond (eqb e.thread k) (ringing_at r.sites e.at) []
kept_more r k [] e = append_none (cond (eqb e.thread k) (ringing_at r.sites e.at) [])
  where
    append_none : (l : List ℕ) → l ++ [] ≡ l
    append_none [] = refl
    append_none (x ∷ xs) = ap (λ l. x ∷ l) (append_none xs)
kept_more r k (d ∷ ds) e =
    ap (λ l. cond (eqb d.thread k) (ringing_at r.sites d.at) [] ++ l) (kept_more r k ds e)
    ∙ sym (append_assoc (cond (eqb d.thread k) (ringing_at r.sites d.at) []) (kept_by r k ds) (cond (eqb e.thread k) (ringing_at r.sites e.at) []))

-- a thread's new claim is its last one
pub last_own : (k : ℕ) (cs : List Claim) (c : Claim) → is_by k c ≡ true → last_claim k (cs ++ c ∷ []) ≡ length cs
last_own k [] c h = refl
last_own k (d ∷ ds) c h = cond-true (list_any (is_by k) (ds ++ c ∷ [])) _ _ (any_more (is_by k) ds c ∙ or_right (list_any (is_by k) ds) (is_by k c) h) ∙ ap suc (last_own k ds c h)

-- a claim of another thread leaves it
pub last_other : (k : ℕ) (cs : List Claim) (c : Claim) → is_by k c ≡ false → last_claim k (cs ++ c ∷ []) ≡ last_claim k cs
last_other k [] c h = refl
last_other k (d ∷ ds) c h = ap₂ (λ b n. cond b (suc n) 0) (any_more (is_by k) ds c ∙ none (list_any (is_by k) ds)) (last_other k ds c h)
  where
    none : (b : Bool) → (b || is_by k c) ≡ b
    none true = refl
    none false = h

-- ---- fills

-- the later of claims, in three steps
later_three : (a b c : Option ℕ) → or_later a (or_later b c) ≡ or_later (or_later a b) c
later_three a b None = refl
later_three a b (Some i) = refl

-- a fill more is the last one of its slot
pub last_more : (n j : ℕ) (fs : List Fill) (f : Fill) → last_fill n j (fs ++ f ∷ []) ≡ or_later (last_fill n j fs) (cond (eqb (f.claim % n) j) (Some f.claim) None)
last_more n j [] f = by_test (eqb (f.claim % n) j)
  where
    by_test : (b : Bool) → or_later (cond b (Some f.claim) None) None ≡ or_later None (cond b (Some f.claim) None)
    by_test true = refl
    by_test false = refl
last_more n j (g ∷ gs) f =
    ap (or_later (cond (eqb (g.claim % n) j) (Some g.claim) None)) (last_more n j gs f)
    ∙ later_three (cond (eqb (g.claim % n) j) (Some g.claim) None) (last_fill n j gs) (cond (eqb (f.claim % n) j) (Some f.claim) None)

-- fills are of claims that were made
pub fill_below : (n j m : ℕ) (fs : List Fill) → AreSorted m fs → (i : ℕ) → last_fill n j fs ≡ Some i → i < m
fill_below n j m [] s i e = absurd cc
fill_below n j m (f ∷ fs) s i e = by_last (last_fill n j fs) refl (fill_below n j m fs s.3) e
  where
    by_test : (b : Bool) → cond b (Some f.claim) None ≡ Some i → i < m
    by_test true k = let z : f.claim ≡ i = cc in omega (arith, z, s.0, s.1)
    by_test false k = absurd cc

    by_last : (o : Option ℕ) → last_fill n j fs ≡ o → ((i : ℕ) → last_fill n j fs ≡ Some i → i < m) → or_later (cond (eqb (f.claim % n) j) (Some f.claim) None) o ≡ Some i → i < m
    by_last None g go k = by_test (eqb (f.claim % n) j) k
    by_last (Some l) g go k = go i (g ∙ k)

-- what is shown stays where a claim more is made
pub shown_more : (cs : List Claim) (c : Claim) (o : Option ℕ) → ((i : ℕ) → o ≡ Some i → i < length cs) → shown_by (cs ++ c ∷ []) o ≡ shown_by cs o
shown_more cs c None h = refl
shown_more cs c (Some i) h = let q = get_some cs i (h i refl) in ap number_shown (get_more cs c i q.0 q.1 ∙ sym q.1)

-- more claims may be made before no fill
pub sorted_wider : (m l : ℕ) (fs : List Fill) → m ≤ l → AreSorted m fs → AreSorted l fs
sorted_wider m l [] h s = tt
sorted_wider m l (f ∷ fs) h s = (s.0, omega (arith, s.1, h), s.2, sorted_wider m l fs h s.3)

-- the last fill is that before which all claims were made
pub sorted_more : (m i : ℕ) (fs : List Fill) → i < m → AreSorted m fs → AreSorted m (fs ++ record { claim = i; claimed = m } ∷ [])
sorted_more m i [] h s = (h, omega arith, tt, tt)
sorted_more m i (f ∷ fs) h s = (s.0, s.1, all_more fs s.2, sorted_more m i fs h s.3)
  where
    all_more : (gs : List Fill) → AllByRecursion (λ g. f.claimed ≤ g.claimed) gs → AllByRecursion (λ g. f.claimed ≤ g.claimed) (gs ++ record { claim = i; claimed = m } ∷ [])
    all_more [] a = (s.1, tt)
    all_more (g ∷ gs) a = (a.0, all_more gs a.1)

-- numbers less than a ring's length apart that lead to one slot are equal
pub one_slot : (n a b : ℕ) → is_ring_length n ≡ true → a % n ≡ b % n → a < b + n → b < a + n → a ≡ b
one_slot n a b h e i j = by_test (eqb n 256) refl h
  where
    short : n ≡ 256 → a ≡ b
    short z = close (subst (λ y. a % y ≡ b % y) z e) (subst (λ y. a < b + y) z i) (subst (λ y. b < a + y) z j)
      where
        close : a % 256 ≡ b % 256 → a < b + 256 → b < a + 256 → a ≡ b
        close p q s = omega (arith, p, q, s)

    long : n ≡ 65536 → a ≡ b
    long z = close (subst (λ y. a % y ≡ b % y) z e) (subst (λ y. a < b + y) z i) (subst (λ y. b < a + y) z j)
      where
        close : a % 65536 ≡ b % 65536 → a < b + 65536 → b < a + 65536 → a ≡ b
        close p q s = omega (arith, p, q, s)

    by_test : (b' : Bool) → eqb n 256 ≡ b' → (b' || eqb n 65536) ≡ true → a ≡ b
    by_test true k g = short (eqb-true n 256 k)
    by_test false k g = long (eqb-true n 65536 g)

-- ---- which claim a slot shows

module _ (n : ℕ) (length' : is_ring_length n ≡ true) (i m : ℕ) (last : m ≤ i + n) where
  -- behind the fill of claim i no other of its slot is filled
  none_behind : (fs : List Fill) → AreSorted m fs → NoneOvertaken n i fs → AllByRecursion (λ g. i < g.claimed) fs → is_filled i fs ≡ false → last_fill n (i % n) fs ≡ None
  none_behind [] s o a h = refl
  none_behind (f ∷ fs) s o a h =
      let q = or_parts (eqb f.claim i) (is_filled i fs) h in
      let b : eqb (f.claim % n) (i % n) ≡ false = ne_eqb (f.claim % n) (i % n) (λ e.
      let z : f.claim ≡ i = one_slot n f.claim i length' e (let y = s.0 in let x = s.1 in omega (arith, y, x, last)) (let y = a.0 in let x = o.0 y in omega (arith, y, x)) in
      true≢false (sym (eq-eqb f.claim i z) ∙ q.0)) in
      ap₂ or_later (cond-false (eqb (f.claim % n) (i % n)) (Some f.claim) None b) (none_behind fs s.3 o.1 a.1 q.1)

  -- of the last n claims one that filled its slot is shown there
  pub last_is : (fs : List Fill) → AreSorted m fs → NoneOvertaken n i fs → is_filled i fs ≡ true → last_fill n (i % n) fs ≡ Some i
  last_is [] s o h = absurd (false≢true h)
  last_is (f ∷ fs) s o h = by_rest (is_filled i fs) refl h (last_is fs s.3 o.1)
    where
      later : (gs : List Fill) → AllByRecursion (λ g. f.claimed ≤ g.claimed) gs → i < f.claimed → AllByRecursion (λ g. i < g.claimed) gs
      later [] a l = tt
      later (g ∷ gs) a l = (let z = a.0 in omega (arith, z, l), later gs a.1 l)

      first : (b : Bool) → eqb f.claim i ≡ b → (b || false) ≡ true → f.claim ≡ i
      first true e k = eqb-true f.claim i e
      first false e k = absurd (false≢true k)

      by_rest : (b : Bool) → is_filled i fs ≡ b → (eqb f.claim i || b) ≡ true → (is_filled i fs ≡ true → last_fill n (i % n) fs ≡ Some i) → or_later (cond (eqb (f.claim % n) (i % n)) (Some f.claim) None) (last_fill n (i % n) fs) ≡ Some i
      by_rest true e k go = ap (or_later (cond (eqb (f.claim % n) (i % n)) (Some f.claim) None)) (go e)
      by_rest false e k go =
          let z = first (eqb f.claim i) refl k in
          let l : i < f.claimed = let y = s.0 in omega (arith, y, z) in
          ap₂ or_later (cond-true (eqb (f.claim % n) (i % n)) (Some f.claim) None (eq-eqb (f.claim % n) (i % n) (ap (λ y. y % n) z)) ∙ ap Some z)
          (none_behind fs s.3 o.1 (later fs s.2 l) e)

-- where all claims fit the ring, no thread is overtaken
pub none_overtaken : (n i m : ℕ) (fs : List Fill) → m ≤ n → AreSorted m fs → NoneOvertaken n i fs
none_overtaken n i m [] h s = tt
none_overtaken n i m (f ∷ fs) h s = (λ y. let x = s.1 in omega (arith, x, h), none_overtaken n i m fs h s.3)

-- and a slot behind all claims is shown none
pub none_there : (n m j : ℕ) (fs : List Fill) → m ≤ j → j < n → AreSorted m fs → last_fill n j fs ≡ None
none_there n m j [] h l s = refl
none_there n m j (f ∷ fs) h l s =
    let y = s.0 in
    let x = s.1 in
    let z : f.claim % n ≡ f.claim = mod-eq_of_lt (omega (arith, y, x, h, l)) in
    ap₂ or_later (cond-false (eqb (f.claim % n) j) (Some f.claim) None (ne_eqb (f.claim % n) j (λ e. omega (arith, e, z, y, x, h)))) (none_there n m j fs h l s.3)
