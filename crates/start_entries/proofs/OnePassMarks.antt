-- Entries that are marked in one pass are marked by what they share.
use Rattle.std.proofs.Common.{◌≡◌, ◌≢◌, ℕ, ◌+◌, ◌<◌, ◌≤◌, Bool, true, false, not, List, [], ◌∷◌, ◌++◌, map, refl, sym, ap, ◌∙◌, subst, arith, append_assoc, inl, inr}
use Rattle.std.specs.Prelude.{slice_get, ◌==◌, ◌&&◌, ◌||◌, nat_le, nat_lt, if◌then◌else◌}
use Rattle.std.specs.List.{list_any, AllByRecursion}
use Rattle.std.specs.List.Sorted.{IsStrictlyIncreasing}
use Rattle.std.proofs.lemmas.Bool.{and_from, and_parts, or_left, or_right, or_cases, eqb-true, eq-eqb, le-leb, lt-ltb, leb-true, ltb-true, ltb-false, false_from_ne_true}
use Rattle.start_entries.specs.declared.entry.StartEntry.{StartEntry}
use Rattle.start_entries.specs.Entries.{start_entry, unmarked_of, entries_of}
use Rattle.start_entries.specs.SharedBytes.{has_byte, meets, is_shared, marked}
use Rattle.start_entries.specs.Marking.{is_next_below, further, marks_from}
use Rattle.start_entries.proofs.AscendingEntries.{increasing_rest, first_below}
use Rattle.start_entries.proofs.EntryAddresses.{addr-entry}

-- two tests that imply each other are equal
same_test : (a b : Bool) → (a ≡ true → b ≡ true) → (b ≡ true → a ≡ true) → a ≡ b
same_test true b f g = sym (f refl)
same_test false true f g = g refl
same_test false false f g = refl

-- different numbers aren't equal by the test
differ : (n m : ℕ) → n ≢ m → not (n == m) ≡ true
differ n m h = ap not (false_from_ne_true (n == m) (λ t. h (eqb-true n m t)))

-- an entry meets one below it where that has its first byte
meets_below : (e d : StartEntry) → d.addr < e.addr → meets e d ≡ has_byte e.addr d
meets_below e d l = same_test (meets e d) (has_byte e.addr d)
    (λ h. let k = and_parts (not (d.addr == e.addr)) (has_byte e.addr d || has_byte d.addr e) h in
    elim (or_cases (has_byte e.addr d) (has_byte d.addr e) k.1) [
      | inl p ↦ p
      | inr p ↦ (let q = leb-true e.addr d.addr (and_parts (nat_le e.addr d.addr) (nat_lt d.addr (e.addr + e.len)) p).0 in absurd (omega (arith, q, l)))
    ])
    (λ h. and_from (not (d.addr == e.addr)) (has_byte e.addr d || has_byte d.addr e) (differ d.addr e.addr (λ q. absurd (omega (arith, q, l))))
    (or_left (has_byte e.addr d) (has_byte d.addr e) h))

-- an entry meets one above it where that one begins before the entry's end
meets_above : (e f : StartEntry) → e.addr < f.addr → meets e f ≡ nat_lt f.addr (e.addr + e.len)
meets_above e f l = same_test (meets e f) (nat_lt f.addr (e.addr + e.len))
    (λ h. let k = and_parts (not (f.addr == e.addr)) (has_byte e.addr f || has_byte f.addr e) h in
    elim (or_cases (has_byte e.addr f) (has_byte f.addr e) k.1) [
      | inl p ↦ (let q = leb-true f.addr e.addr (and_parts (nat_le f.addr e.addr) (nat_lt e.addr (f.addr + f.len)) p).0 in absurd (omega (arith, q, l)))
      | inr p ↦ (and_parts (nat_le e.addr f.addr) (nat_lt f.addr (e.addr + e.len)) p).1
    ])
    (λ h. and_from (not (f.addr == e.addr)) (has_byte e.addr f || has_byte f.addr e) (differ f.addr e.addr (λ q. absurd (omega (arith, q, l))))
    (or_right (has_byte e.addr f) (has_byte f.addr e) (and_from (nat_le e.addr f.addr) (nat_lt f.addr (e.addr + e.len))
    (le-leb e.addr f.addr (omega (arith, l))) h)))

-- itself it doesn't meet
meets_self : (e : StartEntry) → meets e e ≡ false
meets_self e = ap (λ b. not b && (has_byte e.addr e || has_byte e.addr e)) (eq-eqb e.addr e.addr refl)

-- where two tests agree on all elements, some element passes the one exactly where some passes the other
any_same : (p q : StartEntry → Bool) (xs : List StartEntry) → AllByRecursion (λ x. p x ≡ q x) xs → list_any p xs ≡ list_any q xs
any_same p q [] h = refl
any_same p q (x ∷ xs) h = λ i. h.0 i || any_same p q xs h.1 i

-- an element of two joined lists passes where one of the first does or one of the second
any_append : (p : StartEntry → Bool) (xs ys : List StartEntry) → list_any p (xs ++ ys) ≡ (list_any p xs || list_any p ys)
any_append p [] ys = refl
any_append p (x ∷ xs) ys = ap (λ b. p x || b) (any_append p xs ys) ∙ grouped (p x) (list_any p xs) (list_any p ys)
  where
    grouped : (a b c : Bool) → (a || (b || c)) ≡ ((a || b) || c)
    grouped true b c = refl
    grouped false b c = refl

-- what holds of all elements holds weakened of all
all_of : (P Q : StartEntry → Type 0) (xs : List StartEntry) → ((x : StartEntry) → P x → Q x) → AllByRecursion P xs → AllByRecursion Q xs
all_of P Q [] f h = tt
all_of P Q (x ∷ xs) f h = (f x h.0, all_of P Q xs f h.1)

-- what holds of all elements and of one more holds of the longer list
all_more : (P : StartEntry → Type 0) (xs : List StartEntry) (y : StartEntry) → AllByRecursion P xs → P y → AllByRecursion P (xs ++ y ∷ [])
all_more P [] y h k = (k, tt)
all_more P (x ∷ xs) y h k = (h.0, all_more P xs y h.1 k)

-- what holds of a longer list holds of all elements and of the one more
all_front : (P : StartEntry → Type 0) (xs : List StartEntry) (y : StartEntry) → AllByRecursion P (xs ++ y ∷ []) → AllByRecursion P xs × P y
all_front P [] y h = (tt, h.0)
all_front P (x ∷ xs) y h = let q = all_front P xs y h.1 in ((h.0, q.0), q.1)

-- the later entries are above
later_above : (file : List ℕ) (n : ℕ) (xs : List ℕ) → AllByRecursion (λ x. n < x) xs → AllByRecursion (λ (f : StartEntry). n < f.addr) (unmarked_of file xs)
later_above file n [] h = tt
later_above file n (x ∷ xs) h =
    let e = addr-entry file x (slice_get xs 0) in let m = h.0 in (omega (arith, e, m), later_above file n xs h.1)

-- some later entry begins below an address exactly where the first of them does
any_below : (file : List ℕ) (n : ℕ) (xs : List ℕ) → IsStrictlyIncreasing xs
    → list_any (λ (f : StartEntry). nat_lt f.addr n) (unmarked_of file xs) ≡ is_next_below (slice_get xs 0) n
any_below file n [] h = refl
any_below file n (x ∷ xs) h =
    let e = addr-entry file x (slice_get xs 0) in
    ap (λ y. nat_lt y n || list_any (λ (f : StartEntry). nat_lt f.addr n) (unmarked_of file xs)) e
    ∙ same_test (nat_lt x n || list_any (λ (f : StartEntry). nat_lt f.addr n) (unmarked_of file xs)) (nat_lt x n)
    (λ k. elim (or_cases (nat_lt x n) (list_any (λ (f : StartEntry). nat_lt f.addr n) (unmarked_of file xs)) k) [
      | inl p ↦ p
      | inr p ↦ lt-ltb x n (least (unmarked_of file xs) (later_above file x xs (first_below x xs h)) p)
    ])
    (λ k. or_left (nat_lt x n) (list_any (λ (f : StartEntry). nat_lt f.addr n) (unmarked_of file xs)) k)
  where
    least : (fs : List StartEntry) → AllByRecursion (λ (f : StartEntry). x < f.addr) fs → list_any (λ (f : StartEntry). nat_lt f.addr n) fs ≡ true → x < n
    least [] a p = absurd cc
    least (f ∷ fs) a p = elim (or_cases (nat_lt f.addr n) (list_any (λ (g : StartEntry). nat_lt g.addr n) fs) p) [
      | inl q ↦ (let r = ltb-true f.addr n q in let l = a.0 in omega (arith, r, l))
      | inr q ↦ least fs a.1 q
    ]

-- An address after the first bytes of some entries is a byte of one where it is below where they end.
abbrev Reached : List StartEntry → ℕ → Type 0
Reached ds r = (x : ℕ) → AllByRecursion (λ (d : StartEntry). d.addr ≤ x) ds → list_any (has_byte x) ds ≡ nat_lt x r

-- entries that reach up to an address reach, with one more, up to the further of it and that one's end
reached_more : (ds : List StartEntry) (r : ℕ) (e : StartEntry) → Reached ds r → Reached (ds ++ e ∷ []) (further r (e.addr + e.len))
reached_more ds r e h x a =
    let q = all_front (λ (d : StartEntry). d.addr ≤ x) ds e a in
    any_append (has_byte x) ds (e ∷ []) ∙ ap (λ b. b || (has_byte x e || false)) (h x q.0) ∙ at (e.addr + e.len) q.1
  where
    at : (n : ℕ) → e.addr ≤ x → (nat_lt x r || ((nat_le e.addr x && nat_lt x n) || false)) ≡ nat_lt x (further r n)
    at n l = ap (λ b. nat_lt x r || ((b && nat_lt x n) || false)) (le-leb e.addr x l) ∙ later (nat_lt r n) refl
      where
        later : (b : Bool) → nat_lt r n ≡ b → (nat_lt x r || (nat_lt x n || false)) ≡ nat_lt x (if b then n else r)
        later true k = same_test _ (nat_lt x n)
            (λ t. elim (or_cases (nat_lt x r) (nat_lt x n || false) t) [
              | inl p ↦ (let u = ltb-true x r p in let v = ltb-true r n k in lt-ltb x n (omega (arith, u, v)))
              | inr p ↦ elim (or_cases (nat_lt x n) false p) [ inl s ↦ s | inr s ↦ absurd cc ]
            ]) (λ t. or_right (nat_lt x r) (nat_lt x n || false) (or_left (nat_lt x n) false t))
        later false k = same_test _ (nat_lt x r)
            (λ t. elim (or_cases (nat_lt x r) (nat_lt x n || false) t) [
              | inl p ↦ p
              | inr p ↦ elim (or_cases (nat_lt x n) false p) [
                | inl s ↦ (let u = ltb-true x n s in let v = ltb-false r n k in lt-ltb x r (omega (arith, u, v)))
                | inr s ↦ absurd cc
              ]
            ]) (λ t. or_left (nat_lt x r) (nat_lt x n || false) t)

-- the mark of an entry in one pass says whether it meets one before it or after it
mark_is : (file : List ℕ) (ds : List StartEntry) (r : ℕ) (e : StartEntry) (after : List ℕ) → Reached ds r
    → AllByRecursion (λ (d : StartEntry). d.addr < e.addr) ds → AllByRecursion (λ x. e.addr < x) after → IsStrictlyIncreasing after
    → (nat_lt e.addr r || is_next_below (slice_get after 0) (e.addr + e.len)) ≡ is_shared (ds ++ e ∷ unmarked_of file after) e
unfolding is_shared
mark_is file ds r e after h b a up =
    let ps = unmarked_of file after in
    let front : list_any (meets e) ds ≡ nat_lt e.addr r =
    any_same (meets e) (has_byte e.addr) ds (all_of (λ (d : StartEntry). d.addr < e.addr) (λ (d : StartEntry). meets e d ≡ has_byte e.addr d) ds
    (λ d l. meets_below e d l) b)
    ∙ h e.addr (all_of (λ (d : StartEntry). d.addr < e.addr) (λ (d : StartEntry). d.addr ≤ e.addr) ds (λ d l. omega (arith, l)) b) in
    let back : list_any (meets e) ps ≡ is_next_below (slice_get after 0) (e.addr + e.len) =
    any_same (meets e) (λ (f : StartEntry). nat_lt f.addr (e.addr + e.len)) ps (all_of (λ (f : StartEntry). e.addr < f.addr)
    (λ (f : StartEntry). meets e f ≡ nat_lt f.addr (e.addr + e.len)) ps (λ f l. meets_above e f l) (later_above file e.addr after a))
    ∙ any_below file (e.addr + e.len) after up in
    sym (any_append (meets e) ds (e ∷ ps) ∙ (λ i. front i || (meets_self e i || back i)))

-- all marks of one pass say whether entries meet others
marks_behind : (file : List ℕ) (ds : List StartEntry) (r : ℕ) (left : List ℕ) → Reached ds r
    → AllByRecursion (λ (d : StartEntry). AllByRecursion (λ x. d.addr < x) left) ds → IsStrictlyIncreasing left
    → marks_from file r left ≡ map (marked (ds ++ unmarked_of file left)) (unmarked_of file left)
marks_behind file ds r [] h b up = refl
marks_behind file ds r (a ∷ after) h b up =
    let e : StartEntry = start_entry file a (slice_get after 0) in
    let at : e.addr ≡ a = addr-entry file a (slice_get after 0) in
    let rest = increasing_rest a after up in
    let above = first_below a after up in
    let m = mark_is file ds r e after h
    (all_of (λ (d : StartEntry). AllByRecursion (λ x. d.addr < x) (a ∷ after)) (λ (d : StartEntry). d.addr < e.addr) ds
    (λ d l. let k = l.0 in omega (arith, k, at)) b)
    (subst (λ (n : ℕ). AllByRecursion (λ x. n < x) after) (sym at) above) rest in
    let later = marks_behind file (ds ++ e ∷ []) (further r (e.addr + e.len)) after (reached_more ds r e h)
    (all_more (λ (d : StartEntry). AllByRecursion (λ x. d.addr < x) after) ds e
    (all_of (λ (d : StartEntry). AllByRecursion (λ x. d.addr < x) (a ∷ after)) (λ (d : StartEntry). AllByRecursion (λ x. d.addr < x) after) ds
    (λ d l. l.1) b) (subst (λ (n : ℕ). AllByRecursion (λ x. n < x) after) (sym at) above)) rest in
    (λ i. record { addr = e.addr; len = e.len; form = e.form; shared = m i } ∷ marks_from file (further r (e.addr + e.len)) after)
    ∙ ap (λ (zs : List StartEntry). marked (ds ++ e ∷ unmarked_of file after) e ∷ zs)
    (later ∙ ap (λ (zs : List StartEntry). map (marked zs) (unmarked_of file after)) (append_assoc ds (e ∷ []) (unmarked_of file after)))

-- entries of ascending starts, marked one after the other, are the entries of these starts
pub marks_are : (file starts : List ℕ) → IsStrictlyIncreasing starts → marks_from file 0 starts ≡ entries_of file starts
marks_are file starts up = marks_behind file [] 0 starts
    (λ x h. sym (false_from_ne_true (nat_lt x 0) (λ t. let l = ltb-true x 0 t in absurd (omega (arith, l))))) tt up
