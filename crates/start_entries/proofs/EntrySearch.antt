-- What is found at an address, or above it, among entries that ascend.
use Rattle.std.proofs.Common.{◌≡◌, ◌≢◌, ℕ, zero, suc, ◌<◌, ◌≤◌, Bool, true, false, cond, List, [], ◌∷◌, length, get_or, Option, Some, None, is_some, Bor, refl, sym, ap, ◌∙◌, subst, arith, inl, inr}
use Rattle.std.specs.Prelude.{◌==◌, ◌↔◌, nat_lt, nat_le, option_copied, IfSome, IsSome, Contains}
use Rattle.std.specs.List.{find}
use Rattle.std.specs.List.Sorted.{IsStrictlyIncreasing, IsPartitionPoint, IsNonDecreasingBy}
use Rattle.std.specs.Slice.{IsItemAt}
use Rattle.std.proofs.lemmas.Bool.{cases_eq, cases_lt, cond-true, cond-false, ltb-false, leb-true, eq-eqb, eqb-true, lt-ltb}
use Rattle.std.proofs.lemmas.Bool.Decides.{nat_tests}
use Rattle.start_entries.specs.declared.entry.StartEntry.{StartEntry}
use Rattle.start_entries.specs.Finding.{addresses, entry_at, entry_after, IsLeastAbove}
use Rattle.start_entries.proofs.AscendingEntries.{entries_rise}

-- the first element that passes a test
find_first : {X : Type 0} (p : X → Bool) (xs : List X) (i : ℕ) (d : X) → i < length xs → p (get_or xs i d) ≡ true → ((k : ℕ) → k < i → p (get_or xs k d) ≡ false) → find p xs ≡ Some (get_or xs i d)
find_first p [] i d l h n = absurd (omega arith)
find_first p (x ∷ xs) zero d l h n = cond-true (p x) _ _ h
find_first p (x ∷ xs) (suc i) d l h n = cond-false (p x) _ _ (n 0 (omega arith)) ∙ find_first p xs i d (omega arith) h (λ k m. n (suc k) (omega arith))

-- nothing is found in a list of which no element passes
find_none : {X : Type 0} (p : X → Bool) (xs : List X) (d : X) → ((k : ℕ) → k < length xs → p (get_or xs k d) ≡ false) → find p xs ≡ None
find_none p [] d n = refl
find_none p (x ∷ xs) d n = cond-false (p x) _ _ (n 0 (omega arith)) ∙ find_none p xs d (λ k m. n (suc k) (omega arith))

-- addresses of entries that ascend don't decrease
pub non_decreasing : (es : List StartEntry) → IsStrictlyIncreasing (addresses es) → IsNonDecreasingBy (λ e. e.addr) es
non_decreasing es h i j d p l = elim (cases_eq i j) [
  | inl e ↦ subst (λ (k : ℕ). (get_or es i d).addr ≤ (get_or es k d).addr) e (omega arith)
  | inr n ↦ let q = entries_rise es h i j d (omega arith) l in omega arith
]

-- the first i entries begin below an address, and the others don't
abbrev pub Below : List StartEntry → ℕ → ℕ → Type 0
Below es a i = IsPartitionPoint (λ e. nat_lt e.addr a ≡ true) (λ e. nat_lt e.addr a ≡ false) es i

-- the first i entries begin at an address or below it, and the others above it
abbrev pub Within : List StartEntry → ℕ → ℕ → Type 0
Within es a i = IsPartitionPoint (λ e. nat_le e.addr a ≡ true) (λ e. nat_le e.addr a ≡ false) es i

-- an entry below an address isn't at it
below_not_at : (x a : ℕ) → nat_lt x a ≡ true → (x == a) ≡ false
below_not_at x a h = grind (arith, nat_tests)

-- an entry above an address isn't at it
above_not_at : (x a : ℕ) → a < x → (x == a) ≡ false
above_not_at x a h = grind (arith, nat_tests)

-- an entry up to an address isn't above it
within_not_above : (x a : ℕ) → nat_le x a ≡ true → nat_lt a x ≡ false
within_not_above x a h = grind (arith, nat_tests)

-- an entry that isn't up to an address is above it
outside_above : (x a : ℕ) → nat_le x a ≡ false → a < x
outside_above x a h = grind (arith, nat_tests)

-- An entry where none is.
abbrev pub nowhere : StartEntry
nowhere = record { addr = 0; len = 0; form = None; shared = false }

-- where no entry is left after those below an address, none is at it
pub at_none : (es : List StartEntry) (a i : ℕ) (r : Option (Bor StartEntry)) → Below es a i → IsItemAt es i r → r ≡ None → entry_at es a ≡ None
at_none es a i None b h e =
    let l : length es ≤ i = h.3 in
    find_none (λ e. e.addr == a) es nowhere (λ k m. below_not_at (get_or es k nowhere).addr a (b.0 k nowhere (omega arith) (omega arith)))
at_none es a i (Some x) b h e = absurd cc

-- where the first entry after those below an address is at it, that one is the entry at the address
pub at_here : (es : List StartEntry) (a i : ℕ) (x : Bor StartEntry) → Below es a i → IsItemAt es i (Some x) → x.now.addr ≡ a → entry_at es a ≡ Some x.now
at_here es a i x b h e =
    let is : x.now ≡ get_or es i x.now = h.1 in
    let here : ((get_or es i x.now).addr == a) ≡ true = eq-eqb (get_or es i x.now).addr a (sym (ap (λ z. z.addr) is) ∙ e) in
    find_first (λ e. e.addr == a) es i x.now h.3.0 here (λ k m. below_not_at (get_or es k x.now).addr a (b.0 k x.now (omega arith) m)) ∙ ap Some (sym is)

-- from one entry on all are above an address
all_above : (es : List StartEntry) (a i k : ℕ) (d : StartEntry) → IsStrictlyIncreasing (addresses es) → a < (get_or es i d).addr → i ≤ k → k < length es → a < (get_or es k d).addr
all_above es a i k d s h l m = elim (cases_eq i k) [
  | inl e ↦ subst (λ (j : ℕ). a < (get_or es j d).addr) e h
  | inr q ↦ let r = entries_rise es s i k d (omega arith) m in omega arith
]

-- where the first entry after those below an address is elsewhere, none is at the address
pub at_other : (es : List StartEntry) (a i : ℕ) (x : Bor StartEntry) → IsStrictlyIncreasing (addresses es) → Below es a i → IsItemAt es i (Some x) → x.now.addr ≢ a → entry_at es a ≡ None
at_other es a i x s b h n =
    let is : x.now ≡ get_or es i x.now = h.1 in
    let same : x.now.addr ≡ (get_or es i x.now).addr = ap (λ z. z.addr) is in
    let high : a ≤ (get_or es i x.now).addr = ltb-false (get_or es i x.now).addr a (b.1 i x.now (omega arith) h.3.0) in
    let here : a < (get_or es i x.now).addr = omega (arith, same, n, high) in
    find_none (λ e. e.addr == a) es x.now (λ k m. elim (cases_lt k i) [
      | inl l ↦ below_not_at (get_or es k x.now).addr a (b.0 k x.now (omega arith) l)
      | inr l ↦ above_not_at (get_or es k x.now).addr a (all_above es a i k x.now s here l m)
    ])

-- the first entry after those at or below an address is the first above it
pub after_is : (es : List StartEntry) (a i : ℕ) (r : Option (Bor StartEntry)) → Within es a i → IsItemAt es i r → option_copied r ≡ entry_after es a
after_is es a i None b h =
    let l : length es ≤ i = h.3 in
    sym (find_none (λ e. nat_lt a e.addr) es nowhere (λ k m. within_not_above (get_or es k nowhere).addr a (b.0 k nowhere (omega arith) (omega arith))))
after_is es a i (Some x) b h =
    let is : x.now ≡ get_or es i x.now = h.1 in
    let here = outside_above (get_or es i x.now).addr a (b.1 i x.now (omega arith) h.3.0) in
    ap Some is ∙ sym (find_first (λ e. nat_lt a e.addr) es i x.now h.3.0 (lt-ltb a (get_or es i x.now).addr here) (λ k m. within_not_above (get_or es k x.now).addr a (b.0 k x.now (omega arith) m)))

-- an entry of the list, whatever stands past its end
same_place : (es : List StartEntry) (i : ℕ) (d f : StartEntry) → i < length es → (get_or es i d).addr ≡ (get_or es i f).addr
same_place [] i d f l = absurd (omega arith)
same_place (e ∷ es) zero d f l = refl
same_place (e ∷ es) (suc i) d f l = same_place es i d f (omega arith)

-- of the entries above an address that one is the least
pub after_least : (es : List StartEntry) (a i : ℕ) (r : Option (Bor StartEntry)) → IsStrictlyIncreasing (addresses es) → Within es a i → IsItemAt es i r → IfSome r (λ e. IsLeastAbove es a e.now)
after_least es a i None s b h = tt
after_least es a i (Some x) s b h =
    let is : x.now ≡ get_or es i x.now = h.1 in
    let same : x.now.addr ≡ (get_or es i x.now).addr = ap (λ z. z.addr) is in
    let here = outside_above (get_or es i x.now).addr a (b.1 i x.now (omega arith) h.3.0) in (
      omega (arith, same, here),
      λ f c l. elim (cases_lt c.0 i) [
        | inl m ↦ (let low = leb-true (get_or es c.0 f).addr a (b.0 c.0 f (omega arith) m) in let e : (get_or es c.0 f).addr ≡ f.addr = ap (λ z. z.addr) c.2 in absurd (omega (arith, low, e, l)))
        | inr m ↦ (let e : (get_or es c.0 f).addr ≡ f.addr = ap (λ z. z.addr) c.2 in elim (cases_eq i c.0) [
          | inl q ↦ (let o : (get_or es i f).addr ≡ (get_or es c.0 f).addr = ap (λ k. (get_or es k f).addr) q in let p = same_place es i x.now f h.3.0 in omega (arith, same, e, o, p))
          | inr q ↦ (let r = entries_rise es s i c.0 f (omega (arith, m, q)) c.1 in let p = same_place es i x.now f h.3.0 in omega (arith, same, e, r, p))
        ])
      ],
    )

-- an address among those of the entries
listed_step : (e : StartEntry) (es : List StartEntry) (a : ℕ) (b : Bool) → (e.addr == a) ≡ b → (is_some (entry_at es a) ≡ true → Contains (addresses es) a) → is_some (cond b (Some e) (entry_at es a)) ≡ true → Contains (addresses (e ∷ es)) a
listed_step e es a true h f g = (0, omega arith, eqb-true e.addr a h)
listed_step e es a false h f g = let c = f g in (suc c.0, omega (arith, c.1), c.2)

-- where an entry is found at an address, that is one of the entries' addresses
pub found_listed : (es : List StartEntry) (a : ℕ) → is_some (entry_at es a) ≡ true → Contains (addresses es) a
found_listed [] a h = absurd cc
found_listed (e ∷ es) a h = listed_step e es a (e.addr == a) refl (λ g. found_listed es a g) h

-- where something is found in the rest, something is found in the list
found_step : (e : StartEntry) (o : Option StartEntry) (b : Bool) → is_some o ≡ true → is_some (cond b (Some e) o) ≡ true
found_step e o true h = refl
found_step e o false h = h

-- where an address is a start, an entry is found there
listed_at : (es : List StartEntry) (a k : ℕ) → k < length (addresses es) → get_or (addresses es) k a ≡ a → is_some (entry_at es a) ≡ true
listed_at [] a k l h = absurd (omega arith)
listed_at (e ∷ es) a zero l h = ap is_some (cond-true (e.addr == a) _ _ (eq-eqb e.addr a h))
listed_at (e ∷ es) a (suc k) l h = found_step e (entry_at es a) (e.addr == a) (listed_at es a k (omega arith) h)

-- at one of the entries' addresses an entry is found
pub listed_found : (es : List StartEntry) (a : ℕ) → Contains (addresses es) a → is_some (entry_at es a) ≡ true
listed_found es a c = listed_at es a c.0 c.1 c.2

-- a copy is there exactly where the original is
copied_some : (r : Option (Bor StartEntry)) → is_some (option_copied r) ≡ is_some r
copied_some None = refl
copied_some (Some x) = refl

-- an answer that is the entry at an address is there exactly where the address is a start
pub told_listed : (es : List StartEntry) (a : ℕ) (r : Option (Bor StartEntry)) → option_copied r ≡ entry_at es a → IsSome r ↔ Contains (addresses es) a
told_listed es a r e = (λ h. found_listed es a (sym (ap is_some e) ∙ copied_some r ∙ h), λ c. sym (copied_some r) ∙ ap is_some e ∙ listed_found es a c)
