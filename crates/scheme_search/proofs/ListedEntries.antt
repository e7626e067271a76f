-- Entries of a list by their addresses.
use Rattle.std.proofs.Common.{◌≡◌, ◌⊎◌, inl, inr, ℕ, zero, suc, ◌<◌, ◌≤◌, true, false, cond, Bool, ◌==◌, List, [], ◌∷◌, length, get_or, Option, Some, None, true≢false, refl, sym, ap, ◌∙◌, arith}
use Rattle.std.specs.Prelude.{Contains}
use Rattle.std.specs.List.{find}
use Rattle.std.specs.List.Sorted.{IsStrictlyIncreasing}
use Rattle.std.proofs.lemmas.Bool.{cases_lt, eqb-true, eq-eqb}
use Rattle.start_entries.specs.declared.entry.StartEntry.{StartEntry}
use Rattle.start_entries.specs.Finding.{addresses, entry_at}
use Rattle.start_entries.proofs.AscendingEntries.{entries_rise}

-- Entries that ascend have each address once.
pub one_entry : (es : List StartEntry) (e f : StartEntry) → IsStrictlyIncreasing (addresses es) → Contains es e → Contains es f
    → f.addr ≡ e.addr → f ≡ e
one_entry es e f s c d a = by_place (cases_lt c.0 d.0) (cases_lt d.0 c.0)
  where
    addr_e : (get_or es c.0 e).addr ≡ e.addr
    addr_e = ap (λ z. z.addr) c.2

    addr_f : (get_or es d.0 f).addr ≡ f.addr
    addr_f = ap (λ z. z.addr) d.2

    other : (xs : List StartEntry) (i : ℕ) (x y : StartEntry) → i < length xs → get_or xs i x ≡ get_or xs i y
    other [] i x y l = absurd (omega arith)
    other (z ∷ zs) zero x y l = refl
    other (z ∷ zs) (suc i) x y l = other zs i x y (omega arith)

    by_place : (c.0 < d.0) ⊎ (d.0 ≤ c.0) → (d.0 < c.0) ⊎ (c.0 ≤ d.0) → f ≡ e
    by_place (inl l) q =
        let r = entries_rise es s c.0 d.0 e l d.1 in
        let w = ap (λ z. z.addr) (other es d.0 e f d.1) in
        absurd (omega (arith, r, w, addr_e, addr_f, a))
    by_place (inr l) (inl q) =
        let r = entries_rise es s d.0 c.0 e q c.1 in
        let w = ap (λ z. z.addr) (other es d.0 e f d.1) in
        absurd (omega (arith, r, w, addr_e, addr_f, a))
    by_place (inr l) (inr q) =
        let same : d.0 ≡ c.0 = omega arith in
        sym d.2 ∙ ap (λ k. get_or es k f) same ∙ other es c.0 f e c.1 ∙ c.2

-- What is found is the first one or one of the others.
find_step : {X : Type 0} (p : X → Bool) (x : X) (xs : List X) (y : X) (b : Bool) → p x ≡ b
    → (find p xs ≡ Some y → Contains xs y × (p y ≡ true)) → cond b (Some x) (find p xs) ≡ Some y → Contains (x ∷ xs) y × (p y ≡ true)
find_step {X} p x xs y true e f h =
    let same : x ≡ y = some_is x y h in
    ((0, omega arith, same), ap p (sym same) ∙ e)
  where
    some_is : (a b : X) → Some a ≡ Some b → a ≡ b
    some_is a b q = cc
find_step p x xs y false e f h = let k = f h in ((suc k.0.0, omega (arith, k.0.1), k.0.2), k.1)

-- What is found is one of a list that passes the test.
pub find_some : {X : Type 0} (p : X → Bool) (xs : List X) (y : X) → find p xs ≡ Some y → Contains xs y × (p y ≡ true)
find_some p [] y h = absurd (cc)
find_some p (x ∷ xs) y h = find_step p x xs y (p x) refl (λ q. find_some p xs y q) h

-- Where nothing is found, the first one fails the test.
none_step : {X : Type 0} (p : X → Bool) (x : X) (o : Option X) (b : Bool) → p x ≡ b → cond b (Some x) o ≡ None → (b ≡ false) × (o ≡ None)
none_step p x o true e h = absurd (cc)
none_step p x o false e h = (refl, h)

-- Where nothing is found, none passes it.
pub find_nothing : {X : Type 0} (p : X → Bool) (xs : List X) (y : X) → find p xs ≡ None → Contains xs y → p y ≡ true → ⊥
find_nothing {X} p xs y h c t = at xs c.0 h c.1 c.2
  where
    at : (zs : List X) (k : ℕ) → find p zs ≡ None → k < length zs → get_or zs k y ≡ y → ⊥
    at [] k n l e = omega arith
    at (z ∷ zs) zero n l e = let s = none_step p z (find p zs) (p z) refl n in true≢false (sym t ∙ ap p (sym e) ∙ s.0)
    at (z ∷ zs) (suc k) n l e = let s = none_step p z (find p zs) (p z) refl n in at zs k s.1 (omega arith) e

-- An entry that is found at an address is one of the list and begins there.
pub entry_found : (es : List StartEntry) (a : ℕ) (e : StartEntry) → entry_at es a ≡ Some e → Contains es e × (e.addr ≡ a)
entry_found es a e h = let k = find_some (λ (f : StartEntry). f.addr == a) es e h in (k.0, eqb-true e.addr a k.1)

-- Where no entry is found at an address, no entry of the list has it.
pub no_entry : (es : List StartEntry) (a : ℕ) (e : StartEntry) → entry_at es a ≡ None → Contains es e → e.addr ≡ a → ⊥
no_entry es a e h c q = find_nothing (λ (f : StartEntry). f.addr == a) es e h c (eq-eqb e.addr a q)

-- A listed entry is found at its address.
pub found_there : (es : List StartEntry) (e : StartEntry) → IsStrictlyIncreasing (addresses es) → Contains es e
    → entry_at es e.addr ≡ Some e
found_there es e s c = by_found (entry_at es e.addr) refl
  where
    by_found : (o : Option StartEntry) → entry_at es e.addr ≡ o → o ≡ Some e
    by_found None h = absurd (no_entry es e.addr e h c refl)
    by_found (Some f) h = let k = entry_found es e.addr f h in ap Some (one_entry es e f s c k.0 k.1)
