-- Accesses that avoid a set, one after the other; starts that are looked up.
use Rattle.std.proofs.Common.{◌≡◌, inl, inr, ℕ, zero, suc, ◌+◌, ◌-◌, ◌%◌, ◌^◌, ◌<◌, ◌≤◌, ◌==◌, Bool, true, false, ◌||◌, List, [], ◌∷◌, drop, Option, Some, None, refl, ap, sym, subst, ◌∙◌, arith}
use Rattle.std.specs.Prelude.{is_some}
use Rattle.std.specs.List.{AllByRecursion}
use Rattle.std.specs.List.Sorted.{IsStrictlyIncreasing}
use Rattle.std.proofs.lemmas.Bool.{cases_Bool, eq-eqb}
use Rattle.std.proofs.lemmas.Bool.Decides.{nat_tests}
use Rattle.cpu_state.specs.Bytes.{advanced, avoids}
use Rattle.start_entries.specs.declared.entry.StartEntry.{StartEntry}
use Rattle.start_entries.specs.Finding.{addresses, entry_at}
use Rattle.start_entries.proofs.AscendingEntries.{first_below, increasing_rest}
use Rattle.image_runs.specs.Listed.{is_known_start, is_start}

-- Where the set has no byte at an address, all are avoided exactly where those behind it are.
pub avoid_more : (set : ℕ → Bool) (at n k : ℕ) (whole : Bool) → k < n → set at ≡ false → avoids set at (n - k) ≡ whole → avoids set ((at + 1) % 2 ^ 64) (n - (k + 1)) ≡ whole
avoid_more set at n k whole h e a =
    let m : n - k ≡ suc (n - (k + 1)) = omega arith in
    let one : avoids set at (suc (n - (k + 1))) ≡ avoids set ((at + 1) % 2 ^ 64) (n - (k + 1)) = rw e refl in
    sym one ∙ (ap (avoids set at) (sym m) ∙ a)

-- An address is a listed start exactly where an entry is found there.
pub found_start : (es : List StartEntry) (a : ℕ) → is_some (entry_at es a) ≡ is_start es a
found_start [] a = refl
found_start (e ∷ es) a = elim (cases_Bool (e.addr == a)) [
  | inl t ↦ rw t refl
  | inr f ↦ rw f (found_start es a)
]

-- Whether there is an entry, and its length is known.
abbrev pub has_form : Option StartEntry → Bool
has_form None = false
has_form (Some e) = is_some e.form

none_above : (es : List StartEntry) (a : ℕ) → AllByRecursion (λ b. a < b) (addresses es) → is_known_start es a ≡ false
none_above [] a h = refl
none_above (e ∷ es) a h = let f : (e.addr == a) ≡ false = (let less : a < e.addr = h.0 in grind (arith, nat_tests)) in rw f (none_above es a h.1)

or_none : (b : Bool) → b ≡ b || false
or_none true = refl
or_none false = refl

-- It is a listed start of known length exactly where the entry that is found has a form.
pub found_known : (es : List StartEntry) (a : ℕ) → IsStrictlyIncreasing (addresses es) → has_form (entry_at es a) ≡ is_known_start es a
found_known [] a s = refl
found_known (e ∷ es) a s = elim (cases_Bool (e.addr == a)) [
  | inl t ↦
      let same : e.addr ≡ a = grind (arith, nat_tests) in
      let above = subst (λ (b : ℕ). AllByRecursion (λ c. b < c) (addresses es)) same (first_below e.addr (addresses es) s) in
      rw t (or_none (is_some e.form) ∙ ap (λ (b : Bool). is_some e.form || b) (sym (none_above es a above)))
  | inr f ↦ rw f (found_known es a (increasing_rest e.addr (addresses es) s))
]

-- where the set has none of them, they avoid it
pub avoid_all : (set : ℕ → Bool) (a n : ℕ) → a + n < 2 ^ 64 → ((x : ℕ) → a ≤ x → x < a + n → set x ≡ false) → avoids set a n ≡ true
avoid_all set a zero l f = refl
avoid_all set a (suc n) l f =
    let e : advanced a 1 ≡ a + 1 = omega arith in
    let here : set a ≡ false = f a (omega arith) (omega arith) in
    let rest : avoids set (a + 1) n ≡ true = avoid_all set (a + 1) n (omega arith) (λ x u v. f x (omega arith) (omega arith)) in
    rw (here, e) rest

-- An entry behind ones that are above a number is above it.
below_at : (x : ℕ) (es : List StartEntry) (i : ℕ) (e : StartEntry) (t : List StartEntry) → AllByRecursion (λ b. x < b) (addresses es) → drop i es ≡ e ∷ t → x < e.addr
below_at x [] zero e t h d = absurd cc
below_at x [] (suc i) e t h d = absurd cc
below_at x (f ∷ es) zero e t h d = let s : f ≡ e = cc in subst (λ (z : StartEntry). x < z.addr) s h.0
below_at x (f ∷ es) (suc i) e t h d = below_at x es i e t h.1 d

-- The entry at a place is the one at its address.
pub found_at : (es : List StartEntry) (i a : ℕ) (e : StartEntry) (t : List StartEntry) → IsStrictlyIncreasing (addresses es) → drop i es ≡ e ∷ t → e.addr ≡ a → entry_at es a ≡ Some e
found_at [] zero a e t s d h = absurd cc
found_at [] (suc i) a e t s d h = absurd cc
found_at (f ∷ es) zero a e t s d h =
    let same : f ≡ e = cc in
    let here : (f.addr == a) ≡ true = eq-eqb f.addr a (ap (λ (z : StartEntry). z.addr) same ∙ h) in
    rw here (ap (λ (z : StartEntry). Some z) same)
found_at (f ∷ es) (suc i) a e t s d h =
    let less = below_at f.addr es i e t (first_below f.addr (addresses es) s) d in
    let other : (f.addr == a) ≡ false = grind (arith, nat_tests) in
    rw other (found_at es i a e t (increasing_rest f.addr (addresses es) s) d h)
