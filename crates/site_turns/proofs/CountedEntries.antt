-- Where all entries that pass a test have one address, one is counted.
use Rattle.std.proofs.Common.{◌≡◌, ℕ, suc, ◌<◌, ◌≤◌, Bool, true, false, cond, List, [], ◌∷◌, Some, refl, sym, ◌∙◌, arith, inl, inr}
use Rattle.std.specs.Prelude.{slice_get}
use Rattle.std.specs.List.{count_by, AllByRecursion}
use Rattle.std.specs.List.Sorted.{IsStrictlyIncreasing}
use Rattle.std.proofs.lemmas.Bool.{cases_Bool, cond-false, ltb-true}
use Rattle.patch_report.proofs.ListPlaces.{any_at, one_more}
use Rattle.sound_images.proofs.CountedElements.{by_count, count_cons}
use Rattle.start_entries.specs.declared.entry.StartEntry.{StartEntry}
use Rattle.start_entries.specs.Finding.{addresses}
use Rattle.start_entries.proofs.AscendingEntries.{increasing_rest, first_below}

-- a test that fails counts nothing
counts_none : (b : Bool) → b ≡ false → ◌≡◌ {A = ℕ} (cond b 1 0) 0
counts_none b e = cond-false b 1 0 e

-- where only entries at an address pass a test, none of the entries above it is counted
none_above : (es : List StartEntry) (p : StartEntry → Bool) (a : ℕ) → AllByRecursion (λ b. a < b) (addresses es)
    → ((i : ℕ) (e : StartEntry) → slice_get es i ≡ Some e → p e ≡ true → e.addr ≡ a) → count_by p es ≡ 0
none_above [] p a b h = refl
none_above (e ∷ es) p a b h =
    let rest = none_above es p a b.1 (λ i f q t. h (suc i) f q t) in
    let l = b.0 in
    elim (cases_Bool (p e)) [
      | inl t ↦ (let k = h 0 e refl t in absurd (omega (arith, k, l)))
      | inr f ↦ omega (arith, count_cons p e es, rest, counts_none (p e) f)
    ]

-- where only entries at one address pass a test, at most one of ascending entries passes
most_once : (es : List StartEntry) (p : StartEntry → Bool) (a : ℕ) → IsStrictlyIncreasing (addresses es)
    → ((i : ℕ) (e : StartEntry) → slice_get es i ≡ Some e → p e ≡ true → e.addr ≡ a) → count_by p es ≤ 1
most_once [] p a up h = omega arith
most_once (e ∷ es) p a up h = elim (cases_Bool (p e)) [
  | inl t ↦ (let k : e.addr ≡ a = h 0 e refl t in
      let none = none_above es p e.addr (first_below e.addr (addresses es) up) (λ i f q s. h (suc i) f q s ∙ sym k) in
      omega (arith, count_cons p e es, none, one_more (p e) t))
  | inr f ↦ (let rest = most_once es p a (increasing_rest e.addr (addresses es) up) (λ i g q s. h (suc i) g q s) in
      omega (arith, count_cons p e es, rest, counts_none (p e) f))
]

-- of ascending entries of which one passes a test, and each other that passes has its address, exactly one passes
pub count_once : (es : List StartEntry) (p : StartEntry → Bool) → IsStrictlyIncreasing (addresses es) → (i : ℕ) (e : StartEntry)
    → slice_get es i ≡ Some e → p e ≡ true → ((j : ℕ) (f : StartEntry) → slice_get es j ≡ Some f → p f ≡ true → f.addr ≡ e.addr)
    → count_by p es ≡ 1
count_once es p up i e q t h =
    let low = ltb-true 0 (count_by p es) (sym (by_count p es) ∙ any_at p es i e q t) in
    let high = most_once es p e.addr up h in
    omega (arith, low, high)
