-- Whether the bytes of code are loaded, R-X, where the original loads none.
use Rattle.std.proofs.Common.{◌≡◌, ℕ, zero, suc, ◌+◌, ◌<◌, Bool, true, false, cond, List, [], ◌∷◌, length, slice_index, Option, Some, None, refl, subst, arith}
use Rattle.std.proofs.lemmas.Bool.{false≢true}
use Rattle.pun_base.specs.Memory.{Cell, Bytes}
use Rattle.patch_report.proofs.ListPlaces.{some_is}
use Rattle.image_check.proofs.CodeRule.{held}
use Rattle.thread_check.specs.LineParts.{is_new_code, first_broken}

-- a byte is loaded, R-X
abbrev pub IsHeld : Option Cell → ℕ → Type 0
IsHeld d b = d ≡ Some (record { byte = b; perms = 5 })

-- a byte that passes the test is held where the original has none
new_held : (o d : Option Cell) (b : ℕ) → is_new_code o d b ≡ true → IsHeld d b × (o ≡ None)
new_held None d b h = (held d b h, refl)
new_held (Some c) d b h = absurd (false≢true h)

-- what a test on the first byte gives where none is broken
none_broken : (t : Bool) (o : Option ℕ) (a : ℕ) → cond t o (Some a) ≡ None → (t ≡ true) × (o ≡ None)
none_broken true o a h = (refl, h)
none_broken false o a h = absurd cc

-- where no byte is broken, each is held, and the original has none there
pub each_held : (m n : Bytes) (a : ℕ) (bs : List ℕ) → first_broken m n a bs ≡ None → (k : ℕ) → k < length bs
    → IsHeld (n (a + k)) (slice_index bs k) × (m (a + k) ≡ None)
each_held m n a [] h k l = absurd (omega (arith, l))
each_held m n a (b ∷ bs) h zero l =
    let q = none_broken (is_new_code (m a) (n a) b) (first_broken m n (a + 1) bs) a h in
    let z : a ≡ a + 0 = omega arith in
    subst (λ (x : ℕ). IsHeld (n x) b × (m x ≡ None)) z (new_held (m a) (n a) b q.0)
each_held m n a (b ∷ bs) h (suc k) l =
    let q = none_broken (is_new_code (m a) (n a) b) (first_broken m n (a + 1) bs) a h in
    let z : a + 1 + k ≡ a + suc k = omega arith in
    subst (λ (x : ℕ). IsHeld (n x) (slice_index bs k) × (m x ≡ None)) z (each_held m n (a + 1) bs q.1 k (omega (arith, l)))

-- a byte of code that fails the test
pub record Broken (m n : Bytes) (a : ℕ) (bs : List ℕ) (x : ℕ) : Type 0 where
  pub place : ℕ
  pub inside : place < length bs
  pub at : a + place ≡ x
  pub fails : is_new_code (m x) (n x) (slice_index bs place) ≡ false

-- the address that is given is that of such a byte
pub one_broken : (m n : Bytes) (a : ℕ) (bs : List ℕ) (x : ℕ) → first_broken m n a bs ≡ Some x → Broken m n a bs x
one_broken m n a [] x h = absurd cc
one_broken m n a (b ∷ bs) x h = by_test (is_new_code (m a) (n a) b) refl h (one_broken m n (a + 1) bs x)
  where
    by_test : (t : Bool) → is_new_code (m a) (n a) b ≡ t → cond t (first_broken m n (a + 1) bs) (Some a) ≡ Some x
        → (first_broken m n (a + 1) bs ≡ Some x → Broken m n (a + 1) bs x) → Broken m n a (b ∷ bs) x
    by_test true e f go =
        let q = go f in
        let l = q.inside in
        let z = q.at in
        record { place = suc q.place; inside = omega (arith, l); at = omega (arith, z); fails = q.fails }
    by_test false e f go =
        let s : a ≡ x = some_is a x f in
        record { place = 0; inside = omega arith; at = omega (arith, s); fails = subst (λ (y : ℕ). is_new_code (m y) (n y) b ≡ false) s e }
