-- Rule 6, part by part.
use Rattle.std.proofs.Common.{◌≡◌, ◌⊎◌, inl, inr, ◌↔◌, ℕ, zero, suc, ◌+◌, ◌<◌, Bool, true, false, IsTrue, List, [], ◌∷◌, length, Option, Some, None, is_some, refl, sym, ◌∙◌, subst}
use Rattle.std.specs.Prelude.{◌||◌, ◌&&◌, ◌==◌, not, slice_get}
use Rattle.std.proofs.lemmas.Bool.{false≢true, or_cases, and_parts, and_from, or_left, or_right, eqb-true, eq-eqb, ltb-true, lt-ltb, not-true, not_from_false}
use Rattle.elf_read.proofs.PlainFronts.{is_false}
use Rattle.patch_report.specs.Values.{BodyValue, RowValue}
use Rattle.patch_report.proofs.ListPlaces.{some_is}
use Rattle.start_entries.specs.Finding.{entry_at}
use Rattle.image_check.specs.Parts.{row_is_bad, any_row_bad, is_too_short}
use Rattle.sound_images.specs.Reports.{private_len, tramps_of}
use Rattle.sound_images.specs.Rules.{Case, RowFails, is_own, is_below, row_before}

-- where not all of three tests pass, one of them fails
bad_cases : (a b d : Bool) → (not a || (not b || not d)) ≡ true → (a ≡ false) ⊎ (b ≡ false) ⊎ (d ≡ false)
bad_cases false b d h = inl refl
bad_cases true false d h = inr (inl refl)
bad_cases true true d h = inr (inr (not-true d h))

-- where one of three tests fails, not all of them pass
bad_from : (a b d : Bool) → (a ≡ false) ⊎ (b ≡ false) ⊎ (d ≡ false) → (not a || (not b || not d)) ≡ true
bad_from a b d (inl e) = or_left (not a) _ (not_from_false a e)
bad_from a b d (inr (inl e)) = or_right (not a) _ (or_left (not b) _ (not_from_false b e))
bad_from a b d (inr (inr e)) = or_right (not a) _ (or_right (not b) _ (not_from_false d e))

-- how a row after another fails at its site
abbrev Fault : Case → Option RowValue → RowValue → ℕ → Type 0
Fault c before r x = (is_some (entry_at c.listed x) ≡ false) ⊎ (is_below x before ≡ false) ⊎ (is_own x (tramps_of r.outcome) ≡ false)

-- a row is bad at x exactly where x is its site and it has a fault after the row before
fault_is : (c : Case) (before : Option RowValue) (r : RowValue) (x : ℕ) → (((r.site == x) && row_is_bad c.listed before r) ≡ true) ↔ ((r.site ≡ x) × Fault c before r x)
fault_is c before r x = (
  λ h. let p = and_parts (r.site == x) (row_is_bad c.listed before r) h in let q = eqb-true r.site x p.0 in
      (q, subst (λ z. Fault c before r z) q (bad_cases (is_some (entry_at c.listed r.site)) (is_below r.site before) (is_own r.site (tramps_of r.outcome)) p.1)),
  λ f. and_from (r.site == x) (row_is_bad c.listed before r) (eq-eqb r.site x f.0) (bad_from (is_some (entry_at c.listed r.site)) (is_below r.site before) (is_own r.site (tramps_of r.outcome)) (subst (λ z. Fault c before r z) (sym f.0) f.1)),
)

-- a row fails, where these are the rows before
abbrev FailsBehind : Case → (ℕ → Option RowValue) → List RowValue → ℕ → Type 0
FailsBehind c g rows x = (i : ℕ) × (r : RowValue) × (slice_get rows i ≡ Some r) × (r.site ≡ x) × Fault c (g i) r x

-- a row that is found bad among those after a first is one that fails
found_behind : (c : Case) (x : ℕ) (g : ℕ → Option RowValue) (rows : List RowValue) → ((i : ℕ) → g (suc i) ≡ slice_get rows i)
    → any_row_bad c.listed (g 0) rows x ≡ true → FailsBehind c g rows x
found_behind c x g [] e h = absurd (false≢true h)
found_behind c x g (r ∷ rs) e h = elim (or_cases ((r.site == x) && row_is_bad c.listed (g 0) r) (any_row_bad c.listed (Some r) rs x) h) [
  | inl k ↦ (let q = (fault_is c (g 0) r x).0 k in (0, r, refl, q.0, q.1))
  | inr k ↦ (let f = found_behind c x (λ i. g (suc i)) rs (λ i. e (suc i)) (subst (λ b. any_row_bad c.listed b rs x ≡ true) (sym (e 0)) k) in
      (suc f.0, f.1, f.2, f.3, f.4))
]

-- a row that fails among those after a first is found bad
any_behind : (c : Case) (x : ℕ) (g : ℕ → Option RowValue) (rows : List RowValue) → ((i : ℕ) → g (suc i) ≡ slice_get rows i)
    → FailsBehind c g rows x → any_row_bad c.listed (g 0) rows x ≡ true
any_behind c x g [] e f = let k = f.2 in absurd cc
any_behind c x g (r ∷ rs) e (zero, s, p, q, f) =
    or_left ((r.site == x) && row_is_bad c.listed (g 0) r) (any_row_bad c.listed (Some r) rs x)
    ((fault_is c (g 0) r x).1 (subst (λ (z : RowValue). (z.site ≡ x) × Fault c (g 0) z x) (sym (some_is r s p)) (q, f)))
any_behind c x g (r ∷ rs) e (suc i, s, p, q, f) =
    or_right ((r.site == x) && row_is_bad c.listed (g 0) r) (any_row_bad c.listed (Some r) rs x)
    (subst (λ b. any_row_bad c.listed b rs x ≡ true) (e 0) (any_behind c x (λ i. g (suc i)) rs (λ i. e (suc i)) (i, s, p, q, f)))

-- some row with this site is bad exactly where a row fails there
pub rows_are : (c : Case) (x : ℕ) → (any_row_bad c.listed None c.report.rows x ≡ true) ↔ RowFails c x
rows_are c x =
    let rows = c.report.rows in
    (found_behind c x (row_before rows) rows (λ i. refl), any_behind c x (row_before rows) rows (λ i. refl))

-- the test of the private range passes exactly at its first address, where it is too short for the action
pub short_is : (v : BodyValue) (x : ℕ) → (is_too_short v x ≡ true) ↔ ((x ≡ v.private.0) × (v.private.1 < x + private_len v.action (length v.rows)))
short_is v x = (
  λ h. let p = and_parts (x == v.private.0) _ h in (eqb-true x v.private.0 p.0, ltb-true v.private.1 (x + private_len v.action (length v.rows)) p.1),
  λ f. and_from (x == v.private.0) _ (eq-eqb x v.private.0 f.0) (lt-ltb v.private.1 (x + private_len v.action (length v.rows)) f.1),
)

-- the last of three, where the others don't hold
pub last_of_three : (P Q R : Type 0) (a b r : Bool) → a ≡ false → b ≡ false → IsTrue a ↔ P → IsTrue b ↔ Q → IsTrue r ↔ R → IsTrue r ↔ (P ⊎ Q ⊎ R)
last_of_three P Q R a b r e f p q h = (
  λ t. inr (inr (h.0 t)),
  λ s. elim s [ inl k ↦ absurd (is_false a e (p.1 k)) | inr k ↦ elim k [ inl m ↦ absurd (is_false b f (q.1 m)) | inr m ↦ h.1 m ] ],
)

-- a test that is another, which tells this
pub told : (b t : Bool) (P : Type 0) → b ≡ t → (t ≡ true) ↔ P → IsTrue b ↔ P
told b t P e h = (λ k. h.0 (sym e ∙ k), λ p. e ∙ h.1 p)

-- equivalences one after the other are one
pub both_ways : {P Q R : Type 0} → P ↔ Q → Q ↔ R → P ↔ R
both_ways f g = (λ p. g.0 (f.0 p), λ r. f.1 (g.1 r))
