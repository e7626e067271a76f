-- The least site of a bad row, row by row.
use Rattle.std.proofs.Common.{◌≡◌, ◌⊎◌, inl, inr, ℕ, Bool, true, false, cond, List, [], ◌∷◌, Option, Some, None, refl, arith}
use Rattle.std.specs.Prelude.{◌&&◌, ◌==◌}
use Rattle.std.proofs.lemmas.Bool.{false≢true, or_cases, or_left, or_right, and_parts, and_from, eqb-true, eq-eqb}
use Rattle.patch_report.specs.Values.{RowValue}
use Rattle.start_entries.specs.declared.entry.StartEntry.{StartEntry}
use Rattle.image_check.specs.Parts.{row_is_bad, any_row_bad, least_bad, lesser_of}
use Rattle.image_check.specs.Verdict.{IsLeastOf}
use Rattle.image_check.proofs.LeastAddresses.{IsBoth, least_of_both}

-- the least of a set is that of the same set
same_least : (P R : ℕ → Type 0) (o : Option ℕ) → ((x : ℕ) → R x → P x) → ((x : ℕ) → P x → R x) → IsLeastOf P o → IsLeastOf R o
same_least P R None to from h = λ x k. h x (to x k)
same_least P R (Some y) to from h = (from y h.0, λ x k. h.1 x (to x k))

-- the least site of bad rows, with one more row, is the lesser of the least and its site where it is bad
row_more : (P : ℕ → Type 0) (least : Option ℕ) (site : ℕ) (b : Bool) → IsLeastOf P least
    → IsLeastOf (λ x. P x ⊎ (((site == x) && b) ≡ true)) (cond b (lesser_of least (Some site)) least)
row_more P least site true h =
    least_of_both P (λ x. ((site == x) && true) ≡ true) _ least (Some site)
    (record { either = λ x k. k; first = λ x k. inl k; second = λ x k. inr k }) h
    (and_from (site == site) true (eq-eqb site site refl) refl, λ x k. let e = eqb-true site x (and_parts (site == x) true k).0 in omega (arith, e))
row_more P least site false h =
    same_least P _ least (λ x k. elim k [ inl m ↦ m | inr m ↦ absurd (false≢true (and_parts (site == x) false m).1) ]) (λ x k. inl k) h

-- rows after another, where this is the least so far
least_behind : (es : List StartEntry) (P R : ℕ → Type 0) (least : Option ℕ) (before : Option RowValue) (rows : List RowValue)
    → IsBoth P (λ x. any_row_bad es before rows x ≡ true) R → IsLeastOf P least → IsLeastOf R (least_bad es least before rows)
least_behind es P R least before [] b h =
    same_least P R least (λ x k. elim (b.either x k) [ inl m ↦ m | inr m ↦ absurd (false≢true m) ]) b.first h
least_behind es P R least before (r ∷ rs) b h =
    let here : ℕ → Bool = λ x. (r.site == x) && row_is_bad es before r in
    let later : ℕ → Bool = any_row_bad es (Some r) rs in
    least_behind es (λ x. P x ⊎ (here x ≡ true)) R _ (Some r) rs (record {
      either = λ x k. elim (b.either x k) [
        | inl m ↦ inl (inl m)
        | inr m ↦ elim (or_cases (here x) (later x) m) [ inl n ↦ inl (inr n) | inr n ↦ inr n ]
      ];
      first = λ x k. elim k [ inl m ↦ b.first x m | inr m ↦ b.second x (or_left (here x) (later x) m) ];
      second = λ x k. b.second x (or_right (here x) (later x) k);
    })
    (row_more P least r.site (row_is_bad es before r) h)

-- all rows
pub least_row : (es : List StartEntry) (rows : List RowValue) → IsLeastOf (λ x. any_row_bad es None rows x ≡ true) (least_bad es None None rows)
least_row es rows = least_behind es (λ x. ⊥) _ None None rows (record { either = λ x k. inr k; first = λ x k. absurd k; second = λ x k. k }) (λ x k. k)
