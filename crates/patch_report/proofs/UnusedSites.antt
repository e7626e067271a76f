-- Among as many addresses as there are rows, and one more, there is one that is no row's site.
use Rattle.std.proofs.Common.{◌≡◌, ℕ, zero, suc, ◌+◌, ◌<◌, ◌≤◌, Bool, true, false, not, ◌&&◌, cond, List, [], ◌∷◌, length, refl, arith}
use Rattle.std.specs.Prelude.{◌==◌}
use Rattle.std.proofs.lemmas.Bool.{and_parts, and_from}
use Rattle.std.proofs.lemmas.Bool.Decides.{nat_tests}
use Rattle.patch_report.specs.Values.{RowValue}
use Rattle.patch_report.specs.Grammar.{is_new}

-- The rows of other sites.
abbrev others : ℕ → List RowValue → List RowValue
others site [] = []
others site (r ∷ rs) = cond (site == r.site) (others site rs) (r ∷ others site rs)

at_most : (site : ℕ) (rows : List RowValue) → length (others site rows) ≤ length rows
at_most site [] = omega arith
at_most site (r ∷ rs) = by (site == r.site) (at_most site rs)
  where
    by : (b : Bool) → length (others site rs) ≤ length rs → length (cond b (others site rs) (r ∷ others site rs)) ≤ suc (length rs)
    by true h = omega arith
    by false h = omega arith

fewer : (site : ℕ) (rows : List RowValue) → is_new site rows ≡ false → length (others site rows) < length rows
fewer site [] h = absurd cc
fewer site (r ∷ rs) h = by (site == r.site) h (fewer site rs)
  where
    by : (b : Bool) → (not b && is_new site rs) ≡ false → (is_new site rs ≡ false → length (others site rs) < length rs)
        → length (cond b (others site rs) (r ∷ others site rs)) < suc (length rs)
    by true h f = let m = at_most site rs in omega arith
    by false h f = let m : length (others site rs) < length rs = f h in omega arith

new_among : (site other : ℕ) (rows : List RowValue) → (site == other) ≡ false → is_new site (others other rows) ≡ true
    → is_new site rows ≡ true
new_among site other [] e h = refl
new_among site other (r ∷ rs) e h = by (other == r.site) refl h (new_among site other rs e)
  where
    apart : (other == r.site) ≡ true → (site == r.site) ≡ false
    apart k = grind (arith, nat_tests)

    by : (b : Bool) → (other == r.site) ≡ b → is_new site (cond b (others other rs) (r ∷ others other rs)) ≡ true
        → (is_new site (others other rs) ≡ true → is_new site rs ≡ true) → (not (site == r.site) && is_new site rs) ≡ true
    by true k h f = rw (apart k) (f h)
    by false k h f =
        let p = and_parts (not (site == r.site)) (is_new site (others other rs)) h in
        and_from (not (site == r.site)) (is_new site rs) p.0 (f p.1)

-- An address from the first on, at most so many behind it.
pub record IsUnused (first most : ℕ) (rows : List RowValue) : Type 0 where
  pub site : ℕ
  pub from : first ≤ site
  pub within : site ≤ first + most
  pub new : is_new site rows ≡ true

unused_from : (most first : ℕ) (rows : List RowValue) → length rows ≤ most → IsUnused first most rows
unused_from zero first [] h = record { site = first; from = omega arith; within = omega arith; new = refl }
unused_from zero first (r ∷ rs) h = absurd (omega arith)
unused_from (suc n) first rows h = by (is_new first rows) refl (unused_from n (first + 1) (others first rows))
  where
    by : (b : Bool) → is_new first rows ≡ b → (length (others first rows) ≤ n → IsUnused (first + 1) n (others first rows))
        → IsUnused first (suc n) rows
    by true e f = record { site = first; from = omega arith; within = omega arith; new = e }
    by false e f =
        let k : length (others first rows) < length rows = fewer first rows e in
        let w : IsUnused (first + 1) n (others first rows) = f (omega arith) in
        let a : first + 1 ≤ w.site = w.from in
        let b : w.site ≤ first + 1 + n = w.within in
        let d : (w.site == first) ≡ false = grind (arith, nat_tests) in
        record { site = w.site; from = omega arith; within = omega arith; new = new_among w.site first rows d w.new }

-- Some number up to the number of rows is no row's site.
pub unused : (rows : List RowValue) → IsUnused 0 (length rows) rows
unused rows = unused_from (length rows) 0 rows (omega arith)
