-- A fact of each place below a number, as a tuple.
use Rattle.std.proofs.Common.{◌≡◌, ℕ, zero, suc, ◌+◌, ◌-◌, ◌<◌, cond, Bool, true, false, List, Some, refl, ap, subst, sym, ◌∙◌, arith}
use Rattle.std.specs.Str.{bytes_eq}
use Rattle.image_step.specs.Spelling.{name}
use Rattle.image_step.specs.Reading.{name_in, place_from}

-- The facts of the n places from the kth on.
abbrev pub FactsFrom : (ℕ → Type 0) → ℕ → ℕ → Type 0
FactsFrom P k zero = Unit {0}
FactsFrom P k (suc n) = P k × FactsFrom P (suc k) n

-- A fact of n places from k on holds at each of them.
pub fact_from : (P : ℕ → Type 0) (k n i : ℕ) → i < n → FactsFrom P k n → P (k + i)
fact_from P k zero i h f = absurd (omega arith)
fact_from P k (suc n) zero h f = let e : k ≡ k + 0 = omega arith in subst P e f.0
fact_from P k (suc n) (suc i) h f =
    let e : suc k + i ≡ k + suc i = omega arith in subst P e (fact_from P (suc k) n i (omega arith) f.1)

-- A fact of the first n places holds at each of them.
pub fact_at : (P : ℕ → Type 0) (n i : ℕ) → i < n → FactsFrom P 0 n → P i
fact_at P n i h f = let e : 0 + i ≡ i = omega arith in subst P e (fact_from P 0 n i h f)

-- A name is at a place or at a later one.
pub next_place : (n k : ℕ) (text : List ℕ) → k < n
    → place_from (n - k) k text ≡ cond (bytes_eq text (name k)) (Some k) (place_from (n - (k + 1)) (k + 1) text)
next_place n k text h = let e : n - k ≡ suc (n - (k + 1)) = omega arith in rw e refl

-- A name that is found is the first one.
pub found_here : (k : ℕ) (text : List ℕ) → k < 19 → place_from (19 - k) k text ≡ place_from 19 0 text → bytes_eq text (name k) ≡ true → Some k ≡ name_in text
unfolding name_in
found_here k text h i e = sym (sym i ∙ (next_place 19 k text h ∙ ap (λ (b : Bool). cond b (Some k) (place_from (19 - (k + 1)) (k + 1) text)) e))

-- Where a name is not the text, it is looked for among those behind it.
pub not_here : (k : ℕ) (text : List ℕ) → k < 19 → place_from (19 - k) k text ≡ place_from 19 0 text → bytes_eq text (name k) ≡ false
    → place_from (19 - (k + 1)) (k + 1) text ≡ place_from 19 0 text
not_here k text h i e = sym (sym i ∙ (next_place 19 k text h ∙ ap (λ (b : Bool). cond b (Some k) (place_from (19 - (k + 1)) (k + 1) text)) e))
