-- The lock of an address among pages that ascend.
use Rattle.std.proofs.Common.{◌≡◌, ◌≢◌, ℕ, zero, suc, ◌+◌, ◌/◌, ◌%◌, ◌<◌, ◌≤◌, ◌==◌, List, [], ◌∷◌, length, get_or, refl, ap, ◌∙◌, inl, inr, arith}
use Rattle.std.proofs.lemmas.Bool.{cases_lt, cond-true, cond-false, eq-eqb, ne_eqb, lt-ltb, le-ltb}
use Rattle.byte_locks.specs.declared.lock.Lock.TheVariants.{Free}
use Rattle.byte_locks.specs.declared.page.Page.{Page}
use Rattle.byte_locks.specs.Pages.{lock_in, lock_among, Ascending, count_lower, IsMissing}
use Rattle.byte_locks.proofs.LockPagePlaces.{low_first}

-- an address has the lock of the first page where that page has its number
pub first_page : (p : Page) (ps : List Page) (a : ℕ) → p.number ≡ a / 4096 → lock_among (p ∷ ps) a ≡ lock_in p (a % 4096)
first_page p ps a same = cond-true (p.number == a / 4096) _ _ (eq-eqb p.number (a / 4096) same)

-- and that of the later pages where it has not
pub later_page : (p : Page) (ps : List Page) (a : ℕ) → p.number ≢ a / 4096 → lock_among (p ∷ ps) a ≡ lock_among ps a
later_page p ps a differs = cond-false (p.number == a / 4096) _ _ (ne_eqb p.number (a / 4096) differs)

-- the lock of an address is that of the page with its number
pub found : (low i : ℕ) (ps : List Page) (d e : Page) (a : ℕ) → Ascending low ps → i < length ps → (get_or ps i d).number ≡ a / 4096
    → lock_among ps a ≡ lock_in (get_or ps i e) (a % 4096)
found low i [] d e a up within same = absurd (omega arith)
found low zero (p ∷ ps) d e a up within same = first_page p ps a same
found low (suc i) (p ∷ ps) d e a up within same =
    let above = low_first (p.number + 1) i ps d up.1 (omega arith) in
    later_page p ps a (λ q. omega arith) ∙ found (p.number + 1) i ps d e a up.1 (omega arith) same

-- an address below all pages is free
pub none_below : (low : ℕ) (ps : List Page) (a : ℕ) → Ascending low ps → a / 4096 < low → lock_among ps a ≡ Free
none_below low [] a up less = refl
none_below low (p ∷ ps) a up less =
    let least = up.0 in
    later_page p ps a (λ e. omega arith) ∙ none_below (p.number + 1) ps a up.1 (omega arith)

-- a first number that is lower is counted, and then the rest
pub count_first : (p : Page) (ps : List Page) (n : ℕ) → p.number < n → count_lower (p ∷ ps) n ≡ suc (count_lower ps n)
count_first p ps n less = cond-true _ _ _ (lt-ltb p.number n less)

-- where the first number isn't lower, none is counted
pub count_none : (p : Page) (ps : List Page) (n : ℕ) → n ≤ p.number → count_lower (p ∷ ps) n ≡ 0
count_none p ps n more = cond-false _ _ _ (le-ltb p.number n more)

-- a number that is missing among pages and above the first is missing among the rest
pub missing_rest : (p : Page) (ps : List Page) (n i : ℕ) → p.number < n → IsMissing (p ∷ ps) n i → IsMissing ps n (count_lower ps n)
missing_rest p ps n i less missing =
    let next : i ≡ suc (count_lower ps n) = missing.0 ∙ count_first p ps n less in
    (refl, λ d within same. missing.1 d (omega arith) (ap (λ k. (get_or (p ∷ ps) k d).number) next ∙ same))

-- a number that is missing and not above the first is below it
pub missing_first : (p : Page) (ps : List Page) (n i : ℕ) → n ≤ p.number → IsMissing (p ∷ ps) n i → n < p.number
missing_first p ps n i more missing =
    let none : i ≡ 0 = missing.0 ∙ count_none p ps n more in
    let differs : p.number ≢ n = λ same. missing.1 p (omega arith) (ap (λ k. (get_or (p ∷ ps) k p).number) none ∙ same) in
    omega arith

-- an address whose page is missing is free
pub not_found : (low : ℕ) (ps : List Page) (a i : ℕ) → Ascending low ps → IsMissing ps (a / 4096) i → lock_among ps a ≡ Free
not_found low [] a i up missing = refl
not_found low (p ∷ ps) a i up missing = elim (cases_lt p.number (a / 4096)) [
  | inl less ↦
      later_page p ps a (λ same. omega arith)
      ∙ not_found (p.number + 1) ps a (count_lower ps (a / 4096)) up.1 (missing_rest p ps (a / 4096) i less missing)
  | inr more ↦
      let above = missing_first p ps (a / 4096) i more missing in
      later_page p ps a (λ same. omega arith) ∙ none_below (p.number + 1) ps a up.1 (omega arith)
]
