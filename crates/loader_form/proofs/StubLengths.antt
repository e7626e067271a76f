-- How long a stub is, and its bytes in memory.
use Rattle.std.proofs.Common.{◌≡◌, ◌⊎◌, inl, inr, ℕ, suc, ◌+◌, ◌*◌, ◌-◌, ◌<◌, ◌≤◌, Bool, true, false, nat_lt, List, [], ◌∷◌, ◌++◌, length, length-append, replicate, refl, ◌∙◌, subst, arith}
use Rattle.std.proofs.lemmas.Bool.{ltb-true, ltb-false}
use Rattle.std.proofs.lemmas.List.{length-replicate}
use Rattle.pun_base.specs.Memory.{Bytes}
use Rattle.loader_form.specs.Stub.{Run, Stub, path, record_of, records_of, stub_code}
use Rattle.loader_form.specs.Laid.{stub_bytes}
use Rattle.loader_form.specs.Starting.{IsLoaded}

-- an address lies in a range, or below or above it
pub side : (lo hi x : ℕ) → ((lo ≤ x) × (x < hi)) ⊎ ((x < lo) ⊎ (hi ≤ x))
side lo hi x = first (nat_lt x lo) refl
  where
    second : (t : Bool) → nat_lt x hi ≡ t → (lo ≤ x) → ((lo ≤ x) × (x < hi)) ⊎ ((x < lo) ⊎ (hi ≤ x))
    second true e l = inl (l, ltb-true x hi e)
    second false e l = inr (inr (let q = ltb-false x hi e in omega (arith, q)))

    first : (t : Bool) → nat_lt x lo ≡ t → ((lo ≤ x) × (x < hi)) ⊎ ((x < lo) ⊎ (hi ≤ x))
    first true e = inr (inl (ltb-true x lo e))
    first false e = second (nat_lt x hi) refl (let q = ltb-false x lo e in omega (arith, q))

-- a record has 16 bytes
record_length : (r : Run) → length (record_of r) ≡ 16
record_length r = refl

-- each record has 16 bytes
pub records_length : (rs : List Run) → length (records_of rs) ≡ 16 * length rs
records_length [] = refl
records_length (r ∷ rs) = length-append (record_of r) (records_of rs) ∙ (let q = records_length rs in let p = record_length r in omega (arith, p, q))

-- the stub has 4,096 bytes of code, 16 of the path and 16 for each run
pub stub_length : (b : Stub) → length (stub_bytes b) ≡ 4112 + 16 * length b.runs
stub_length b =
    let gap : List ℕ = replicate (4096 - 276) 0 in
    let n = length-replicate {A = ℕ} (4096 - 276) 0 in
    let r = records_length b.runs in
    let e = length-append path (records_of b.runs) in
    let f = length-append gap (path ++ records_of b.runs) in
    length-append (stub_code b) (gap ++ (path ++ records_of b.runs)) ∙ omega (arith, n, r, e, f)

-- bytes of two lists
pub loaded_front : (m : Bytes) (a : ℕ) (xs ys : List ℕ) → IsLoaded m a (xs ++ ys) → IsLoaded m a xs
loaded_front m a [] ys h = tt
loaded_front m a (x ∷ xs) ys h = (h.0, loaded_front m (a + 1) xs ys h.1)

-- the second of two lists that are loaded one after the other is loaded after the first
pub loaded_back : (m : Bytes) (a : ℕ) (xs ys : List ℕ) → IsLoaded m a (xs ++ ys) → IsLoaded m (a + length xs) ys
loaded_back m a [] ys h = let e : a ≡ a + 0 = omega arith in subst (λ (z : ℕ). IsLoaded m z ys) e h
loaded_back m a (x ∷ xs) ys h =
    let e : a + 1 + length xs ≡ a + suc (length xs) = omega arith in
    subst (λ (z : ℕ). IsLoaded m z ys) e (loaded_back m (a + 1) xs ys h.1)
