-- Addresses that are free beside lists of ranges.
use Rattle.std.proofs.Common.{ℕ, ◌≤◌, List, [], ◌∷◌, ◌++◌}
use Rattle.std.specs.Prelude.{◌↔◌}
use Rattle.std.proofs.lemmas.List.Elements.{All-cons, All-head, All-tail}
use Rattle.address_space.specs.declared.extent.Extent.{Extent}
use Rattle.address_space.specs.Free.{Misses, IsFree}
use Rattle.site_turns.specs.Turned.{HasSameFree}

-- what is free beside ranges and misses one more is free beside all of them
pub free_cons : (e : Extent) (ts : List Extent) (p n : ℕ) → IsFree ts p n → Misses p n e → IsFree (e ∷ ts) p n
free_cons e ts p n f m = record { above = f.above; below = f.below; misses = All-cons (Misses p n) e ts m f.misses }

-- what is free beside ranges is free beside all but the first
pub free_tail : (e : Extent) (ts : List Extent) (p n : ℕ) → IsFree (e ∷ ts) p n → IsFree ts p n
free_tail e ts p n f = record { above = f.above; below = f.below; misses = All-tail (Misses p n) e ts f.misses }

-- what is free beside ranges misses the first of them
pub free_head : (e : Extent) (ts : List Extent) (p n : ℕ) → IsFree (e ∷ ts) p n → Misses p n e
free_head e ts p n f = All-head (Misses p n) e ts f.misses

-- where what is free beside one list is free beside another, it stays so with the same ranges before both
pub free_swap : (es ts us : List Extent) (p n : ℕ) → (IsFree ts p n → IsFree us p n) → IsFree (es ++ ts) p n → IsFree (es ++ us) p n
free_swap [] ts us p n g f = g f
free_swap (e ∷ es) ts us p n g f =
    free_cons e (es ++ us) p n (free_swap es ts us p n g (free_tail e (es ++ ts) p n f)) (free_head e (es ++ ts) p n f)

-- where two lists of ranges leave the same free, so they do after any others
pub same_behind : (es ts us : List Extent) → HasSameFree ts us → HasSameFree (es ++ ts) (es ++ us)
same_behind es ts us h p n s = (λ f. free_swap es ts us p n (h p n s).0 f, λ f. free_swap es us ts p n (h p n s).1 f)

-- a range may stand before others or after them
free_forward : (es ts : List Extent) (e : Extent) (p n : ℕ) → IsFree (es ++ e ∷ ts) p n → IsFree (e ∷ (es ++ ts)) p n
free_forward [] ts e p n f = f
free_forward (d ∷ es) ts e p n f =
    let k = free_forward es ts e p n (free_tail d (es ++ e ∷ ts) p n f) in
    free_cons e (d ∷ (es ++ ts)) p n (free_cons d (es ++ ts) p n (free_tail e (es ++ ts) p n k) (free_head d (es ++ e ∷ ts) p n f))
    (free_head e (es ++ ts) p n k)

-- which taken range comes first makes no difference to what is free
free_back : (es ts : List Extent) (e : Extent) (p n : ℕ) → IsFree (e ∷ (es ++ ts)) p n → IsFree (es ++ e ∷ ts) p n
free_back [] ts e p n f = f
free_back (d ∷ es) ts e p n f =
    let k = free_tail e (d ∷ (es ++ ts)) p n f in
    free_cons d (es ++ e ∷ ts) p n (free_back es ts e p n (free_cons e (es ++ ts) p n (free_tail d (es ++ ts) p n k) (free_head e (d ∷ (es
    ++ ts)) p n f)))
    (free_head d (es ++ ts) p n k)

-- a range leaves the same free, whether it stands among others or before them
pub same_moved : (es ts : List Extent) (e : Extent) → HasSameFree (es ++ e ∷ ts) (e ∷ (es ++ ts))
same_moved es ts e p n s = (free_forward es ts e p n, free_back es ts e p n)

-- that two lists of ranges leave the same free is transitive
pub same_trans : (ts us vs : List Extent) → HasSameFree ts us → HasSameFree us vs → HasSameFree ts vs
same_trans ts us vs h k p n s = (λ f. (k p n s).0 ((h p n s).0 f), λ f. (h p n s).1 ((k p n s).1 f))

-- that two lists of ranges leave the same free is symmetric
pub same_sym : (ts us : List Extent) → HasSameFree ts us → HasSameFree us ts
same_sym ts us h p n s = ((h p n s).1, (h p n s).0)

-- that two lists of ranges leave the same free is reflexive
pub same_refl : (ts : List Extent) → HasSameFree ts ts
same_refl ts p n s = (λ f. f, λ f. f)

-- once a range is taken, what is free is what is free beside it and beside what was taken before
pub taken_same : (e : Extent) (old new : List Extent)
    → ((p n : ℕ) → 1 ≤ n → IsFree new p n ↔ (IsFree old p n × Misses p n e)) → HasSameFree (e ∷ old) new
taken_same e old new h p n s =
    (λ f. (h p n s).1 (free_tail e old p n f, free_head e old p n f), λ f. let k = (h p n s).0 f in free_cons e old p n k.0 k.1)
