-- What holds of entries before they are marked holds of them when they are.
use Rattle.std.proofs.Common.{◌≡◌, ℕ, zero, suc, ◌<◌, List, [], ◌∷◌, length, get_or, map, refl, ap, ◌∙◌, arith}
use Rattle.std.specs.Prelude.{Contains}
use Rattle.std.specs.List.{AllByRecursion}
use Rattle.std.proofs.lemmas.List.{get_or-map, length-map}
use Rattle.start_entries.specs.declared.entry.StartEntry.{StartEntry}
use Rattle.start_entries.specs.SharedBytes.{marked}
use Rattle.start_entries.specs.Finding.{addresses}

-- of all
pub all_marked : (P : StartEntry → Type 0) (ps es : List StartEntry) → ((e : StartEntry) → P e → P (marked ps e)) → AllByRecursion P es
    → AllByRecursion P (map (marked ps) es)
all_marked P ps [] f h = tt
all_marked P ps (e ∷ es) f h = (f e h.0, all_marked P ps es f h.1)

-- marks move no entry
pub marked_addresses : (ps es : List StartEntry) → addresses (map (marked ps) es) ≡ addresses es
marked_addresses ps [] = refl
marked_addresses ps (e ∷ es) = ap (λ z. e.addr ∷ z) (marked_addresses ps es)

-- a marked entry, and the one that it was
pub was_marked : (ps es : List StartEntry) (y : StartEntry) → Contains (map (marked ps) es) y
    → (e : StartEntry) × Contains es e × (marked ps e ≡ y)
was_marked ps es y (i, l, p) = at es i l p
  where
    at : (xs : List StartEntry) (k : ℕ) → k < length (map (marked ps) xs) → get_or (map (marked ps) xs) k y ≡ y
        → (e : StartEntry) × Contains xs e × (marked ps e ≡ y)
    at [] k l p = absurd (omega (arith, l))
    at (x ∷ xs) zero l p = (x, (0, omega arith, refl), p)
    at (x ∷ xs) (suc k) l p = let q = at xs k (omega (arith, l)) p in (q.0, (suc q.1.0, omega (arith, q.1.1), q.1.2), q.2)

-- where a list contains an entry, the marked list contains the marked entry
pub is_marked : (ps es : List StartEntry) (e : StartEntry) → Contains es e → Contains (map (marked ps) es) (marked ps e)
is_marked ps es e (i, l, p) = (
  i,
  omega (arith, l, length-map es (marked ps)),
  get_or-map (marked ps) es i e (marked ps e) l ∙ ap (marked ps) p,
)
