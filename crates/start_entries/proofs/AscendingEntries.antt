-- Numbers that ascend, and entries whose addresses do.
use Rattle.std.proofs.Common.{◌≡◌, inl, inr, ℕ, suc, ◌+◌, ◌<◌, List, ◌∷◌, length, get_or, sym, ap, ◌∙◌, arith}
use Rattle.std.specs.Prelude.{Contains}
use Rattle.std.specs.List.{AllByRecursion}
use Rattle.std.specs.List.Sorted.{IsStrictlyIncreasing}
use Rattle.std.proofs.lemmas.List.{get_or-map, length-map, get_or_default}
use Rattle.std.proofs.lemmas.Bool.{cases_eq, cases_lt}
use Rattle.std.proofs.lemmas.List.Kept.{AllPairs-from_increasing}
use Rattle.std.proofs.lemmas.List.Elements.{recursion_from_All}
use Rattle.start_entries.specs.declared.entry.StartEntry.{StartEntry}
use Rattle.start_entries.specs.Finding.{addresses}

-- of numbers that ascend the later ones ascend
pub increasing_rest : (a : ℕ) (xs : List ℕ) → IsStrictlyIncreasing (a ∷ xs) → IsStrictlyIncreasing xs
increasing_rest a xs h k l = AllPairs-from_increasing (a ∷ xs) h (suc k) (suc (k + 1)) 0 (omega arith) (omega arith)

-- of numbers that ascend the first is below each later one
pub first_below : (a : ℕ) (xs : List ℕ) → IsStrictlyIncreasing (a ∷ xs) → AllByRecursion (λ b. a < b) xs
first_below a xs h = recursion_from_All (λ b. a < b) xs (λ k d l. AllPairs-from_increasing (a ∷ xs) h 0 (suc k) d (omega arith) (omega arith))

-- entries, by their addresses
pub entries_rise : (es : List StartEntry) → IsStrictlyIncreasing (addresses es) → (i j : ℕ) (d : StartEntry) → i < j → j < length es → (get_or es i d).addr < (get_or es j d).addr
entries_rise es h i j d l m =
    let p = AllPairs-from_increasing (addresses es) h i j 0 l (omega (arith, length-map es (λ (e : StartEntry). e.addr))) in
    let x = get_or-map (λ (e : StartEntry). e.addr) es i d 0 (omega arith) in
    let y = get_or-map (λ (e : StartEntry). e.addr) es j d 0 m in
    omega (arith, p, x, y)

-- entries at one address are one
pub same_entry : (es : List StartEntry) (e f : StartEntry) → IsStrictlyIncreasing (addresses es) → Contains es e → Contains es f
    → e.addr ≡ f.addr → e ≡ f
same_entry es e f s c d h =
    let differ : (i j : ℕ) (a b : StartEntry) → i < j → j < length es → get_or es i a ≡ a → get_or es j b ≡ b → a.addr ≡ b.addr → ⊥ =
    λ i j a b l m p q g. let r = entries_rise es s i j a l m in
    omega (arith, r, g, ap (λ (z : StartEntry). z.addr) p, ap (λ (z : StartEntry). z.addr) (get_or_default es j a b m ∙ q)) in
    elim (cases_eq c.0 d.0) [
      | inl k ↦ sym c.2 ∙ ap (λ (n : ℕ). get_or es n e) k ∙ get_or_default es d.0 e f d.1 ∙ d.2
      | inr n ↦ elim (cases_lt c.0 d.0) [
        | inl k ↦ absurd (differ c.0 d.0 e f k d.1 c.2 d.2 h)
        | inr k ↦ absurd (differ d.0 c.0 f e (omega (arith, n, k)) c.1 d.2 c.2 (sym h))
      ]
    ]
