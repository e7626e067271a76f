-- Ascending spans that are cut where they meet keep all their addresses.
use Rattle.std.proofs.Common.{◌≡◌, inl, inr, ℕ, ◌+◌, ◌<◌, ◌≤◌, true, List, [], ◌∷◌, ◌++◌, length, get_or, take, Some, sym, ap, ◌∙◌, subst, arith}
use Rattle.std.specs.Prelude.{nat_le}
use Rattle.std.specs.List.Sorted.{IsNonDecreasingBy, IsPermutation}
use Rattle.std.proofs.lemmas.Bool.{cases_lt, and_parts, and_from, or_cases, leb-true, le-leb}
use Rattle.std.proofs.lemmas.List.{get_or_default}
use Rattle.std.proofs.lemmas.List.Folds.{list_any_more}
use Rattle.image_check.specs.declared.span.Span.{Span}
use Rattle.image_check.specs.Parts.{in_span, in_spans, HaveAll, IsCut}
use Rattle.image_check.proofs.NearCounts.{any_moved}
use Rattle.image_check.proofs.SharedPages.{any_before, any_behind, any_here}

-- the first spans begin at or below an address
abbrev BeginBelow : List Span → ℕ → ℕ → Type 0
BeginBelow ss i x = (k : ℕ) (d : Span) → k < i → (get_or ss k d).first ≤ x

-- the parts have each address of the first i spans, and each below the next one that is to be looked at, from where all of them have begun
pub record AreCut (ss : List Span) (i next : ℕ) (parts : List Span) : Type 0 where
  pub kept : (x : ℕ) → in_spans (take i ss) x ≡ true → in_spans parts x ≡ true
  pub passed : (x : ℕ) → BeginBelow ss i x → x < next → in_spans parts x ≡ true

-- an address in a span lies between its first and its last
span_parts : (x : ℕ) (s : Span) → in_span x s ≡ true → (s.first ≤ x) × (x ≤ s.last)
span_parts x s h = let p = and_parts (nat_le s.first x) _ h in (leb-true s.first x p.0, leb-true x s.last p.1)

-- an address between the first and the last of a span is in it
span_from : (x : ℕ) (s : Span) → s.first ≤ x → x ≤ s.last → in_span x s ≡ true
span_from x s l m = and_from (nat_le s.first x) _ (le-leb s.first x l) (le-leb x s.last m)

-- where the parts have the addresses of some first spans, and of one more, they have those of all of these
more_kept : (ss : List Span) (i : ℕ) (d : Span) (parts : List Span) → i < length ss
    → ((x : ℕ) → in_spans (take i ss) x ≡ true → in_spans parts x ≡ true)
    → ((x : ℕ) → in_span x (get_or ss i d) ≡ true → in_spans parts x ≡ true)
    → (x : ℕ) → in_spans (take (i + 1) ss) x ≡ true → in_spans parts x ≡ true
more_kept ss i d parts l a b x h =
    elim (or_cases (in_spans (take i ss) x) (in_span x (get_or ss i d)) (sym (list_any_more (in_span x) ss i d l) ∙ h))
    [ inl k ↦ a x k | inr k ↦ b x k ]

-- where a span begins, all before it have begun
begun : (ss : List Span) (i : ℕ) (d : Span) (x : ℕ) → IsNonDecreasingBy (λ (s : Span). s.first) ss → i < length ss
    → (get_or ss i d).first ≤ x → BeginBelow ss i x
begun ss i d x r l b k e m =
    let a = r k i e (omega (arith, m)) l in
    let q : (get_or ss i e).first ≡ (get_or ss i d).first = ap (λ (s : Span). s.first) (get_or_default ss i e d l) in
    omega (arith, a, b, q)

-- a span that is looked at already is cut with no part more
pub cut_past : (ss : List Span) (i next : ℕ) (parts : List Span) (d s : Span) → IsNonDecreasingBy (λ (s : Span). s.first) ss → i < length ss
    → s ≡ get_or ss i d → s.last < next → AreCut ss i next parts → AreCut ss (i + 1) next parts
cut_past ss i next parts d s r l e m a = record {
  kept = more_kept ss i d parts l a.kept (λ x h.
      let p = span_parts x (get_or ss i d) h in
      let q : s.last ≡ (get_or ss i d).last = ap (λ (z : Span). z.last) e in
      a.passed x (begun ss i d x r l p.0) (omega (arith, p.1, q, m)));
  passed = λ x b n. a.passed x (λ k f j. b k f (omega (arith, j))) n;
}

-- a span of which a part is left is cut with that part more
pub cut_more : (ss : List Span) (i next : ℕ) (parts more : List Span) (d s part : Span) (after : ℕ)
    → IsNonDecreasingBy (λ (s : Span). s.first) ss
    → i < length ss → s ≡ get_or ss i d → IsCut s next (Some part) → more ≡ parts ++ part ∷ [] → after ≤ part.last + 1
    → AreCut ss i next parts → AreCut ss (i + 1) after more
cut_more ss i next parts more d s part after r l e m g u a =
    let first : s.first ≡ (get_or ss i d).first = ap (λ (z : Span). z.first) e in
    let last : s.last ≡ (get_or ss i d).last = ap (λ (z : Span). z.last) e in
    let P : List Span → Type 0 = λ z. AreCut ss (i + 1) after z in
    let here : (x : ℕ) → (get_or ss i d).first ≤ x → x ≤ (get_or ss i d).last → in_spans (parts ++ part ∷ []) x ≡ true = λ x b n.
    elim (cases_lt x next) [
      | inl k ↦ any_before (in_span x) parts (part ∷ []) (a.passed x (begun ss i d x r l b) k)
      | inr k ↦ any_behind (in_span x) parts (part ∷ []) (any_here (in_span x) part [] (span_from x part (let f = m.1 in omega
          (arith, f, first, b, k)) (let f = m.2 in omega (arith, f, last, n))))
    ] in
    subst P (sym g) (record {
      kept = more_kept ss i d (parts ++ part ∷ []) l (λ x h. any_before (in_span x) parts (part ∷ []) (a.kept x h)) (λ x h.
          let p = span_parts x (get_or ss i d) h in here x p.0 p.1);
      passed = λ x b n. here x (b i d (omega arith)) (let f = m.2 in omega (arith, f, last, n, u));
    })

-- spans in another order have the same addresses
pub moved_all : (ss sorted parts : List Span) → IsPermutation ss sorted → HaveAll parts sorted → HaveAll parts ss
moved_all ss sorted parts m h x e = h x (any_moved (in_span x) ss sorted m ∙ e)
