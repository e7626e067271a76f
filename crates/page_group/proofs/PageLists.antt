-- How the list of pages grows.
use Rattle.std.proofs.Common.{◌≡◌, ℕ, zero, suc, ◌+◌, ◌-◌, ◌*◌, ◌/◌, ◌<◌, ◌≤◌, ◌⊎◌, inl, inr, Bool, true, List, [], ◌∷◌, ◌++◌, length, get_or, take, refl, sym, ap, subst, ◌∙◌, arith, add-one}
use Rattle.std.specs.Prelude.{Contains, ◌↔◌, ◌||◌, nat_le, nat_lt, eqb, slice_index}
use Rattle.std.specs.List.{dedup, list_any}
use Rattle.std.specs.List.Sorted.{IsPermutation, IsSorted, IsStrictlyIncreasing}
use Rattle.std.specs.Ordering.{nat_cmp}
use Rattle.std.proofs.lemmas.Bool.{cases_lt, leb-true, ltb-true, le-leb, lt-ltb, and_parts, or_cases, or_right}
use Rattle.std.proofs.lemmas.List.Folds.{list_any-append}
use Rattle.std.proofs.lemmas.List.Kept.{Contains-dedup_nat, Contains-from_dedup}
use Rattle.std.proofs.lemmas.List.Sorted.{Contains-permutation, IsPermutation-sym}
use Rattle.std.proofs.lemmas.Map.Keys.{IsStrictlyIncreasing-dedup}
use Rattle.std.proofs.lemmas.List.{take_more, take_all, map-append}
use Rattle.std.proofs.lemmas.List.Elements.{Contains-append_left, Contains-push, Contains-push_cases, Contains-get_or}
use Rattle.pun_base.specs.declared.range.Range.{Range}
use Rattle.pun_base.specs.Ranges.{ends}
use Rattle.page_group.specs.Pages.{ends_of, holds, is_covered, MeetsPage, IsPageList}
use Rattle.page_group.specs.Finding.{Adds, EndBelow}

-- the page at an address is one of those with the numbers from a up to and without b
abbrev pub IsAmong : ℕ → ℕ → ℕ → Type 0
IsAmong a b page = (n : ℕ) × (a ≤ n) × (n < b) × (n * 4096 ≡ page)

-- the new list has the pages of the old one and those with these numbers
abbrev pub AddsAmong : ℕ → ℕ → List ℕ → List ℕ → Type 0
AddsAmong a b old new = (page : ℕ) → Contains new page ↔ (Contains old page ⊎ IsAmong a b page)

among_more : (a b page : ℕ) → IsAmong a b page → IsAmong a (b + 1) page
among_more a b page m = (m.0, m.1, omega (arith, m.2), m.3)

among_cases : (a b page : ℕ) → IsAmong a (b + 1) page → IsAmong a b page ⊎ (b * 4096 ≡ page)
among_cases a b page m = elim (cases_lt m.0 b) [
  | inl l ↦ inl (m.0, m.1, l, m.3)
  | inr l ↦ let e : m.0 ≡ b = omega (arith, m.2) in inr (rw (← e) m.3)
]

-- one number more adds its page
pub adds_more : (a b : ℕ) (old new : List ℕ) → a ≤ b → AddsAmong a b old new → AddsAmong a (b + 1) old (new ++ b * 4096 ∷ [])
adds_more a b old new l h page = (
  λ c. elim (Contains-push_cases new (b * 4096) page c) [
    | inl d ↦ elim ((h page).0 d) [ inl o ↦ inl o | inr m ↦ inr (among_more a b page m) ]
    | inr e ↦ inr (b, l, omega arith, e)
  ],
  λ c. elim c [
    | inl o ↦ Contains-append_left new (b * 4096 ∷ []) page ((h page).1 (inl o))
    | inr m ↦ elim (among_cases a b page m) [
      | inl d ↦ Contains-append_left new (b * 4096 ∷ []) page ((h page).1 (inr d))
      | inr e ↦ subst (λ (p : ℕ). Contains (new ++ b * 4096 ∷ []) p) e (Contains-push new (b * 4096))
    ]
  ],
)

-- a page that ends at or below the bound keeps all so
pub below_more : (bound b : ℕ) (new : List ℕ) → EndBelow bound new → b * 4096 + 4096 ≤ bound → EndBelow bound (new ++ b * 4096 ∷ [])
below_more bound b new h l page c = elim (Contains-push_cases new (b * 4096) page c) [
  | inl d ↦ h page d
  | inr e ↦ omega (arith, e, l)
]

covered_one : (lo hi x : ℕ) → lo ≤ x → x < hi → is_covered ((lo, hi) ∷ []) x ≡ true
covered_one lo hi x l m = rw (le-leb lo x l, lt-ltb x hi m) refl

within_one : (lo hi x : ℕ) → is_covered ((lo, hi) ∷ []) x ≡ true → (lo ≤ x) × (x < hi)
within_one lo hi x e =
    let f = and_parts (nat_le lo x) (nat_lt x hi) (grind (arith, e)) in
    (leb-true lo x f.0, ltb-true x hi f.1)

among_meets : (lo hi page : ℕ) → lo < hi → IsAmong (lo / 4096) ((hi - 1) / 4096 + 1) page → MeetsPage ((lo, hi) ∷ []) page
among_meets lo hi page l m =
    let n = m.0 in
    let a : lo / 4096 ≤ n = m.1 in
    let b : n < (hi - 1) / 4096 + 1 = m.2 in
    let e : n * 4096 ≡ page = m.3 in
    elim (cases_lt lo (n * 4096)) [
      | inl f ↦ (n * 4096, covered_one lo hi (n * 4096) (omega arith) (omega arith), omega arith)
      | inr f ↦ (lo, covered_one lo hi lo (omega arith) l, omega arith)
    ]

meets_among : (lo hi page : ℕ) → MeetsPage ((lo, hi) ∷ []) page → IsAmong (lo / 4096) ((hi - 1) / 4096 + 1) page
meets_among lo hi page m =
    let x = m.0 in
    let w = within_one lo hi x m.1 in
    let f : lo ≤ x = w.0 in
    let g : x < hi = w.1 in
    let e : x / 4096 * 4096 ≡ page = m.2 in
    (x / 4096, omega arith, omega arith, e)

-- the pages with the numbers from a piece's first byte to its last are those that meet it
pub adds_piece : (lo hi : ℕ) (old new : List ℕ) → lo < hi → AddsAmong (lo / 4096) ((hi - 1) / 4096 + 1) old new → Adds (lo, hi) old new
adds_piece lo hi old new l h page = (
  λ c. elim ((h page).0 c) [ inl o ↦ inl o | inr m ↦ inr (among_meets lo hi page l m) ],
  λ c. elim c [ inl o ↦ (h page).1 (inl o) | inr m ↦ (h page).1 (inr (meets_among lo hi page m)) ],
)

-- the pages of the list are those that meet a piece
abbrev pub Exact : List (ℕ × ℕ) → List ℕ → Type 0
Exact pieces pages = (page : ℕ) → Contains pages page ↔ MeetsPage pieces page

meets_cases : (ps : List (ℕ × ℕ)) (p : ℕ × ℕ) (page : ℕ) → MeetsPage (ps ++ p ∷ []) page → MeetsPage ps page ⊎ MeetsPage (p ∷ []) page
meets_cases ps p page m =
    let x = m.0 in
    let f : (is_covered ps x || is_covered (p ∷ []) x) ≡ true = rw (← list_any-append (holds x) ps (p ∷ [])) m.1 in
    elim (or_cases (is_covered ps x) (is_covered (p ∷ []) x) f) [ inl a ↦ inl (x, a, m.2) | inr b ↦ inr (x, b, m.2) ]

meets_joined : (ps : List (ℕ × ℕ)) (p : ℕ × ℕ) (page : ℕ) → MeetsPage ps page ⊎ MeetsPage (p ∷ []) page → MeetsPage (ps ++ p ∷ []) page
meets_joined ps p page c = elim c [
  | inl m ↦ (m.0, rw (list_any-append (holds m.0) ps (p ∷ []), m.1) refl, m.2)
  | inr m ↦ (m.0, rw (list_any-append (holds m.0) ps (p ∷ [])) (or_right (is_covered ps m.0) (is_covered (p ∷ []) m.0) m.1), m.2)
]

-- with one piece more the pages that meet it are found too
pub exact_more : (ps : List (ℕ × ℕ)) (p : ℕ × ℕ) (old new : List ℕ) → Exact ps old → Adds p old new → Exact (ps ++ p ∷ []) new
exact_more ps p old new h a page = (
  λ c. elim ((a page).0 c) [
    | inl o ↦ meets_joined ps p page (inl ((h page).0 o))
    | inr m ↦ meets_joined ps p page (inr m)
  ],
  λ m. elim (meets_cases ps p page m) [
    | inl o ↦ (a page).1 (inl ((h page).1 o))
    | inr n ↦ (a page).1 (inr n)
  ],
)

-- what was found, sorted and without repeats, is the list of the pages that meet a piece
pub page_list : (pieces : List (ℕ × ℕ)) (found sorted pages : List ℕ) → Exact pieces found → IsPermutation found sorted → IsSorted nat_cmp sorted → pages ≡ dedup eqb sorted → IsPageList pieces pages
page_list pieces found sorted pages h p s e = subst (λ (l : List ℕ). IsPageList pieces l) (sym e) (record {
  ascending = IsStrictlyIncreasing-dedup sorted s;
  exact = λ page. (
    λ c. (h page).0 (Contains-permutation sorted found page (IsPermutation-sym found sorted p) (Contains-from_dedup eqb sorted page c)),
    λ m. Contains-dedup_nat sorted page (Contains-permutation found sorted page p ((h page).1 m)),
  );
})

at_least : (pages : List ℕ) → IsStrictlyIncreasing pages → (k : ℕ) → k < length pages → k ≤ slice_index pages k
at_least pages s zero l = omega arith
at_least pages s (suc k) l =
    let before = at_least pages s k (omega arith) in
    let rises : slice_index pages k < slice_index pages (k + 1) = s k (omega arith) in
    rw (← add-one k) (omega arith)

-- ascending pages that end at or below a bound are fewer than it
pub pages_fit : (bound : ℕ) (pages : List ℕ) → IsStrictlyIncreasing pages → EndBelow bound pages → 4096 ≤ bound → length pages < bound
pages_fit bound pages s h l = elim (cases_lt 0 (length pages)) [
  | inl some ↦
      let k = length pages - 1 in
      let last = at_least pages s k (omega arith) in
      omega (arith, last, h (slice_index pages k) (Contains-get_or pages k 0 (omega arith)))
  | inr none ↦ omega arith
]

-- sorted and without repeats, the pages still end at or below the bound
pub below_kept : (bound : ℕ) (found sorted pages : List ℕ) → EndBelow bound found → IsPermutation found sorted → pages ≡ dedup eqb sorted → EndBelow bound pages
below_kept bound found sorted pages h p e = subst (λ (l : List ℕ). EndBelow bound l) (sym e)
    (λ page c. h page (Contains-permutation sorted found page (IsPermutation-sym found sorted p) (Contains-from_dedup eqb sorted page c)))

-- so with the next piece of a list
pub found_more : (pieces : List Range) (i : ℕ) (piece : Range) (old new : List ℕ) → i < length pieces → piece ≡ get_or pieces i piece → Exact (ends_of (take i pieces)) old → Adds (ends piece) old new → Exact (ends_of (take (i + 1) pieces)) new
found_more pieces i piece old new l e h a =
    let front = take i pieces in
    let split : take (i + 1) pieces ≡ front ++ piece ∷ [] = take_more pieces i piece l ∙ ap (λ (p : Range). front ++ p ∷ []) (sym e) in
    let mapped : ends_of (take (i + 1) pieces) ≡ ends_of front ++ ends piece ∷ [] = ap (λ (ps : List Range). ends_of ps) split ∙ map-append ends front (piece ∷ []) in
    subst (λ (ps : List (ℕ × ℕ)). Exact ps new) (sym mapped) (exact_more (ends_of front) (ends piece) old new h a)

-- after the last piece all pages that meet one are found
pub exact_all : (pieces : List Range) (i : ℕ) (found : List ℕ) → length pieces ≤ i → Exact (ends_of (take i pieces)) found → Exact (ends_of pieces) found
exact_all pieces i found l h = subst (λ (ps : List Range). Exact (ends_of ps) found) (take_all i pieces l) h

-- a byte is covered by the pieces' ends exactly where it is one of a piece
pub covered-ends : (x : ℕ) (pieces : List Range) → is_covered (ends_of pieces) x ≡ list_any (λ range. holds x (ends range)) pieces
covered-ends x [] = refl
covered-ends x (p ∷ ps) = ap (λ (b : Bool). holds x (ends p) || b) (covered-ends x ps)
