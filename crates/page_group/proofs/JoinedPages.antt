-- Pages join groups one by one.
use Rattle.std.proofs.Common.{◌≡◌, ℕ, zero, suc, ◌+◌, ◌≤◌, ◌<◌, max, inl, inr, Bool, true, ◌&&◌, ◌==◌, nat_lt, List, [], ◌∷◌, ◌++◌, length, get_or, take, refl, sym, ap, ◌∙◌, subst, arith}
use Rattle.std.specs.Prelude.{◌↔◌}
use Rattle.std.specs.Ordering.{ord_max, nat_cmp}
use Rattle.std.proofs.lemmas.Bool.{cases_lt, eq-eqb, eqb-true, lt-ltb, ltb-true, and_parts, or_cases, or_left, or_right, and_from}
use Rattle.std.proofs.lemmas.Bool.Decides.{nat_tests}
use Rattle.std.proofs.lemmas.List.{length_push, get_or_append_left, get_or_push, get_or_default, take_more}
use Rattle.page_group.specs.declared.offsets.Offsets.{Offsets}
use Rattle.page_group.specs.Pages.{is_occupied}
use Rattle.pun_base.specs.Least.{IsLeast}
use Rattle.page_group.specs.Occupancy.{has, ShareOffset}
use Rattle.page_group.specs.Joining.{IsOpenAt, IsAddedTo, IsStart, bound_of}

-- an offset shared with a set of a list is shared whatever stands past the list's end
pub share_at : (groups : List Offsets) (i : ℕ) (d e offsets : Offsets) → i < length groups
    → ShareOffset (get_or groups i d) offsets → ShareOffset (get_or groups i e) offsets
share_at groups i d e offsets l m = subst (λ (o : Offsets). ShareOffset o offsets) (get_or_default groups i d e l) m

-- an offset is occupied in a page of a group
abbrev pub IsIn : List (ℕ × ℕ) → List ℕ → List ℕ → ℕ → ℕ → Type 0
IsIn pieces pages joined group k =
    (place : ℕ) × (place < length joined) × (get_or joined place 0 ≡ group) × (is_occupied pieces (get_or pages place 0) k ≡ true)

-- the first pages have joined their groups, whose offsets are those of their pages
pub record Joining (pieces : List (ℕ × ℕ)) (pages joined : List ℕ) (groups : List Offsets) : Type 0 where
  pub first : (place : ℕ) → place < length joined → IsLeast (IsOpenAt pieces pages joined place) (get_or joined place 0)
  pub below : (place : ℕ) → place < length joined → get_or joined place 0 < length groups
  pub few : length groups ≤ length joined
  pub union : (group k : ℕ) (d : Offsets) → group < length groups
      → (has (get_or groups group d) k ≡ true) ↔ IsIn pieces pages joined group k

-- a group that is open to a page is so when a page behind it has joined
open_more : (pieces : List (ℕ × ℕ)) (pages joined : List ℕ) (last place group : ℕ) → place ≤ length joined
    → IsOpenAt pieces pages joined place group → IsOpenAt pieces pages (joined ++ last ∷ []) place group
open_more pieces pages joined last place group l o before m e =
    o before m (sym (get_or_append_left joined (last ∷ []) 0 before (omega arith)) ∙ e)

-- and was so before
open_less : (pieces : List (ℕ × ℕ)) (pages joined : List ℕ) (last place group : ℕ) → place ≤ length joined
    → IsOpenAt pieces pages (joined ++ last ∷ []) place group → IsOpenAt pieces pages joined place group
open_less pieces pages joined last place group l o before m e =
    o before m (get_or_append_left joined (last ∷ []) 0 before (omega arith) ∙ e)

-- the offsets of the next page
abbrev pub IsNext : List (ℕ × ℕ) → ℕ → Offsets → Type 0
IsNext pieces page offsets = (k : ℕ) → has offsets k ≡ is_occupied pieces page k

-- the first group that has none of a page's offsets
pub record IsFirst (groups : List Offsets) (offsets : Offsets) (group : ℕ) : Type 0 where
  pub within : group ≤ length groups
  pub none : (d : Offsets) → group < length groups → ShareOffset (get_or groups group d) offsets → ⊥
  pub met : (other : ℕ) (d : Offsets) → other < group → ShareOffset (get_or groups other d) offsets

-- the next page's group is the first that is open to it
next_first : (pieces : List (ℕ × ℕ)) (pages joined : List ℕ) (groups : List Offsets) (offsets : Offsets) (group : ℕ)
    → Joining pieces pages joined groups → IsNext pieces (get_or pages (length joined) 0) offsets → IsFirst groups offsets group
    → IsLeast (IsOpenAt pieces pages joined (length joined)) group
next_first pieces pages joined groups offsets group h next f = record {
  good = λ before l e m.
      let low : group < length groups = subst (λ (g : ℕ). g < length groups) e (h.below before l) in
      let blank : Offsets = record { words = [] } in
      let held = (h.union group m.0 blank low).1 (before, l, e, m.1) in
      f.none blank low (m.0, held, next m.0 ∙ m.2);
  least = λ other o. elim (cases_lt other group) [
    | inr l ↦ l
    | inl l ↦ (
        let blank : Offsets = record { words = [] } in
        let m = f.met other blank l in
        let within = f.within in
        let low : other < length groups = omega arith in
        let at = (h.union other m.0 blank low).0 m.1 in
        absurd (o at.0 at.1 at.2 (m.0, at.3, sym (next m.0) ∙ m.2))
        )
  ];
}

-- the offsets of a group and of what a page adds to it
union_next : (pieces : List (ℕ × ℕ)) (pages joined : List ℕ) (groups new : List Offsets) (offsets : Offsets) (group : ℕ)
    → Joining pieces pages joined groups → IsNext pieces (get_or pages (length joined) 0) offsets → IsAddedTo group offsets groups new
    → (other k : ℕ) (d : Offsets) → other < length new
    → (has (get_or new other d) k ≡ true) ↔ IsIn pieces pages (joined ++ group ∷ []) other k
union_next pieces pages joined groups new offsets group h next a other k d l =
    let more = length_push joined group in
    let kept = λ (place : ℕ) (m : place < length joined). get_or_append_left joined (group ∷ []) 0 place m in
    let last = get_or_push joined group 0 (length joined) refl in
    let was : Bool = nat_lt other (length groups) && has (get_or groups other d) k in
    let adds : Bool = other == group && has offsets k in (
      λ t. elim (or_cases was adds (sym (a.added other k d l) ∙ t)) [
        | inl w ↦ (
            let both = and_parts (nat_lt other (length groups)) (has (get_or groups other d) k) w in
            let low = ltb-true other (length groups) both.0 in
            let at = (h.union other k d low).0 both.1 in
            let within = at.1 in
            (at.0, omega arith, kept at.0 within ∙ at.2, at.3)
            )
        | inr w ↦ (
            let both = and_parts (other == group) (has offsets k) w in
            let same = eqb-true other group both.0 in
            (length joined, omega arith, last ∙ sym same, sym (next k) ∙ both.1)
            )
      ],
      λ at. a.added other k d l ∙ elim (cases_lt at.0 (length joined)) [
        | inl m ↦ (
            let is : get_or joined at.0 0 ≡ other = sym (kept at.0 m) ∙ at.2 in
            let low : other < length groups = subst (λ (g : ℕ). g < length groups) is (h.below at.0 m) in
            let held = (h.union other k d low).1 (at.0, m, is, at.3) in
            let here = and_from (nat_lt other (length groups)) (has (get_or groups other d) k) (lt-ltb other (length groups) low) held in
            or_left was adds here
            )
        | inr m ↦ (
            let within = at.1 in
            let here : at.0 ≡ length joined = omega arith in
            let is : other ≡ group = sym at.2 ∙ ap (λ (p : ℕ). get_or (joined ++ group ∷ []) p 0) here ∙ last in
            let held : has offsets k ≡ true = next k ∙ ap (λ (p : ℕ). is_occupied pieces (get_or pages p 0) k) (sym here) ∙ at.3 in
            or_right was adds (and_from (other == group) (has offsets k) (eq-eqb other group is) held)
            )
      ],
    )

-- the next page joins the first group that is open to it
pub joining_next : (pieces : List (ℕ × ℕ)) (pages joined : List ℕ) (groups new : List Offsets) (offsets : Offsets) (group : ℕ)
    → Joining pieces pages joined groups → IsNext pieces (get_or pages (length joined) 0) offsets → IsFirst groups offsets group
    → IsAddedTo group offsets groups new → Joining pieces pages (joined ++ group ∷ []) new
joining_next pieces pages joined groups new offsets group h next f a =
    let more = length_push joined group in
    let size = a.size in
    let within = f.within in
    let few = h.few in
    let kept = λ (place : ℕ) (m : place < length joined). get_or_append_left joined (group ∷ []) 0 place m in
    let last = get_or_push joined group 0 (length joined) refl in
    let opens = λ (place g : ℕ) (m : place ≤ length joined) (r : IsLeast (IsOpenAt pieces pages joined place) g).
    (let s : IsLeast (IsOpenAt pieces pages (joined ++ group ∷ []) place) g = record {
      good = open_more pieces pages joined group place g m r.good;
      least = λ n o. r.least n (open_less pieces pages joined group place n m o);
    } in s) in
    record {
      first = λ place l. elim (cases_lt place (length joined)) [
        | inl m ↦ subst (IsLeast (IsOpenAt pieces pages (joined ++ group ∷ []) place)) (sym (kept place m))
            (opens place (get_or joined place 0) (omega arith) (h.first place m))
        | inr m ↦ (
            let here : length joined ≡ place = omega arith in
            subst (λ (p : ℕ). IsLeast (IsOpenAt pieces pages (joined ++ group ∷ []) p) (get_or (joined ++ group ∷ []) p 0)) here
            (subst (IsLeast (IsOpenAt pieces pages (joined ++ group ∷ []) (length joined))) (sym last)
            (opens (length joined) group (omega arith) (next_first pieces pages joined groups offsets group h next f)))
            )
      ];
      below = λ place l. elim (cases_lt place (length joined)) [
        | inl m ↦ (let b = h.below place m in let k = kept place m in omega (arith, b, k, size))
        | inr m ↦ (
            let here : place ≡ length joined = omega arith in
            let is : get_or (joined ++ group ∷ []) place 0 ≡ group = ap (λ (p : ℕ). get_or (joined ++ group ∷ []) p 0) here ∙ last in
            omega (arith, is, size)
            )
      ];
      few = omega arith;
      union = union_next pieces pages joined groups new offsets group h next a;
    }

-- before a page has joined there is no group
pub joining_none : (pieces : List (ℕ × ℕ)) (pages joined : List ℕ) (groups : List Offsets) → length joined ≡ 0 → length groups ≡ 0
    → Joining pieces pages joined groups
joining_none pieces pages joined groups j g = record {
  first = λ place l. absurd (omega arith);
  below = λ place l. absurd (omega arith);
  few = omega arith;
  union = λ group k d l. absurd (omega arith);
}

-- each group below a page's own has an offset of the page
abbrev pub AreMet : List Offsets → List ℕ → List Offsets → Type 0
AreMet sets joined groups =
    (place group : ℕ) (d e : Offsets) → place < length joined → group < get_or joined place 0
    → ShareOffset (get_or groups group d) (get_or sets place e)

-- what a group shares it still shares when a page has joined
still_met : (groups new : List Offsets) (offsets some : Offsets) (group other : ℕ) (d : Offsets) → IsAddedTo group offsets groups new
    → other < length groups → ShareOffset (get_or groups other d) some → ShareOffset (get_or new other d) some
still_met groups new offsets some group other d a l m =
    let size = a.size in
    let was : Bool = nat_lt other (length groups) && has (get_or groups other d) m.0 in
    let adds : Bool = other == group && has offsets m.0 in
    let held : was ≡ true = and_from (nat_lt other (length groups)) (has (get_or groups other d) m.0) (lt-ltb other (length groups) l) m.1 in
    (m.0, a.added other m.0 d (omega arith) ∙ or_left was adds held, m.2)

-- the groups below each page's own have an offset of it when the next page has joined
pub met_next : (sets : List Offsets) (joined : List ℕ) (groups new : List Offsets) (offsets : Offsets) (group : ℕ)
    → AreMet sets joined groups → ((place : ℕ) → place < length joined → get_or joined place 0 < length groups)
    → ((e : Offsets) → get_or sets (length joined) e ≡ offsets) → IsFirst groups offsets group → IsAddedTo group offsets groups new
    → AreMet sets (joined ++ group ∷ []) new
met_next sets joined groups new offsets group h below is f a place other d e l m =
    let more = length_push joined group in
    elim (cases_lt place (length joined)) [
      | inl n ↦ (
          let kept = get_or_append_left joined (group ∷ []) 0 place n in
          let low : other < get_or joined place 0 = subst (λ (g : ℕ). other < g) kept m in
          let b = below place n in
          still_met groups new offsets (get_or sets place e) group other d a (omega arith) (h place other d e n low)
          )
      | inr n ↦ (
          let here : place ≡ length joined = omega arith in
          let last : get_or (joined ++ group ∷ []) place 0 ≡ group =
          ap (λ (p : ℕ). get_or (joined ++ group ∷ []) p 0) here ∙ get_or_push joined group 0 (length joined) refl in
          let low : other < group = subst (λ (g : ℕ). other < g) last m in
          let within = f.within in
          let own : offsets ≡ get_or sets place e = sym (ap (λ (p : ℕ). get_or sets p e) here ∙ is e) in
          still_met groups new offsets (get_or sets place e) group other d a (omega arith)
          (subst (λ (o : Offsets). ShareOffset (get_or groups other d) o) own (f.met other d low))
          )
    ]

-- the groups before the one that is tried first have an offset of the page
pub start_met : (sets : List Offsets) (joined : List ℕ) (groups : List Offsets) (offsets : Offsets) (start : ℕ)
    → AreMet sets joined groups → IsStart sets joined offsets start → (group : ℕ) (d : Offsets) → group < start
    → ShareOffset (get_or groups group d) offsets
start_met sets joined groups offsets start h s group d l = elim s [
  | inl z ↦ absurd (omega arith)
  | inr e ↦ (
      let low : group < get_or joined e.0 0 = subst (λ (g : ℕ). group < g) e.3 l in
      let blank : Offsets = record { words = [] } in
      let m = h e.0 group d blank e.1 low in
      (m.0, m.1, e.2 blank m.0 m.2)
      )
]

-- that group is one of the groups, or the first
pub start_within : (sets : List Offsets) (joined : List ℕ) (groups : List Offsets) (offsets : Offsets) (start : ℕ)
    → ((place : ℕ) → place < length joined → get_or joined place 0 < length groups) → IsStart sets joined offsets start
    → start ≤ length groups
start_within sets joined groups offsets start below s = elim s [
  | inl z ↦ omega arith
  | inr e ↦ (let b = below e.0 e.1 in let is = e.3 in omega arith)
]

-- the least number above each of some numbers and one more
bound_push : (xs : List ℕ) (x : ℕ) → bound_of (xs ++ x ∷ []) ≡ max (bound_of xs) (x + 1)
bound_push [] x = omega arith
bound_push (y ∷ xs) x = omega (arith, bound_push xs x)

-- the least number above each of one number more is above that one too
pub bound_more : (xs : List ℕ) (i : ℕ) → i < length xs → bound_of (take (i + 1) xs) ≡ max (bound_of (take i xs)) (get_or xs i 0 + 1)
bound_more xs i l = ap bound_of (take_more xs i 0 l) ∙ bound_push (take i xs) (get_or xs i 0)

-- each number is below the least number above each
pub below_bound : (xs : List ℕ) (i : ℕ) → i < length xs → get_or xs i 0 < bound_of xs
below_bound [] i l = absurd (omega arith)
below_bound (x ∷ xs) zero l = omega arith
below_bound (x ∷ xs) (suc i) l = omega (arith, below_bound xs i (omega arith))

-- the greater of two numbers by their order is the greater
pub greater : (a b : ℕ) → ord_max nat_cmp a b ≡ max a b
greater a b = grind (arith, nat_tests)
