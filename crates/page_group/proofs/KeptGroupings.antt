-- What is kept of a grouping is one.
use Rattle.std.proofs.Common.{◌≡◌, ◌≢◌, ℕ, suc, ◌+◌, ◌<◌, ◌≤◌, inl, inr, max, cond, List, [], ◌∷◌, length, get_or, Some, None, Ok, Err, refl, sym, ap, ◌∙◌, subst, arith}
use Rattle.std.specs.Prelude.{Contains, ◌==◌, count_by}
use Rattle.std.specs.List.{zip}
use Rattle.std.specs.List.Sorted.{IsStrictlyIncreasing, IsBinarySearchResult}
use Rattle.std.specs.Ordering.{nat_cmp}
use Rattle.std.proofs.lemmas.Bool.{cases_lt, cases_order, cond-false, ne_eqb}
use Rattle.std.proofs.lemmas.List.{get_or_read}
use Rattle.std.proofs.lemmas.List.Elements.{Contains-get_or, at_from_Contains}
use Rattle.std.proofs.lemmas.List.Kept.{AllPairs-from_increasing}
use Rattle.std.proofs.lemmas.List.Sums.{sum_by-cons}
use Rattle.std.proofs.lemmas.List.Sorted.{searched}
use Rattle.std.proofs.lemmas.Map.Keys.{sorted_from_strictly_increasing, non_decreasing_from_sorted}
use Rattle.std.proofs.lemmas.Slice.Zip.{length-zip, get_or-zip, firsts-zip}
use Rattle.page_group.specs.Pages.{MeetsPage, IsPageList}
use Rattle.pun_base.specs.Least.{IsLeast}
use Rattle.page_group.specs.Grouping.{pages, group_of, group_count, depth_of, Meet, IsGrouping}
use Rattle.page_group.specs.Joining.{IsOpenAt, AreJoined, bound_of}
use Rattle.page_group.proofs.Homes.{Rise, rise, group_at, home_of}
use Rattle.page_group.proofs.Groupings.{groups_are_few}
use Rattle.page_group.proofs.JoinedPages.{below_bound}

-- the homes of pages with their groups, which ascend
homes_rise : (ps gs : List ℕ) → IsStrictlyIncreasing ps → length gs ≡ length ps → Rise (zip ps gs)
homes_rise ps gs s e = rise (zip ps gs) (subst IsStrictlyIncreasing (sym (firsts-zip ps gs e)) s)

-- as many homes as pages
homes_length : (ps gs : List ℕ) → length gs ≡ length ps → length (zip ps gs) ≡ length gs
homes_length ps gs e = length-zip ps gs ∙ omega arith

-- the group at a page's place is the page's
pub group_placed : (ps gs : List ℕ) (place : ℕ) → IsStrictlyIncreasing ps → length gs ≡ length ps → place < length ps
    → group_of (zip ps gs) (get_or ps place 0) ≡ Some (get_or gs place 0)
group_placed ps gs place s e l =
    let d : ℕ × ℕ = (0, 0) in
    let m : place < length gs = omega arith in
    let within : place < length (zip ps gs) = omega (arith, homes_length ps gs e) in
    subst (λ (h : ℕ × ℕ). group_of (zip ps gs) h.0 ≡ Some h.1) (get_or-zip ps gs place d l m)
    (group_at (zip ps gs) place d (homes_rise ps gs s e) within)

-- a page stands at a place where its group stands too
abbrev pub HasPlace : List ℕ → List ℕ → ℕ → ℕ → Type 0
HasPlace ps gs page group = (place : ℕ) × (place < length gs) × (get_or ps place 0 ≡ page) × (get_or gs place 0 ≡ group)

-- a page with a group stands at a place where its group stands too
pub place_of : (ps gs : List ℕ) (page group : ℕ) → length gs ≡ length ps → group_of (zip ps gs) page ≡ Some group
    → HasPlace ps gs page group
place_of ps gs page group e q =
    let h = home_of (zip ps gs) page group q in
    let d : ℕ × ℕ = (0, 0) in
    let l : h.0 < length gs = (let m = h.1 in omega (arith, homes_length ps gs e)) in
    let both : (get_or ps h.0 0, get_or gs h.0 0) ≡ (page, group) = sym (get_or-zip ps gs h.0 d (omega arith) l) ∙ h.2 d in
    (h.0, l, ap (λ (x : ℕ × ℕ). x.0) both, ap (λ (x : ℕ × ℕ). x.1) both)

-- of two places of ascending pages the one with the lower page comes first
lower_place : (ps : List ℕ) (i j : ℕ) → IsStrictlyIncreasing ps → i < length ps → get_or ps i 0 < get_or ps j 0 → i < j
lower_place ps i j s l m = elim (cases_order i j) [
  | inl e ↦ (let f = ap (λ (k : ℕ). get_or ps k 0) e in absurd (omega arith))
  | inr (inl n) ↦ n
  | inr (inr n) ↦ (let f = AllPairs-from_increasing ps s j i 0 n l in absurd (omega (arith, f, m)))
]

-- pages that have joined groups are grouped
pub grouped : (pieces : List (ℕ × ℕ)) (ps gs : List ℕ) → IsPageList pieces ps → AreJoined pieces ps gs → IsGrouping pieces (zip ps gs)
grouped pieces ps gs listed joined = record {
  listed = subst (λ (l : List ℕ). IsPageList pieces l) (sym (firsts-zip ps gs joined.size)) listed;
  first = λ page group q.
      let size = joined.size in
      let s = listed.ascending in
      let at = place_of ps gs page group joined.size q in
      let within : at.0 < length ps = (let m = at.1 in omega arith) in
      let h : IsLeast (IsOpenAt pieces ps gs at.0) group = subst (IsLeast (IsOpenAt pieces ps gs at.0)) at.3 (joined.first at.0 at.1) in
      record {
        good = λ lower b e m.
            let low = place_of ps gs lower group joined.size e in
            let before : low.0 < at.0 =
            lower_place ps low.0 at.0 s (let m = low.1 in omega arith) (let x = low.2 in let y = at.2 in omega arith) in
            h.good low.0 before low.3 (subst (λ (p : ℕ). Meet pieces (get_or ps low.0 0) p) (sym at.2)
            (subst (λ (p : ℕ). Meet pieces p page) (sym low.2) m));
        least = λ other o. h.least other (λ before b e m.
            let l : before < length ps = omega arith in
            let below : get_or ps before 0 < page =
            (let f = AllPairs-from_increasing ps s before at.0 0 b within in let y = at.2 in omega (arith, f, y)) in
            o (get_or ps before 0) below (group_placed ps gs before s joined.size l ∙ ap Some e)
            (subst (λ (p : ℕ). Meet pieces (get_or ps before 0) p) at.2 m));
      };
}

-- the number of groups is the least number above each
pub counted : (ps gs : List ℕ) → length gs ≡ length ps → group_count (zip ps gs) ≡ bound_of gs
counted [] [] e = refl
counted [] (g ∷ gs) e = absurd (omega arith)
counted (p ∷ ps) [] e = absurd (omega arith)
counted (p ∷ ps) (g ∷ gs) e = ap (λ (n : ℕ). max (g + 1) n) (counted ps gs (omega arith))

-- there are no more groups than pages
pub few_joined : (pieces : List (ℕ × ℕ)) (ps gs : List ℕ) → IsPageList pieces ps → AreJoined pieces ps gs → bound_of gs ≤ length ps
few_joined pieces ps gs listed joined =
    let few = groups_are_few pieces (zip ps gs) (grouped pieces ps gs listed joined) in
    omega (arith, few, counted ps gs joined.size, ap length (firsts-zip ps gs joined.size))

-- the pages of a group are counted by their groups
pub depth_counted : (ps gs : List ℕ) (group : ℕ) → length gs ≡ length ps → depth_of (zip ps gs) group ≡ count_by (λ home. home == group) gs
depth_counted [] [] group e = refl
depth_counted [] (g ∷ gs) group e = absurd (omega arith)
depth_counted (p ∷ ps) [] group e = absurd (omega arith)
depth_counted (p ∷ ps) (g ∷ gs) group e =
    sum_by-cons (λ (home : ℕ × ℕ). cond (home.1 == group) 1 0) (p, g) (zip ps gs)
    ∙ ap (λ (n : ℕ). cond (g == group) 1 0 + n) (depth_counted ps gs group (omega arith))
    ∙ sym (sum_by-cons (λ (home : ℕ). cond (home == group) 1 0) g gs)

-- the page stands at this place of the list
abbrev pub StandsAt : List ℕ → ℕ → ℕ → Type 0
StandsAt pages page place = (place < length pages) × (get_or pages place 0 ≡ page)

-- ascending pages don't descend
rises : (pages : List ℕ) → IsStrictlyIncreasing pages → (i j : ℕ) → i ≤ j → j < length pages → get_or pages i 0 ≤ get_or pages j 0
rises pages s i j l m = non_decreasing_from_sorted pages (sorted_from_strictly_increasing pages s) i j 0 l m

-- what a search of the pages found is the page's place
pub found_at : (slice pages : List ℕ) (page place : ℕ) → slice ≡ pages → IsStrictlyIncreasing pages
    → IsBinarySearchResult (λ y. nat_cmp y page) slice (Ok place) → StandsAt pages page place
found_at slice pages page place e s h =
    let found = subst (λ (l : List ℕ). IsBinarySearchResult (λ y. nat_cmp y page) l (Ok place)) e h in
    searched pages page (Ok place) found (rises pages s)

-- a page that a search didn't find stands nowhere
pub found_nowhere : (slice pages : List ℕ) (page place : ℕ) → slice ≡ pages → IsStrictlyIncreasing pages
    → IsBinarySearchResult (λ y. nat_cmp y page) slice (Err place) → (j : ℕ) → j < length pages → get_or pages j 0 ≢ page
found_nowhere slice pages page place e s h j l =
    let missed = subst (λ (l : List ℕ). IsBinarySearchResult (λ y. nat_cmp y page) l (Err place)) e h in
    let parted = searched pages page (Err place) missed (rises pages s) in
    elim (cases_lt j place) [
      | inl m ↦ let below = parted.1 j m in λ at. omega arith
      | inr m ↦ let above = parted.2 j m l in λ at. omega arith
    ]

-- the group of a page that was found stands at its place
pub group_found : (ps gs : List ℕ) (page place : ℕ) → IsStrictlyIncreasing ps → length gs ≡ length ps → StandsAt ps page place
    → group_of (zip ps gs) page ≡ Some (get_or gs place 0)
group_found ps gs page place s e at =
    subst (λ (p : ℕ). group_of (zip ps gs) p ≡ Some (get_or gs place 0)) at.1 (group_placed ps gs place s e at.0)

-- it is below their number
below_count : (ps gs : List ℕ) (page place : ℕ) → length gs ≡ length ps → StandsAt ps page place
    → get_or gs place 0 < group_count (zip ps gs)
below_count ps gs page place e at =
    let l = at.0 in
    omega (arith, counted ps gs e, below_bound gs place (omega arith))

-- a page that is none of them has no group
pub group_nowhere : (ps gs : List ℕ) (page : ℕ) → ((j : ℕ) → j < length ps → get_or ps j 0 ≢ page) → group_of (zip ps gs) page ≡ None
group_nowhere [] [] page h = refl
group_nowhere [] (g ∷ gs) page h = refl
group_nowhere (p ∷ ps) [] page h = refl
group_nowhere (p ∷ ps) (g ∷ gs) page h =
    cond-false (page == p) (Some g) (group_of (zip ps gs) page) (ne_eqb page p (λ e. h 0 (omega arith) (sym e)))
    ∙ group_nowhere ps gs page (λ j l. h (suc j) (omega arith))

-- a page that was found meets a piece
pub meets_at : (pieces : List (ℕ × ℕ)) (pages : List ℕ) (page place : ℕ) → IsPageList pieces pages → StandsAt pages page place
    → MeetsPage pieces page
meets_at pieces pages page place listed h =
    (listed.exact page).0 (subst (λ (p : ℕ). Contains pages p) h.1 (Contains-get_or pages place 0 h.0))

-- one that is none of them meets none
pub meets_none : (pieces : List (ℕ × ℕ)) (pages : List ℕ) (page : ℕ) → IsPageList pieces pages
    → ((j : ℕ) → j < length pages → get_or pages j 0 ≢ page) → MeetsPage pieces page → ⊥
meets_none pieces pages page listed h m =
    let c = at_from_Contains pages page ((listed.exact page).1 m) in
    h c.0 c.1 (c.2 0)

-- the group that was read at the place of a page
pub group_read : (ps gs : List ℕ) (page place x : ℕ) → length gs ≡ length ps → StandsAt ps page place → x ≡ get_or gs place x
    → x ≡ get_or gs place 0
group_read ps gs page place x e at r = let l = at.0 in get_or_read gs place x (omega arith) r 0

-- the group that was read is below the number of groups
pub read_below : (ps gs : List ℕ) (page place x : ℕ) → length gs ≡ length ps → StandsAt ps page place → x ≡ get_or gs place x
    → x < group_count (zip ps gs)
read_below ps gs page place x e at r =
    subst (λ (g : ℕ). g < group_count (zip ps gs)) (sym (group_read ps gs page place x e at r)) (below_count ps gs page place e at)
