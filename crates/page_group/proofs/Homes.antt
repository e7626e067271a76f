-- The places of pages among a grouping's homes.
use Rattle.std.proofs.Common.{◌≡◌, ℕ, zero, suc, ◌<◌, inl, inr, false, List, [], ◌∷◌, length, get_or, Some, refl, sym, ap, ◌∙◌, subst, arith}
use Rattle.std.specs.Prelude.{◌==◌, Contains}
use Rattle.std.specs.List.Sorted.{IsStrictlyIncreasing}
use Rattle.std.proofs.lemmas.Bool.{cases_Bool, cond-true, cond-false, eqb-true, eq-eqb}
use Rattle.std.proofs.lemmas.Bool.Decides.{nat_tests}
use Rattle.std.proofs.lemmas.List.{length-map, get_or-map}
use Rattle.std.proofs.lemmas.List.Elements.{Contains-get_or, at_from_Contains}
use Rattle.std.proofs.lemmas.List.Kept.{AllPairs-from_increasing}
use Rattle.page_group.specs.Grouping.{pages, group_of}

-- each home has a lower page than those behind it
abbrev pub Rise : List (ℕ × ℕ) → Type 0
Rise homes = (i j : ℕ) (d : ℕ × ℕ) → i < j → j < length homes → (get_or homes i d).0 < (get_or homes j d).0

-- the page at a place is that of the home there
pub page_at : (homes : List (ℕ × ℕ)) (i : ℕ) (d : ℕ × ℕ) → i < length homes → get_or (pages homes) i 0 ≡ (get_or homes i d).0
page_at homes i d l = get_or-map (λ (x : ℕ × ℕ). x.0) homes i d 0 l

-- there are as many pages as homes
pub length_pages : (homes : List (ℕ × ℕ)) → length (pages homes) ≡ length homes
length_pages homes = length-map homes (λ (x : ℕ × ℕ). x.0)

-- pages that ascend are homes that rise
pub rise : (homes : List (ℕ × ℕ)) → IsStrictlyIncreasing (pages homes) → Rise homes
rise homes s i j d l m =
    let n : i < length homes = omega arith in
    let within : j < length (pages homes) = omega (arith, length_pages homes) in
    let below = AllPairs-from_increasing (pages homes) s i j 0 l within in
    omega (arith, below, page_at homes i d n, page_at homes j d m)

-- the homes behind the first rise too
rise_rest : (h : ℕ × ℕ) (hs : List (ℕ × ℕ)) → Rise (h ∷ hs) → Rise hs
rise_rest h hs r i j d l m = r (suc i) (suc j) d (omega arith) (omega arith)

-- the group of a home's page is the home's
pub group_at : (homes : List (ℕ × ℕ)) (i : ℕ) (d : ℕ × ℕ) → Rise homes → i < length homes
    → group_of homes (get_or homes i d).0 ≡ Some (get_or homes i d).1
group_at [] i d r l = absurd (omega arith)
group_at (h ∷ hs) zero d r l = cond-true (h.0 == h.0) _ _ (eq-eqb h.0 h.0 refl)
group_at (h ∷ hs) (suc i) d r l =
    let n : i < length hs = omega arith in
    let a : h.0 < (get_or hs i d).0 = r 0 (suc i) d (omega arith) l in
    let other : ((get_or hs i d).0 == h.0) ≡ false = grind (arith, nat_tests) in
    cond-false ((get_or hs i d).0 == h.0) _ _ other ∙ group_at hs i d (rise_rest h hs r) n

-- a page with a group is a home's
pub home_of : (homes : List (ℕ × ℕ)) (page group : ℕ) → group_of homes page ≡ Some group
    → (i : ℕ) × (i < length homes) × ((d : ℕ × ℕ) → get_or homes i d ≡ (page, group))
home_of [] page group e = absurd (let f = e in cc)
home_of (h ∷ hs) page group e = elim (cases_Bool (page == h.0)) [
  | inl t ↦
      let p : h.0 ≡ page = sym (eqb-true page h.0 t) in
      let some : Some h.1 ≡ Some group = sym (cond-true (page == h.0) (Some h.1) (group_of hs page) t) ∙ e in
      let q : h.1 ≡ group = cc in
      (0, omega arith, λ d i. (p i, q i))
  | inr f ↦
      let rest = home_of hs page group (sym (cond-false (page == h.0) (Some h.1) (group_of hs page) f) ∙ e) in
      (suc rest.0, (let l = rest.1 in omega arith), rest.2)
]

-- a page with a group is one of the pages
pub listed_by : (homes : List (ℕ × ℕ)) (page group : ℕ) → group_of homes page ≡ Some group → Contains (pages homes) page
listed_by homes page group e =
    let h = home_of homes page group e in
    let d : ℕ × ℕ = (0, 0) in
    let l : h.0 < length (pages homes) = (let m = h.1 in omega (arith, length_pages homes)) in
    let p : get_or (pages homes) h.0 0 ≡ page = page_at homes h.0 d h.1 ∙ ap (λ (x : ℕ × ℕ). x.0) (h.2 d) in
    subst (λ (x : ℕ). Contains (pages homes) x) p (Contains-get_or (pages homes) h.0 0 l)

-- each of the pages has a group
pub has_group : (homes : List (ℕ × ℕ)) (page : ℕ) → Rise homes → Contains (pages homes) page
    → (group : ℕ) × (group_of homes page ≡ Some group)
has_group homes page r c =
    let at = at_from_Contains (pages homes) page c in
    let d : ℕ × ℕ = (0, 0) in
    let l : at.0 < length homes = (let m = at.1 in omega (arith, length_pages homes)) in
    let p : (get_or homes at.0 d).0 ≡ page = sym (page_at homes at.0 d l) ∙ at.2 0 in
    ((get_or homes at.0 d).1, subst (λ (x : ℕ). group_of homes x ≡ Some (get_or homes at.0 d).1) p (group_at homes at.0 d r l))
