-- Groupings: pages of one group don't meet, each lower group is met, and pieces have one grouping.
use Rattle.std.proofs.Common.{◌≡◌, ℕ, zero, suc, ◌+◌, ◌<◌, ◌≤◌, inl, inr, List, [], ◌∷◌, length, get_or, Some, refl, sym, ap, ◌∙◌, subst, arith}
use Rattle.std.proofs.lemmas.Bool.{cases_lt, cases_order}
use Rattle.std.proofs.lemmas.List.{same_lists}
use Rattle.page_group.specs.Grouping.{pages, group_of, group_count, IsOpen, IsGrouping}
use Rattle.page_group.specs.Laws.{GroupsAreApart, LowerGroupsAreMet, GroupingIsOne, NoGroupIsEmpty, GroupsAreFew}
use Rattle.page_group.proofs.Homes.{rise, page_at, length_pages, group_at, home_of, listed_by, has_group}
use Rattle.page_group.proofs.PageMeetings.{IsMet, decide_met, find_any}
use Rattle.page_group.proofs.RisingNumbers.{rising_once}

-- two pages of one group don't meet
pub groups_are_apart : GroupsAreApart
groups_are_apart pieces homes g one other group n a b m = elim (cases_order one other) [
  | inl e ↦ n e
  | inr (inl l) ↦ (g.first other group b).good one l a m
  | inr (inr l) ↦ (g.first one group a).good other l b (m.0, m.2, m.1)
]

-- a page meets a lower page of each lower group
pub lower_groups_are_met : LowerGroupsAreMet
lower_groups_are_met pieces homes g page group earlier e l =
    elim (find_any (IsMet pieces page earlier) (decide_met pieces page earlier) homes) [
      | inl h ↦
          let d : ℕ × ℕ = (0, 0) in
          let m = h.2 d in
          ((get_or homes h.0 d).0, m.0, group_at homes h.0 d (rise homes g.listed.ascending) h.1 ∙ ap Some m.1, m.2)
      | inr h ↦
          let opens : IsOpen pieces homes page earlier =
          λ lower b q m.
          let p = home_of homes lower earlier q in
          let d : ℕ × ℕ = (0, 0) in
          h p.0 d p.1 (subst (IsMet pieces page earlier) (sym (p.2 d)) (b, refl, m)) in
          let k = (g.first page group e).least earlier opens in
          absurd (omega arith)
    ]

-- the pages below a number that have a group in one grouping have it in another
abbrev Agree : ℕ → List (ℕ × ℕ) → List (ℕ × ℕ) → Type 0
Agree n homes others = (page group : ℕ) → page < n → group_of homes page ≡ Some group → group_of others page ≡ Some group

-- a group that is open to a page is open where no more lower pages are in it
open_kept : (pieces homes others : List (ℕ × ℕ)) (page group : ℕ) → Agree page others homes → IsOpen pieces homes page group
    → IsOpen pieces others page group
open_kept pieces homes others page group a o lower l e m = o lower l (a lower group l e) m

-- the group of a page is the same where those of lower pages are
same_group : (pieces homes others : List (ℕ × ℕ)) → IsGrouping pieces homes → IsGrouping pieces others → (page : ℕ)
    → Agree page homes others → Agree page others homes → (group : ℕ) → group_of homes page ≡ Some group → group_of others page ≡ Some group
same_group pieces homes others g h page a b group e =
    let listed = (h.listed.exact page).1 ((g.listed.exact page).0 (listed_by homes page group e)) in
    let o = has_group others page (rise others h.listed.ascending) listed in
    let x = g.first page group e in
    let y = h.first page o.0 o.1 in
    let low = x.least o.0 (open_kept pieces others homes page o.0 a y.good) in
    let high = y.least group (open_kept pieces homes others page group b x.good) in
    let same : o.0 ≡ group = omega arith in
    o.1 ∙ ap Some same

-- one page more
agree_more : (n : ℕ) (homes others : List (ℕ × ℕ)) → Agree n homes others
    → ((group : ℕ) → group_of homes n ≡ Some group → group_of others n ≡ Some group) → Agree (suc n) homes others
agree_more n homes others a s page group l e = elim (cases_lt page n) [
  | inl m ↦ a page group m e
  | inr m ↦
      let q : n ≡ page = omega arith in
      subst (λ (p : ℕ). group_of homes p ≡ Some group → group_of others p ≡ Some group) q (s group) e
]

-- the groups of all pages are the same
agree : (pieces homes others : List (ℕ × ℕ)) → IsGrouping pieces homes → IsGrouping pieces others → (n : ℕ)
    → Agree n homes others × Agree n others homes
agree pieces homes others g h zero = (λ page group l e. absurd (omega arith), λ page group l e. absurd (omega arith))
agree pieces homes others g h (suc n) =
    let r = agree pieces homes others g h n in (
      agree_more n homes others r.0 (same_group pieces homes others g h n r.0 r.1),
      agree_more n others homes r.1 (same_group pieces others homes h g n r.1 r.0),
    )

-- pieces have one grouping
pub grouping_is_one : GroupingIsOne
grouping_is_one pieces homes others g h =
    let same : pages homes ≡ pages others =
    rising_once (pages homes) (pages others) g.listed.ascending h.listed.ascending
    (λ x c. (h.listed.exact x).1 ((g.listed.exact x).0 c)) (λ x c. (g.listed.exact x).1 ((h.listed.exact x).0 c)) in
    let size : length homes ≡ length others = sym (length_pages homes) ∙ ap length same ∙ length_pages others in
    same_lists homes others size (λ k d l.
    let m : k < length others = omega arith in
    let p : (get_or homes k d).0 ≡ (get_or others k d).0 =
    sym (page_at homes k d l) ∙ ap (λ (z : List ℕ). get_or z k 0) same ∙ page_at others k d m in
    let page = (get_or homes k d).0 in
    let one = (agree pieces homes others g h (page + 1)).0 page (get_or homes k d).1 (omega arith)
    (group_at homes k d (rise homes g.listed.ascending) l) in
    let two = group_at others k d (rise others h.listed.ascending) m in
    let some : Some (get_or homes k d).1 ≡ Some (get_or others k d).1 = sym one ∙ ap (group_of others) p ∙ two in
    let q : (get_or homes k d).1 ≡ (get_or others k d).1 = cc in
    λ i. (p i, q i))

-- below the count, a home's group is as high
reached : (homes : List (ℕ × ℕ)) (group : ℕ) → group < group_count homes
    → (i : ℕ) × (i < length homes) × ((d : ℕ × ℕ) → group ≤ (get_or homes i d).1)
reached [] group l = absurd (omega arith)
reached (h ∷ hs) group l = elim (cases_lt group (h.1 + 1)) [
  | inl m ↦ (0, omega arith, λ d. omega arith)
  | inr m ↦
      let r = reached hs group (omega arith) in
      (suc r.0, (let n = r.1 in omega arith), r.2)
]

-- each number below the count is a page's group
pub no_group_is_empty : NoGroupIsEmpty
no_group_is_empty pieces homes g group l =
    let r = reached homes group l in
    let d : ℕ × ℕ = (0, 0) in
    let home = get_or homes r.0 d in
    let at = group_at homes r.0 d (rise homes g.listed.ascending) r.1 in
    elim (cases_lt group home.1) [
      | inl m ↦ (let low = lower_groups_are_met pieces homes g home.0 home.1 group at m in (low.0, low.2))
      | inr m ↦ (let k = r.2 d in let e : home.1 ≡ group = omega arith in (home.0, at ∙ ap Some e))
    ]

-- a group is no higher than its page's place
low_groups : (pieces homes : List (ℕ × ℕ)) → IsGrouping pieces homes → (n i : ℕ) → i < n → i < length homes
    → (get_or homes i (0, 0)).1 ≤ i
low_groups pieces homes g zero i l m = absurd (omega arith)
low_groups pieces homes g (suc n) i l m = elim (cases_lt i n) [
  | inl below ↦ low_groups pieces homes g n i below m
  | inr here ↦
      let d : ℕ × ℕ = (0, 0) in
      let r = rise homes g.listed.ascending in
      let home = get_or homes i d in
      let opens : IsOpen pieces homes home.0 i =
      λ lower b q meet. (
      let p = home_of homes lower i q in
      let page : (get_or homes p.0 d).0 ≡ lower = ap (λ (x : ℕ × ℕ). x.0) (p.2 d) in
      let group : (get_or homes p.0 d).1 ≡ i = ap (λ (x : ℕ × ℕ). x.1) (p.2 d) in
      elim (cases_order p.0 i) [
        | inl e ↦ (let s : (get_or homes p.0 d).0 ≡ home.0 = ap (λ (k : ℕ). (get_or homes k d).0) e in absurd (omega arith))
        | inr (inl k) ↦ (let s = low_groups pieces homes g n p.0 (omega arith) p.1 in absurd (omega (arith, s, group, k)))
        | inr (inr k) ↦ (let s = r i p.0 d k p.1 in absurd (omega (arith, s, page, b)))
      ]
      ) in
      (g.first home.0 home.1 (group_at homes i d r m)).least i opens
]

-- a number above each group is not below the count
count_below : (homes : List (ℕ × ℕ)) (n : ℕ) → ((i : ℕ) → i < length homes → (get_or homes i (0, 0)).1 < n) → group_count homes ≤ n
count_below [] n h = omega arith
count_below (home ∷ homes) n h =
    let rest = count_below homes n (λ i l. h (suc i) (omega arith)) in
    let first = h 0 (omega arith) in
    omega arith

-- there are no more groups than pages
pub groups_are_few : GroupsAreFew
groups_are_few pieces homes g =
    let few = count_below homes (length homes) (λ i l. let k = low_groups pieces homes g (suc i) i (omega arith) l in omega arith) in
    omega (arith, few, length_pages homes)
