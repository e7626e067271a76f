-- What groupings are: apart, one for all pieces, and no more groups than pages. Theorems cite it.
use Rattle.std.specs.Prelude.{◌≡◌, ◌≢◌, ℕ, ◌<◌, ◌≤◌, List, length, Some}
use Rattle.page_group.specs.Grouping.{pages, group_of, group_count, Meet, IsGrouping}

-- Two pages of one group have no occupied offset in common.
abbrev pub GroupsAreApart : Type 0
GroupsAreApart =
    (pieces homes : List (ℕ × ℕ)) → IsGrouping pieces homes → (one other group : ℕ) → one ≢ other
    → group_of homes one ≡ Some group → group_of homes other ≡ Some group
    → Meet pieces one other → ⊥

-- A page has an occupied offset in common with a lower page of each group below its own.
abbrev pub LowerGroupsAreMet : Type 0
LowerGroupsAreMet =
    (pieces homes : List (ℕ × ℕ)) → IsGrouping pieces homes → (page group earlier : ℕ)
    → group_of homes page ≡ Some group → earlier < group
    → (lower : ℕ) × (lower < page) × (group_of homes lower ≡ Some earlier) × Meet pieces lower page

-- Pieces have one grouping.
abbrev pub GroupingIsOne : Type 0
GroupingIsOne =
    (pieces homes others : List (ℕ × ℕ)) → IsGrouping pieces homes
    → IsGrouping pieces others → homes ≡ others

-- Each number below the number of groups is the group of a page.
abbrev pub NoGroupIsEmpty : Type 0
NoGroupIsEmpty =
    (pieces homes : List (ℕ × ℕ)) → IsGrouping pieces homes → (group : ℕ) → group < group_count homes
    → (page : ℕ) × (group_of homes page ≡ Some group)

-- There are no more groups than pages.
abbrev pub GroupsAreFew : Type 0
GroupsAreFew =
    (pieces homes : List (ℕ × ℕ)) → IsGrouping pieces homes → group_count homes ≤ length (pages homes)
