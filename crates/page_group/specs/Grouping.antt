-- Groups of pages: of one group no two have an occupied offset in common, so they share a page of the file. Theorems cite it.
use Rattle.std.specs.Prelude.{◌≡◌, ℕ, ◌+◌, ◌<◌, ◌==◌, true, max, List, [], ◌∷◌, map, count_by, Option, Some}
use Rattle.pun_base.specs.Least.{IsLeast}
use Rattle.std.specs.Map.{lookup}
use Rattle.page_group.specs.Pages.{is_occupied, IsPageList}

-- The pieces, and each page that meets one, with its group.
pub record GroupsState : Type 0 where
  pub pieces : List (ℕ × ℕ)
  pub homes : List (ℕ × ℕ)

-- The pages that have a group.
abbrev pub pages : List (ℕ × ℕ) → List ℕ
pages homes = map (λ home. home.0) homes

-- The group of a page.
abbrev pub group_of : List (ℕ × ℕ) → ℕ → Option ℕ
group_of homes page = lookup (λ other. page == other) homes

-- The least number above every group.
abbrev pub group_count : List (ℕ × ℕ) → ℕ
group_count [] = 0
group_count (home ∷ homes) = max (home.1 + 1) (group_count homes)

-- The number of pages of a group.
abbrev pub depth_of : List (ℕ × ℕ) → ℕ → ℕ
depth_of homes group = count_by (λ home. home.1 == group) homes

-- Two pages have an occupied offset in common.
abbrev pub Meet : List (ℕ × ℕ) → ℕ → ℕ → Type 0
Meet pieces one other =
    (k : ℕ) × (is_occupied pieces one k ≡ true) × (is_occupied pieces other k ≡ true)

-- No lower page of a group has an occupied offset in common with a page.
abbrev pub IsOpen : List (ℕ × ℕ) → List (ℕ × ℕ) → ℕ → ℕ → Type 0
IsOpen pieces homes page group =
    (lower : ℕ) → lower < page → group_of homes lower ≡ Some group → Meet pieces lower page → ⊥

-- Pages are taken in ascending order, and each joins the first group that is open to it; a group
-- without a page is.
pub record IsGrouping (pieces homes : List (ℕ × ℕ)) : Type 0 where
  pub listed : IsPageList pieces (pages homes)
  pub first : (page group : ℕ) → group_of homes page ≡ Some group
      → IsLeast (IsOpen pieces homes page) group
