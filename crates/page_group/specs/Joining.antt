-- The groups that pages join, in the order of the pages, and what is kept of them. Contracts of private functions alone cite it.
use Rattle.std.specs.Prelude.{◌≡◌, ℕ, ◌+◌, ◌^◌, ◌<◌, ◌⊎◌, ◌==◌, ◌&&◌, ◌||◌, nat_lt, max, List, [], ◌∷◌, length, slice_index}
use Rattle.std.specs.List.{slice_index_or}
use Rattle.page_group.specs.declared.offsets.Offsets.{Offsets}
use Rattle.page_group.specs.Pages.{IsPageList}
use Rattle.pun_base.specs.Least.{IsLeast}
use Rattle.page_group.specs.Grouping.{Meet}
use Rattle.page_group.specs.Occupancy.{has, IsWithin}

-- No page of a group that stands before a page has an occupied offset in common with it.
abbrev pub IsOpenAt : List (ℕ × ℕ) → List ℕ → List ℕ → ℕ → ℕ → Type 0
IsOpenAt pieces pages groups place group =
    (before : ℕ) → before < place → slice_index groups before ≡ group
    → Meet pieces (slice_index pages before) (slice_index pages place) → ⊥

-- The group of each page, in the pages' order, is the first one that is open to it.
pub record AreJoined (pieces : List (ℕ × ℕ)) (pages groups : List ℕ) : Type 0 where
  pub size : length groups ≡ length pages
  pub first : (place : ℕ) → place < length groups
      → IsLeast (IsOpenAt pieces pages groups place) (slice_index groups place)

-- A place to begin the search for a page's group: the first group, or that of an earlier page whose offsets the page has too.
abbrev pub IsStart : List Offsets → List ℕ → Offsets → ℕ → Type 0
IsStart sets joined offsets start =
    (start ≡ 0) ⊎ ((earlier : ℕ) × (earlier < length joined) × ((d : Offsets) → IsWithin (slice_index_or sets earlier d) offsets)
    × (start ≡ slice_index joined earlier))

-- The offsets of a page are added to those of a group, which may be the one behind the last.
pub record IsAddedTo (group : ℕ) (offsets : Offsets) (old new : List Offsets) : Type 0 where
  pub size : length new ≡ max (length old) (group + 1)
  pub added : (other k : ℕ) (d : Offsets) → other < length new → has (slice_index_or new other d) k
      ≡ ((nat_lt other (length old) && has (slice_index_or old other d) k)
      || (other == group && has offsets k))

-- The least number above each of some numbers.
abbrev pub bound_of : List ℕ → ℕ
bound_of [] = 0
bound_of (group ∷ groups) = max (group + 1) (bound_of groups)

-- What is kept of a grouping: its pages, the group of each, and how many groups there are.
pub record IsKept (pieces : List (ℕ × ℕ)) (pages groups : List ℕ) (count : ℕ) : Type 0 where
  pub listed : IsPageList pieces pages
  pub fits : length pages < 2 ^ 32
  pub joined : AreJoined pieces pages groups
  pub counted : count ≡ bound_of groups
