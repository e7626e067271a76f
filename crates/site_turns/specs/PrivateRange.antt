-- The private range, and what is taken before the first turn. Theorems cite it.
use Rattle.std.specs.Prelude.{◌≡◌, ℕ, ◌+◌, ◌*◌, ◌/◌, ◌-◌, ◌≤◌, List, ◌++◌, map, Some}
use Rattle.std.specs.Int.{div_ceil}
use Rattle.pun_base.specs.declared.action.Action.{Action}
use Rattle.pun_base.specs.declared.range.Range.{Range}
use Rattle.elf_read.specs.declared.segment.Segment.{Segment}
use Rattle.elf_read.specs.Entries.{loads}
use Rattle.address_space.specs.declared.extent.Extent.{Extent}
use Rattle.address_space.specs.Free.{IsFree, whole_pages}
use Rattle.pun_base.specs.Least.{Least}
use Rattle.address_space.specs.Fit.{FitsPages}
use Rattle.sound_images.specs.Reports.{private_len}

-- The pages that n bytes from an address on meet.
abbrev pub pages_of : ℕ → ℕ → Extent
pages_of lo n = record { lo = lo / 4096 * 4096; hi = div_ceil (lo + n) 4096 * 4096 }

-- What is taken before the private range is: the pages of the nonempty PT_LOADs, and those of the
-- reserves.
abbrev pub taken_first : List Segment → List Range → List Extent
taken_first segments reserves =
    map (λ s. pages_of s.vaddr s.memsz) (loads segments) ++ map whole_pages reserves

-- How many pages hold what an action keeps for n sites.
abbrev pub pages_for : Action → ℕ → ℕ
pages_for action n = div_ceil (private_len action n) 4096

-- The private range is the least run of free pages with as many as the action needs for so many
-- sites.
pub record IsPrivate (taken : List Extent) (action : Action) (sites : ℕ)
    (private : Extent) : Type 0 where
  pub least : Least (FitsPages taken (pages_for action sites)) (Some private.lo)
  pub size : private.hi ≡ private.lo + pages_for action sites * 4096

-- A private range was free, is whole pages, and has room for what the action keeps.
pub record HasRoom (taken : List Extent) (action : Action) (sites : ℕ)
    (private : Extent) : Type 0 where
  pub free : IsFree taken private.lo (private.hi - private.lo)
  pub whole : (k : ℕ) × (private.lo ≡ k * 4096)
  pub pages : (k : ℕ) × (private.hi ≡ k * 4096)
  pub room : private.lo + private_len action sites ≤ private.hi

-- Each private range that the rules give was free, is whole pages, and has room for what the action
-- keeps.
abbrev pub PrivateHasRoom : Type 0
PrivateHasRoom =
    (taken : List Extent) (action : Action) (sites : ℕ) (private : Extent)
    → IsPrivate taken action sites private → HasRoom taken action sites private
