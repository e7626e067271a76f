-- The ranges that are taken before the first turn, listed one after the other.
use Rattle.std.proofs.Common.{◌≡◌, ℕ, List, [], ◌++◌, map, ap, ◌∙◌, sym, subst}
use Rattle.std.specs.List.{AllByRecursion}
use Rattle.pun_base.specs.declared.range.Range.{Range}
use Rattle.address_space.specs.declared.extent.Extent.{Extent}
use Rattle.address_space.specs.Free.{whole_pages}
use Rattle.elf_read.specs.declared.segment.Segment.{Segment}
use Rattle.elf_read.specs.Accepted.{IsPlaced}
use Rattle.site_turns.specs.PrivateRange.{pages_of}

-- the pages of a segment
abbrev pub pages_in : Segment → Extent
pages_in s = pages_of s.vaddr s.memsz

-- some segments' ranges are listed, and the others are placed
pub record IsTaking (len : ℕ) (all : List Segment) (ranges : List Range) (left : List Segment) : Type 0 where
  pub listed : map whole_pages ranges ++ map pages_in left ≡ map pages_in all
  pub placed : AllByRecursion (IsPlaced 0x10000 len) left

-- at first no segment's range is listed, and all segments are placed
pub nothing_taken : (len : ℕ) (all : List Segment) (ranges : List Range) (left : List Segment) → ranges ≡ [] → left ≡ all
    → AllByRecursion (IsPlaced 0x10000 len) all → IsTaking len all ranges left
nothing_taken len all ranges left r e h =
    record {
      listed = ap (λ (xs : List Range). map whole_pages xs ++ map pages_in left) r ∙ ap (map pages_in) e;
      placed = subst (λ (xs : List Segment). AllByRecursion (IsPlaced 0x10000 len) xs) (sym e) h;
    }
