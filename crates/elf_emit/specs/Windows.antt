-- What a page and a part of the file have in common, and segments held at new places. Contracts of private functions alone cite it.
use Rattle.std.specs.Prelude.{◌≡◌, ℕ, ◌+◌, ◌%◌, ◌^◌, ◌<◌, ◌≤◌, ◌⊎◌, List, [], ◌∷◌}
use Rattle.elf_read.specs.declared.segment.Segment.{Segment}
use Rattle.elf_emit.specs.declared.runs.Page.{Page}

-- `len` bytes from lo on and `size` bytes from at on have so many bytes in common, from their bytes start and skip on.
pub record IsOverlap (lo len at size start skip common : ℕ) : Type 0 where
  pub meets : lo + start ≡ at + skip
  pub first : (start ≡ 0) ⊎ (skip ≡ 0)
  pub inside : start + common ≤ len
  pub within : skip + common ≤ size
  pub last : (start + common ≡ len) ⊎ (skip + common ≡ size)

-- A segment's bytes lie in a file, its addresses are numbers of 32 bits, and its new place has its address's place in a page.
pub record IsHeld (len : ℕ) (s : Segment) (at : ℕ) : Type 0 where
  pub in_file : s.offset + s.filesz ≤ len
  pub low : s.vaddr + s.filesz < 2 ^ 32
  pub aligned : at % 4096 ≡ s.vaddr % 4096

-- The same of segments and their new entries.
abbrev pub AreHeld : ℕ → List Segment → List Segment → Type 0
AreHeld len [] news = Unit {0}
AreHeld len (s ∷ ss) [] = Unit {0}
AreHeld len (s ∷ ss) (new ∷ news) = IsHeld len s new.offset × AreHeld len ss news

-- A page's address is a multiple of 4,096.
abbrev pub IsCodePage : Page → Type 0
IsCodePage p = p.addr % 4096 ≡ 0
