-- A file that was accepted, and what the rules leave of its entries. Theorems cite it.
use Rattle.std.specs.Prelude.{◌≡◌, ℕ, ◌+◌, ◌*◌, ◌%◌, ◌≤◌, ◌<◌, List, [], ◌∷◌, None, length}
use Rattle.std.specs.List.{AllByRecursion}
use Rattle.elf_read.specs.declared.segment.Segment.{Segment}
use Rattle.elf_read.specs.Entries.{table_place, table_count, segments, loads}
use Rattle.elf_read.specs.Refusals.{first_page, last_page, refusal}

-- An accepted file as callers see it: its bytes, and the entries of its table.
pub record File : Type 0 where
  pub bytes : List ℕ
  pub entries : List Segment

-- A nonempty PT_LOAD that keeps the rules, in a file of `len` bytes.
pub record IsPlaced (from len : ℕ) (s : Segment) : Type 0 where
  pub nonempty : 0 < s.memsz
  pub in_file : s.offset + s.filesz ≤ len
  pub sizes : s.filesz ≤ s.memsz
  pub aligned : s.offset % 4096 ≡ s.vaddr % 4096
  pub high : s.vaddr + s.memsz ≤ 0x7fff0000
  pub low : from ≤ s.vaddr

-- Each segment's first page is above the last page of the one before it; the first of them is at or above a page.
abbrev pub Ascends : ℕ → List Segment → Type 0
Ascends page [] = Unit {0}
Ascends page (s ∷ ss) = (page ≤ first_page s) × (0 < s.memsz) × Ascends (last_page s + 1) ss

-- What the rules leave of a file.
pub record IsAccepted (low : ℕ) (bytes : List ℕ) : Type 0 where
  pub header : 64 ≤ length bytes
  pub table : table_place bytes + 56 * table_count bytes ≤ length bytes
  pub placed : AllByRecursion (IsPlaced low (length bytes)) (loads (segments bytes))
  pub ascends : Ascends 0 (loads (segments bytes))

-- What an accepted file keeps beside its bytes: its entries, and those of them that are loaded.
pub record IsFile (bytes : List ℕ) (entries loaded : List Segment) : Type 0 where
  pub entries_are : entries ≡ segments bytes
  pub loaded_are : loaded ≡ loads entries
  pub accepted : refusal 0x10000 bytes ≡ None
