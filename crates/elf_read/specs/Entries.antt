-- The program header table of a file (ELF-64, "Program Header"), as functions of the file's bytes. Theorems cite it.
-- An entry is the Rust struct: its fields are `p_type`, `p_flags` and so on, in the order of the file.
use Rattle.std.specs.Prelude.{ℕ, zero, suc, ◌+◌, ◌^◌, ◌<◌, ◌==◌, Bool, ◌&&◌, nat_lt, List, [], ◌∷◌, ◌++◌, filter}
use Rattle.std.specs.List.{flat_map}
use Rattle.byteorder.specs.Endian.{little_bytes}
use Rattle.pun_base.specs.Field.{field}
use Rattle.elf_read.specs.declared.segment.Segment.{Segment}

-- The entry at a place.
unfoldable pub segment_at : List ℕ → ℕ → Segment
segment_at bytes at = record {
  kind = field 4 at bytes;
  flags = field 4 (at + 4) bytes;
  offset = field 8 (at + 8) bytes;
  vaddr = field 8 (at + 16) bytes;
  paddr = field 8 (at + 24) bytes;
  filesz = field 8 (at + 32) bytes;
  memsz = field 8 (at + 40) bytes;
  align = field 8 (at + 48) bytes;
}

-- The numbers of an entry fit its fields.
pub record Fits (s : Segment) : Type 0 where
  pub kind : s.kind < 2 ^ 32
  pub flags : s.flags < 2 ^ 32
  pub offset : s.offset < 2 ^ 64
  pub vaddr : s.vaddr < 2 ^ 64
  pub paddr : s.paddr < 2 ^ 64
  pub filesz : s.filesz < 2 ^ 64
  pub memsz : s.memsz < 2 ^ 64
  pub align : s.align < 2 ^ 64

-- n entries of 56 bytes each, from a place on.
abbrev pub segments_from : List ℕ → ℕ → ℕ → List Segment
segments_from bytes at zero = []
segments_from bytes at (suc n) = segment_at bytes at ∷ segments_from bytes (at + 56) n

-- Where the table stands: `e_phoff`.
unfoldable pub table_place : List ℕ → ℕ
table_place bytes = field 8 32 bytes

-- How many entries it has: `e_phnum`.
unfoldable pub table_count : List ℕ → ℕ
table_count bytes = field 2 56 bytes

-- Where the program starts: `e_entry`.
unfoldable pub entry_of : List ℕ → ℕ
entry_of bytes = field 8 24 bytes

-- All entries of a file's table, in its order.
abbrev pub segments : List ℕ → List Segment
segments bytes = segments_from bytes (table_place bytes) (table_count bytes)

-- A nonempty PT_LOAD.
abbrev pub is_load : Segment → Bool
is_load s = (s.kind == 1) && nat_lt 0 s.memsz

-- The entries that are loaded, in the table's order.
abbrev pub loads : List Segment → List Segment
loads ss = filter is_load ss

-- Fields one after the other: of each its count of bytes and its number, low byte first.
abbrev pub fields : List (ℕ × ℕ) → List ℕ
fields [] = []
fields (f ∷ fs) = little_bytes f.0 f.1 ++ fields fs

-- The 56 bytes of an entry.
unfoldable pub spelled : Segment → List ℕ
spelled s = fields (
    (4, s.kind) ∷ (4, s.flags) ∷ (8, s.offset) ∷ (8, s.vaddr) ∷ (8, s.paddr) ∷ (8, s.filesz) ∷ (8, s.memsz) ∷ (8, s.align) ∷ [])

-- The bytes of a table.
abbrev pub table : List Segment → List ℕ
table ss = flat_map spelled ss
