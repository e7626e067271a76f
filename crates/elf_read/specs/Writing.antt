-- The file of a header, a table and what stands behind it. Theorems cite it.
use Rattle.std.specs.Prelude.{ℕ, ◌-◌, List, ◌++◌, length, replicate}
use Rattle.pun_base.specs.Field.{with_field}
use Rattle.elf_read.specs.declared.segment.Segment.{Segment}
use Rattle.elf_read.specs.Entries.{table}
use Rattle.elf_read.specs.Plain.{header}

-- The header of a program that starts at an address, with a table of so many entries right behind it.
unfoldable pub header_of : ℕ → ℕ → List ℕ
header_of start count = with_field 8 24 start (header 64 count)

-- A PT_LOAD with these flags, of bytes at a place of the file that are loaded at an address.
abbrev pub load_entry : ℕ → ℕ → ℕ → ℕ → Segment
load_entry flags offset vaddr size = record {
  kind = 1;
  flags = flags;
  offset = offset;
  vaddr = vaddr;
  paddr = vaddr;
  filesz = size;
  memsz = size;
  align = 0x1000;
}

-- Bytes with zeros behind them up to a place.
abbrev pub filled_to : ℕ → List ℕ → List ℕ
filled_to at bytes = bytes ++ replicate (at - length bytes) 0

-- The header, the table, zeros up to a place, and what stands from there on.
abbrev pub file_with : ℕ → List Segment → ℕ → List ℕ → List ℕ
file_with start ss at bytes = filled_to at (header_of start (length ss) ++ table ss) ++ bytes
