-- The file of a guest: as a plain file, with a second entry of the table for the page of data. Theorems cite it.
use Rattle.std.specs.Prelude.{ℕ, List, [], ◌∷◌, ◌++◌, length, replicate}
use Rattle.elf_read.specs.declared.segment.Segment.{Segment}
use Rattle.elf_read.specs.Entries.{table}
use Rattle.elf_read.specs.Plain.{text_segment}
use Rattle.elf_read.specs.Writing.{header_of}
use Rattle.guest_gen.specs.Instructions.{blocks_start, data_start}
use Rattle.guest_gen.specs.Texts.{guest_text}

-- the header of a plain file with two entries, whose `e_entry` is the first block
unfoldable pub guest_header : List ℕ
guest_header = header_of blocks_start 2

-- the page of data: a PT_LOAD that can be read and written, with no byte in the file
abbrev pub data_segment : Segment
data_segment = record {
  kind = 1;
  flags = 6;
  offset = 0;
  vaddr = data_start;
  paddr = data_start;
  filesz = 0;
  memsz = 0x1000;
  align = 0x1000;
}

-- what stands before a text of n bytes: the header, the table, and zeros
abbrev pub front_before : ℕ → ℕ → List ℕ
front_before n zeros = guest_header ++ (table (text_segment n ∷ data_segment ∷ []) ++ replicate zeros 0)

-- 4,096 bytes
unfoldable pub guest_front : ℕ → List ℕ
guest_front n = front_before n 3920

-- the file of a text
abbrev pub file_of : List ℕ → List ℕ
file_of text = guest_front (length text) ++ text

-- and of a guest
abbrev pub guest_file : ℕ → ℕ → List ℕ
guest_file seed n = file_of (guest_text seed n)
