-- The section table of a settled file (ELF-64, "Section Header Table"), by which a program that reads its own file finds names: the file's own,
-- behind the stub, where there is room in the front. No kernel reads it, and it isn't loaded. Theorems cite it.
use Rattle.std.specs.Prelude.{ℕ, zero, suc, ◌+◌, ◌*◌, ◌%◌, ◌^◌, ◌==◌, Bool, ◌&&◌, nat_le, nat_lt, if◌then◌else◌, List, [], ◌++◌, length, take, drop, replicate}
use Rattle.pun_base.specs.Field.{field, with_field}
use Rattle.elf_read.specs.Writing.{header_of}
use Rattle.settle.specs.Lengths.{used_len, front_len}

-- Where the file has its section table, and how many sections.
abbrev pub sections_place : List ℕ → ℕ
sections_place file = field 8 40 file  -- e_shoff

abbrev pub sections_count : List ℕ → ℕ
sections_count file = field 2 60 file  -- e_shnum

-- Where the front has it: at a multiple of 8 behind the stub.
abbrev pub shown_at : ℕ → ℕ
shown_at n = used_len n + 7

-- The front of a file of n entries has the section table if the file has one that lies inside, and if there is room.
unfoldable pub shows : ℕ → List ℕ → Bool
shows n file =
    (field 2 58 file == 64)  -- e_shentsize
    && nat_lt 0 (sections_count file)
    && nat_le (sections_place file + 64 * sections_count file) (length file)
    && nat_le (shown_at n + 64 * sections_count file) (front_len n)

-- A section of a file that stands p bytes later in a file: its bytes do (`sh_offset`). SHT_NULL (`sh_type` 0) has none. Addresses stay as the
-- file's symbols tell them.
abbrev pub moved_section : ℕ → List ℕ → List ℕ
moved_section p s = if field 4 4 s == 0 then s else with_field 8 24 ((field 8 24 s + p) % 2 ^ 64) s

-- So many sections from a place of the file on, which stands p bytes later.
abbrev pub moved_sections : ℕ → List ℕ → ℕ → ℕ → List ℕ
moved_sections p file at zero = []
moved_sections p file at (suc k) = moved_section p (take 64 (drop at file)) ++ moved_sections p file (at + 64) k

-- The table, with the zeros before it.
abbrev pub section_table : ℕ → List ℕ → List ℕ
section_table n file = replicate 7 0 ++ moved_sections (front_len n) file (sections_place file) (sections_count file)

-- What follows the stub.
abbrev pub section_tail : ℕ → List ℕ → List ℕ
section_tail n file = if shows n file then section_table n file else []

-- A header that tells of the section table.
abbrev pub with_sections : ℕ → List ℕ → List ℕ → List ℕ
with_sections n file header =
    with_field 2 62 (field 2 62 file)  -- e_shstrndx
    (with_field 2 60 (sections_count file)
    (with_field 2 58 64 (with_field 8 40 (shown_at n) header)))

-- The front's header, for a file of n entries: the program starts at an address, and its table has an entry more.
abbrev pub front_header : ℕ → ℕ → List ℕ → List ℕ
front_header start n file = if shows n file then with_sections n file (header_of start (n + 1)) else header_of start (n + 1)

-- A front up to the end of its stub, with the section table.
abbrev pub with_table : ℕ → List ℕ → List ℕ → List ℕ
with_table n file front = if shows n file then with_sections n file front ++ section_table n file else front
