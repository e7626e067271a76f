-- The bytes that can be executed and not written, by the entries of the table. Theorems cite it.
use Rattle.std.specs.Prelude.{ℕ, zero, suc, ◌+◌, ◌-◌, ◌%◌, ◌==◌, Bool, ◌&&◌, if◌then◌else◌, List, [], ◌∷◌, Option, Some, None, slice_index}
use Rattle.std.specs.List.{find, list_any}
use Rattle.pun_base.specs.Ranges.{is_within}
use Rattle.elf_read.specs.declared.segment.Segment.{Segment}
use Rattle.elf_read.specs.Entries.{segments, is_load}

-- PF_X (1) and without PF_W (2)
abbrev pub is_code : Segment → Bool
is_code s = s.flags % 4 == 1

-- The file has the segment's byte at an address.
abbrev pub is_backed : Segment → ℕ → Bool
is_backed s a = is_within s.vaddr s.filesz a

-- A byte of the file at this address, in a PT_LOAD with PF_X and without PF_W.
abbrev pub is_exec_in : ℕ → Segment → Bool
is_exec_in a s = is_load s && is_code s && is_backed s a

-- The byte at an address of an accepted file can be executed.
abbrev pub is_exec : List ℕ → ℕ → Bool
is_exec file a = list_any (is_exec_in a) (segments file)

-- At most n bytes of one segment from an address on, while they can be executed.
unfoldable pub code_from : List ℕ → Segment → ℕ → ℕ → List ℕ
code_from file s a zero = []
code_from file s a (suc n) =
    if is_exec_in a s then slice_index file (s.offset + (a - s.vaddr)) ∷ code_from file s (a + 1) n else []

-- The bytes of a found segment from an address on that can be executed, at most 15; none where no segment was found.
abbrev pub code_of : List ℕ → ℕ → Option Segment → List ℕ
code_of file a None = []
code_of file a (Some s) = code_from file s a 15

-- The at most 15 bytes from an address on that can be executed, all in one segment.
abbrev pub window : List ℕ → ℕ → List ℕ
window file a = code_of file a (find (is_exec_in a) (segments file))
