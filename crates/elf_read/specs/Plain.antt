-- The plain file of a text: a header, one program header, zeros, and the text, loaded at 0x401000. Theorems cite it.
use Rattle.std.specs.Prelude.{ℕ, ◌+◌, ◌-◌, ◌≤◌, ◌&&◌, nat_le, nat_lt, if◌then◌else◌, List, [], ◌∷◌, ◌++◌, Some, None, length, replicate, slice_index}
use Rattle.pun_base.specs.Memory.{Bytes}
use Rattle.elf_read.specs.declared.segment.Segment.{Segment}
use Rattle.elf_read.specs.Entries.{fields, spelled}

-- `e_ident`: the magic number, 64 bits, low byte first, version 1, and zeros.
abbrev pub identity : List ℕ
identity = 0x7f ∷ 0x45 ∷ 0x4c ∷ 0x46 ∷ 2 ∷ 1 ∷ 1 ∷ replicate 9 0

-- The header (ELF-64, "ELF Header") of a program for x86-64 that starts at 0x401000, with its table at `place`.
unfoldable pub header : ℕ → ℕ → List ℕ
header place count = identity ++ fields (
    (2, 2)  -- e_type: ET_EXEC
    ∷ (2, 62)  -- e_machine: EM_X86_64
    ∷ (4, 1)  -- e_version
    ∷ (8, 0x401000)  -- e_entry
    ∷ (8, place)  -- e_phoff
    ∷ (8, 0)  -- e_shoff
    ∷ (4, 0)  -- e_flags
    ∷ (2, 64)  -- e_ehsize
    ∷ (2, 56)  -- e_phentsize
    ∷ (2, count)  -- e_phnum
    ∷ (2, 0)  -- e_shentsize
    ∷ (2, 0)  -- e_shnum
    ∷ (2, 0)  -- e_shstrndx
    ∷ [])

-- A text of n bytes: a PT_LOAD that can be read and executed.
abbrev pub text_segment : ℕ → Segment
text_segment n = record {
  kind = 1;
  flags = 5;
  offset = 0x1000;
  vaddr = 0x401000;
  paddr = 0x401000;
  filesz = n;
  memsz = n;
  align = 0x1000;
}

-- What stands before a text of n bytes: 4,096 bytes.
unfoldable pub plain_front : ℕ → List ℕ
plain_front n = header 64 1 ++ spelled (text_segment n) ++ replicate 3976 0

-- The file of a text: what stands before it, and the text.
abbrev pub plain_file : List ℕ → List ℕ
plain_file text = plain_front (length text) ++ text

-- A text has 1 to 4,096 bytes.
abbrev pub IsText : List ℕ → Type 0
IsText text = (1 ≤ length text) × (length text ≤ 4096)

-- The text at 0x401000, which can be read and executed; nothing stands at any other address.
abbrev pub text_image : List ℕ → Bytes
text_image text a =
    if nat_le 0x401000 a && nat_lt a (0x401000 + length text)
    then Some (record { byte = slice_index text (a - 0x401000); perms = 5 })
    else None
