-- A static PIE settled at a base: a front of whole pages, and behind it the file, byte for byte. The front has a header, a table, the stub, the
-- file's section table where there is room, and zeros. Theorems cite it.
use Rattle.std.specs.Prelude.{ℕ, ◌+◌, ◌-◌, ◌*◌, ◌%◌, ◌^◌, ◌==◌, Bool, ◌&&◌, ◌||◌, nat_le, if◌then◌else◌, List, [], ◌∷◌, ◌++◌, length, map, Option, Some, None}
use Rattle.std.specs.List.{find}
use Rattle.pun_base.specs.Memory.{Bytes, joined}
use Rattle.elf_read.specs.declared.segment.Segment.{Segment}
use Rattle.elf_read.specs.Entries.{table_place, table_count, entry_of, segments, is_load, table}
use Rattle.elf_read.specs.Image.{image, image_of}
use Rattle.elf_read.specs.Writing.{filled_to}
use Rattle.settle.specs.Stub.{stub_code}
use Rattle.settle.specs.Lengths.{used_len, front_len}
use Rattle.settle.specs.Sections.{front_header, section_tail}

-- PT_DYNAMIC or PT_PHDR: the program finds them by its own table; a kernel isn't to see them, so they become PT_NULL.
abbrev pub is_hidden : Segment → Bool
is_hidden s = (s.kind == 2) || (s.kind == 6)

-- An entry of a file that stands p bytes later in a file and is loaded b bytes higher.
abbrev pub moved : ℕ → ℕ → Segment → Segment
moved p b s = record {
  kind = if is_hidden s then 0 else s.kind;
  flags = s.flags;
  offset = (s.offset + p) % 2 ^ 64;
  vaddr = (s.vaddr + b) % 2 ^ 64;
  paddr = (s.paddr + b) % 2 ^ 64;
  filesz = s.filesz;
  memsz = s.memsz;
  align = s.align;
}

-- The front's own entry: right below the base. Nobody reads `p_paddr`, so it tells the base.
abbrev pub front_entry : ℕ → ℕ → Segment
front_entry b n = record {
  kind = 1;
  flags = 5;
  offset = 0;
  vaddr = b - front_len n;
  paddr = b;
  filesz = used_len n;
  memsz = used_len n;
  align = 4096;
}

-- The table of the settled file: the front's entry, and each entry of the file, moved.
abbrev pub settled_table : ℕ → List Segment → List Segment
settled_table b ss = front_entry b (length ss) ∷ map (moved (front_len (length ss)) b) ss

-- A PT_LOAD that has these bytes of the file.
abbrev pub has_bytes : ℕ → ℕ → Segment → Bool
has_bytes place size s = is_load s && nat_le s.offset place && nat_le (place + size) (s.offset + s.filesz)

-- Where a place of the file is loaded by an entry, at a base.
abbrev pub loaded_at : ℕ → ℕ → Option Segment → ℕ
loaded_at b place None = 0
loaded_at b place (Some s) = b + s.vaddr + (place - s.offset)

-- Where the file's own table is loaded at a base: what a kernel tells a static PIE (AT_PHDR).
abbrev pub own_table : ℕ → List ℕ → ℕ
own_table b file = loaded_at b (table_place file) (find (has_bytes (table_place file) (56 * table_count file)) (segments file))

-- Where the stub stands.
abbrev pub stub_at : ℕ → ℕ → ℕ
stub_at b n = b - front_len n + 64 + 56 * (n + 1)

-- What the front has that is loaded, for a file of these entries: its header, its table and the stub.
abbrev pub front_parts : ℕ → List ℕ → List Segment → ℕ → ℕ → List ℕ
front_parts b file ss phdr entry =
    front_header (stub_at b (length ss)) (length ss) file
    ++ (table (settled_table b ss) ++ stub_code (stub_at b (length ss)) phdr (length ss) entry)

-- The front, for a file of these entries, with what its stub tells.
abbrev pub front_with : ℕ → List ℕ → List Segment → ℕ → ℕ → List ℕ
front_with b file ss phdr entry = filled_to (front_len (length ss)) (front_parts b file ss phdr entry ++ section_tail (length ss) file)

-- The front of a file.
abbrev pub front : ℕ → List ℕ → List ℕ
front b file = front_with b file (segments file) (own_table b file) (b + entry_of file)

-- The settled file.
abbrev pub settled : ℕ → List ℕ → List ℕ
settled b file = front b file ++ file

-- An image moved up by a base.
abbrev pub moved_image : ℕ → Bytes → Bytes
moved_image b m a = if nat_le b a then m (a - b) else None

-- What the front loads: the bytes of it that are used, which can be read and executed.
abbrev pub front_image : ℕ → List ℕ → Bytes
front_image b file = image (record {
  lo = b - front_len (length (segments file));
  size = used_len (length (segments file));
  perms = 5;
  bytes = front_parts b file (segments file) (own_table b file) (b + entry_of file);
} ∷ [])

-- The image of the settled file, as it is to be: the front, and the file's image, moved.
abbrev pub image_at : ℕ → List ℕ → Bytes
image_at b file = joined (front_image b file) (moved_image b (image_of file))
