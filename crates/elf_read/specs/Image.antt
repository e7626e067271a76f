-- What a file loads: chunks of memory, and the map that they stand for. Theorems cite it.
use Rattle.std.specs.Prelude.{ℕ, ◌-◌, ◌%◌, Bool, if◌then◌else◌, List, [], ◌∷◌, Some, None, slice_index, take, drop, map}
use Rattle.pun_base.specs.Ranges.{is_within}
use Rattle.pun_base.specs.Memory.{Cell, Bytes}
use Rattle.elf_read.specs.declared.segment.Segment.{Segment}
use Rattle.elf_read.specs.Entries.{loads, segments}

-- `size` bytes of memory from `lo` on. The first of them are `bytes`, and those past these are 0.
pub record Chunk : Type 0 where
  pub lo : ℕ
  pub size : ℕ
  pub perms : ℕ
  pub bytes : List ℕ

-- An address is one of a chunk's.
abbrev pub holds : Chunk → ℕ → Bool
holds c a = is_within c.lo c.size a

-- `slice_index` is 0 past the end of a list.
abbrev pub cell_in : Chunk → ℕ → Cell
cell_in c a = record { byte = slice_index c.bytes (a - c.lo); perms = c.perms }

-- The first chunk that holds an address tells what stands there.
abbrev pub image : List Chunk → Bytes
image [] a = None
image (c ∷ cs) a = if holds c a then Some (cell_in c a) else image cs a

-- What an entry loads: `p_memsz` bytes from `p_vaddr` on, of which the file has `p_filesz`, from `p_offset` on.
-- The permissions are the low three bits of `p_flags`.
abbrev pub chunk_of : List ℕ → Segment → Chunk
chunk_of file s = record {
  lo = s.vaddr;
  size = s.memsz;
  perms = s.flags % 8;
  bytes = take s.filesz (drop s.offset file);
}

-- What the loaded entries among these load.
abbrev pub chunks : List ℕ → List Segment → List Chunk
chunks file ss = map (chunk_of file) (loads ss)

-- The image of a file.
abbrev pub image_of : List ℕ → Bytes
image_of file = image (chunks file (segments file))
