-- What loading a written file gives, whatever stands behind its private range. Theorems cite it.
use Rattle.std.specs.Prelude.{◌≡◌, ◌⊎◌, ℕ, ◌+◌, ◌*◌, ◌%◌, ◌^◌, ◌<◌, ◌≤◌, true, List, [], ◌∷◌, length, map, None, slice_index, option_map, unwrap_or}
use Rattle.std.specs.List.{AllByRecursion, list_any}
use Rattle.pun_base.specs.Memory.{Bytes, joined}
use Rattle.elf_read.specs.declared.segment.Segment.{Segment}
use Rattle.elf_read.specs.Entries.{table, entry_of}
use Rattle.elf_read.specs.Code.{is_backed}
use Rattle.elf_read.specs.Image.{Chunk, image, image_of}
use Rattle.elf_read.specs.Refusals.{refusal}
use Rattle.elf_emit.specs.Job.{BytesAt, Part, Frame}
use Rattle.elf_emit.specs.Frames.{slice, written_at, olds, count, entries, private_len, layout}

-- A relation between each element of a list and each later one.
abbrev pub PairsByRecursion : {X : Type 0} → (X → X → Type 0) → List X → Type 0
PairsByRecursion R [] = Unit {0}
PairsByRecursion R (x ∷ xs) = AllByRecursion (R x) xs × PairsByRecursion R xs

-- Each byte of a write is a byte of the file that a PT_LOAD loads.
abbrev pub IsBacked : List Segment → BytesAt → Type 0
IsBacked ss w = (k : ℕ) → k < length w.now → list_any (λ s. is_backed s (w.addr + k)) ss ≡ true

-- A part is whole pages among a program's addresses, not in the private range, and shown by pages that there are.
pub record IsPart (lo hi files : ℕ) (p : Part) : Type 0 where
  pub low : 0x20000 ≤ p.addr
  pub high : p.addr + 4096 * p.count ≤ 0x7fff0000
  pub whole : p.addr % 4096 ≡ 0
  pub some : 0 < p.count
  pub shown : p.first + p.count ≤ files
  pub perms : p.perms < 8
  pub apart : (p.addr + 4096 * p.count ≤ lo) ⊎ (hi ≤ p.addr)

-- Parts don't meet.
abbrev pub PartsApart : Part → Part → Type 0
PartsApart p q = (p.addr + 4096 * p.count ≤ q.addr) ⊎ (q.addr + 4096 * q.count ≤ p.addr)

-- No original byte stands at its addresses.
abbrev pub IsNew : List ℕ → Part → Type 0
IsNew orig p = (a : ℕ) → p.addr ≤ a → a < p.addr + 4096 * p.count → image_of orig a ≡ None

-- The conditions on a written file. That its table isn't too long is none of them.
pub record IsFrame (f : Frame) : Type 0 where
  pub bytes : (k : ℕ) → slice_index f.orig k < 256
  pub size : length f.orig < 2 ^ 63
  pub accepted : refusal 0x20000 f.orig ≡ None
  pub backed : AllByRecursion (IsBacked (olds f)) f.writes
  -- the private range is whole pages among a program's addresses, and new
  pub private_whole : (f.private_lo % 4096 ≡ 0) × (f.private_hi % 4096 ≡ 0)
  pub private_some : f.private_lo < f.private_hi
  pub private_low : 0x20000 ≤ f.private_lo
  pub private_high : f.private_hi ≤ 0x7fff0000
  pub private_new : (a : ℕ) → f.private_lo ≤ a → a < f.private_hi → image_of f.orig a ≡ None
  -- so are the pages behind it, which the parts show
  pub long : length f.body ≡ 4096 * f.files
  pub few_files : f.files < 2 ^ 33
  pub parts : AllByRecursion (IsPart f.private_lo f.private_hi f.files) f.parts
  pub parts_apart : PairsByRecursion PartsApart f.parts
  pub new : AllByRecursion (IsNew f.orig) f.parts
  -- the program starts at a number of 64 bits
  pub starts : unwrap_or f.entry 0 < 2 ^ 64

-- The same permissions, and what is written.
abbrev pub with_writes : List BytesAt → Bytes → Bytes
with_writes ws m a = option_map (λ c. record { byte = written_at ws a c.byte; perms = c.perms }) (m a)

-- The table at 0x10000, which can be read.
abbrev pub table_image : Frame → Bytes
table_image f = image (record { lo = 0x10000; size = 56 * count f; perms = 4; bytes = table (entries f) } ∷ [])

-- The private range: zeros that can be read and written.
abbrev pub private_image : Frame → Bytes
private_image f = image (record { lo = f.private_lo; size = private_len f; perms = 6; bytes = [] } ∷ [])

-- A part shows its pages.
abbrev pub part_chunk : List ℕ → Part → Chunk
part_chunk body p = record { lo = p.addr; size = 4096 * p.count; perms = p.perms; bytes = slice (4096 * p.count) (4096 * p.first) body }

-- What the parts show together.
abbrev pub parts_image : Frame → Bytes
parts_image f = image (map (part_chunk f.body) f.parts)

-- The original's image with the written bytes, joined with the table, the private range and the parts.
abbrev pub loaded : Frame → Bytes
loaded f = joined (table_image f) (joined (private_image f) (joined (parts_image f) (with_writes f.writes (image_of f.orig))))

-- What a written file loads, and nothing else, where it starts, and that it is accepted.
pub record FrameIsLoaded (f : Frame) : Type 0 where
  pub image : (a : ℕ) → image_of (layout f) a ≡ loaded f a
  pub entry : entry_of (layout f) ≡ unwrap_or f.entry (entry_of f.orig)
  pub accepted : refusal 0x10000 (layout f) ≡ None

-- So for each written file that meets the conditions and whose table isn't too long.
abbrev pub FrameLoads : Type 0
FrameLoads = (f : Frame) → IsFrame f → count f ≤ 1024 → FrameIsLoaded f
