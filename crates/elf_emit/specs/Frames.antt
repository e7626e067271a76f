-- A written file, part by part, whatever stands behind its private range. Theorems cite it.
use Rattle.std.specs.Prelude.{ℕ, ◌+◌, ◌-◌, ◌*◌, ◌%◌, ◌==◌, Bool, not, ◌&&◌, ◌||◌, nat_le, nat_lt, if◌then◌else◌, List, [], ◌∷◌, ◌++◌, length, take, drop, map, filter, replicate, slice_index, Option, Some, None}
use Rattle.std.specs.List.{list_any}
use Rattle.pun_base.specs.Ranges.{is_within}
use Rattle.pun_base.specs.Field.{with_field}
use Rattle.elf_read.specs.declared.segment.Segment.{Segment}
use Rattle.elf_read.specs.Entries.{segments, loads, table}
use Rattle.elf_read.specs.Writing.{load_entry}
use Rattle.elf_emit.specs.Job.{BytesAt, Part, Frame}

-- The bytes of a list that are n from a place on.
abbrev pub slice : ℕ → ℕ → List ℕ → List ℕ
slice n k bytes = take n (drop k bytes)

-- Bytes with others in their place, from a place on.
abbrev pub placed : List ℕ → ℕ → List ℕ → List ℕ
placed bytes at new = take at bytes ++ (new ++ drop (at + length new) bytes)

-- How many zeros there are up to a multiple of 4,096.
abbrev pub pad : ℕ → ℕ
pad n = (4096 - n % 4096) % 4096

-- The least multiple of 4,096 that is n or above.
abbrev pub up : ℕ → ℕ
up n = n + pad n

-- Bytes with zeros behind them up to a multiple of 4,096.
abbrev pub padded : List ℕ → List ℕ
padded bytes = bytes ++ replicate (pad (length bytes)) 0

-- A write has a byte at an address.
abbrev pub in_patch : BytesAt → ℕ → Bool
in_patch w a = is_within w.addr (length w.now) a

-- The byte at an address after a write, where b was.
abbrev pub written_by : BytesAt → ℕ → ℕ → ℕ
written_by w a b = if in_patch w a then slice_index w.now (a - w.addr) else b

-- The byte at an address after all writes.
abbrev pub written_at : List BytesAt → ℕ → ℕ → ℕ
written_at [] a b = b
written_at (w ∷ ws) a b = written_at ws a (written_by w a b)

-- The bytes from an address on after all writes.
abbrev pub rewritten : List BytesAt → ℕ → List ℕ → List ℕ
rewritten ws a [] = []
rewritten ws a (b ∷ bs) = written_at ws a b ∷ rewritten ws (a + 1) bs

-- A segment's bytes in the file, after all writes.
abbrev pub content : List BytesAt → List ℕ → Segment → List ℕ
content ws file s = rewritten ws s.vaddr (slice s.filesz s.offset file)

-- The nonempty PT_LOADs of the original.
abbrev pub olds : Frame → List Segment
olds f = loads (segments f.orig)

-- An entry that isn't PT_LOAD.
abbrev pub is_other : Segment → Bool
is_other s = not (s.kind == 1)

-- The original's entries that aren't PT_LOAD.
abbrev pub others : Frame → List Segment
others f = filter is_other (segments f.orig)

-- Another segment, by its address, has a byte of the file that s has too.
abbrev pub shares : Segment → Segment → Bool
shares s t =
    not (t.vaddr == s.vaddr) && (nat_lt 0 t.filesz && (nat_lt s.offset (t.offset + t.filesz) && nat_lt t.offset (s.offset + s.filesz)))

-- A nonempty PT_LOAD is moved where its bytes in the file meet the header's 64 or those of another.
unfoldable pub is_moved : List Segment → Segment → Bool
is_moved ss s = nat_lt 0 s.filesz && (nat_lt s.offset 64 || list_any (shares s) ss)

-- The bytes of a segment that isn't moved stay in their place.
abbrev pub stays : List Segment → Segment → Bool
stays ss s = nat_lt 0 s.filesz && not (is_moved ss s)

-- The bytes of the segments that are moved, each at its place in a page; `all` are the nonempty PT_LOADs.
abbrev pub moved_bytes : List BytesAt → List ℕ → List Segment → List Segment → List ℕ
moved_bytes ws file all [] = []
moved_bytes ws file all (s ∷ ss) =
    if is_moved all s
    then padded (replicate (s.vaddr % 4096) 0 ++ content ws file s) ++ moved_bytes ws file all ss
    else moved_bytes ws file all ss

-- The nonempty PT_LOADs with their new places in the file, the first of which is `at`.
abbrev pub renewed : List Segment → ℕ → List Segment → List Segment
renewed all at [] = []
renewed all at (s ∷ ss) =
    if is_moved all s
    then record s { offset = at + s.vaddr % 4096 } ∷ renewed all (at + up (s.vaddr % 4096 + s.filesz)) ss
    else s ∷ renewed all at ss

-- How many entries the new table has.
abbrev pub count : Frame → ℕ
count f = length (others f) + (2 + (length f.parts + length (olds f)))

-- Where the moved segments begin in the file.
abbrev pub moved_at : Frame → ℕ
moved_at f = up (length f.orig)

-- The bytes of the moved segments.
abbrev pub moved_part : Frame → List ℕ
moved_part f = moved_bytes f.writes f.orig (olds f) (olds f)

-- Where the table begins in the file.
abbrev pub table_at : Frame → ℕ
table_at f = moved_at f + length (moved_part f)

-- Where the private range begins in the file.
abbrev pub private_at : Frame → ℕ
private_at f = table_at f + up (56 * count f)

-- How many bytes the private range has.
abbrev pub private_len : Frame → ℕ
private_len f = f.private_hi - f.private_lo

-- Where the pages behind the private range begin in the file.
abbrev pub pages_at : Frame → ℕ
pages_at f = private_at f + private_len f

-- The entry that loads the table, at 0x10000 (R).
abbrev pub table_load : Frame → Segment
table_load f = load_entry 4 (table_at f) 0x10000 (56 * count f)

-- The entry that loads the private range (RW).
abbrev pub private_load : Frame → Segment
private_load f = load_entry 6 (private_at f) f.private_lo (private_len f)

-- The entry that loads a part; `at` is where the pages behind the private range begin in the file.
abbrev pub part_load : ℕ → Part → Segment
part_load at p = load_entry p.perms (at + 4096 * p.first) p.addr (4096 * p.count)

-- PT_PHDR (6) tells where the table stands.
abbrev pub with_table : ℕ → ℕ → Segment → Segment
with_table at size s =
    if s.kind == 6 then record s { offset = at; vaddr = 0x10000; paddr = 0x10000; filesz = size; memsz = size } else s

-- The PT_LOADs of the new table: the table, the private range, the parts, and the original's at their new places.
abbrev pub new_loads : Frame → List Segment
new_loads f =
    table_load f ∷ private_load f ∷ (map (part_load (pages_at f)) f.parts ++ renewed (olds f) (moved_at f) (olds f))

-- Segments with another one among them by ascending `p_vaddr`, ties in their order.
abbrev pub insert_load : Segment → List Segment → List Segment
insert_load s [] = s ∷ []
insert_load s (t ∷ ts) = if nat_le s.vaddr t.vaddr then s ∷ t ∷ ts else t ∷ insert_load s ts

-- So of a whole list.
abbrev pub in_order : List Segment → List Segment
in_order [] = []
in_order (s ∷ ss) = insert_load s (in_order ss)

-- The new table: the other entries in their order, then the PT_LOADs.
abbrev pub entries : Frame → List Segment
entries f = map (with_table (table_at f) (56 * count f)) (others f) ++ in_order (new_loads f)

-- Bytes whose header tells where the program starts, if that is new (ELF-64, `e_entry` at 24).
abbrev pub with_entry : Option ℕ → List ℕ → List ℕ
with_entry None bytes = bytes
with_entry (Some entry) bytes = with_field 8 24 entry bytes

-- The original with a header that tells this and of the new table (ELF-64, `e_phoff` at 32 and `e_phnum` at 56).
abbrev pub with_header : Frame → List ℕ
with_header f = with_field 2 56 (count f) (with_field 8 32 (table_at f) (with_entry f.entry f.orig))

-- Bytes in which those of each of these segments, after all writes, are put at its place in the file.
abbrev pub placed_all : List BytesAt → List ℕ → List Segment → List ℕ → List ℕ
placed_all ws file [] bytes = bytes
placed_all ws file (s ∷ ss) bytes = placed_all ws file ss (placed bytes s.offset (content ws file s))

-- The original with the new header, and with the written bytes of the segments that stay.
abbrev pub original_part : Frame → List ℕ
original_part f = placed_all f.writes f.orig (filter (stays (olds f)) (olds f)) (with_header f)

-- The file: the original, the moved segments, the table, the private range of zeros, the pages behind it.
abbrev pub layout : Frame → List ℕ
layout f =
    padded (original_part f)
    ++ (moved_part f ++ (padded (table (entries f)) ++ (replicate (private_len f) 0 ++ f.body)))
