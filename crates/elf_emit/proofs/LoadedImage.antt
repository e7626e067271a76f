-- The image of the written file: the table, the private range, the parts and the original's segments together.
use Rattle.std.proofs.Common.{◌≡◌, ℕ, ◌+◌, ◌-◌, ◌*◌, ◌%◌, ◌<◌, ◌==◌, not, ◌&&◌, cond, true, false, Bool, nat_lt, nat_le, List, [], ◌∷◌, ◌++◌, length, map, filter, replicate, slice_index, Option, Some, None, refl, ap, ◌∙◌, arith, append_assoc, inl, inr}
use Rattle.std.specs.List.{AllByRecursion}
use Rattle.std.proofs.lemmas.Bool.{cases_lt, cond-false}
use Rattle.std.proofs.lemmas.Bool.Decides.{nat_tests}
use Rattle.std.proofs.lemmas.List.{length-append, length-replicate, map-append, get_or-replicate, get_or_past}
use Rattle.pun_base.specs.Memory.{Cell, or_else, joined}
use Rattle.elf_read.specs.declared.segment.Segment.{Segment}
use Rattle.elf_read.specs.Entries.{segments, is_load, loads, table}
use Rattle.elf_read.specs.Image.{Chunk, chunk_of, image, image_of}
use Rattle.elf_read.specs.Writing.{load_entry}
use Rattle.elf_read.proofs.FileSlices.{slice_past, slice_middle}
use Rattle.elf_read.proofs.FileTables.{length-table}
use Rattle.elf_read.proofs.ChunkImages.{image-append, chunk_with, filter-is_load}
use Rattle.elf_emit.specs.Job.{Part, Frame}
use Rattle.elf_emit.specs.Frames.{slice, padded, up, olds, is_other, count, is_moved, renewed, content, moved_part, moved_at, table_at, private_at, private_len, pages_at, table_load, private_load, part_load, with_table, new_loads, in_order, entries, original_part, layout}
use Rattle.elf_emit.specs.FrameLaws.{IsPart, IsFrame, part_chunk, parts_image, loaded, table_image, private_image}
use Rattle.elf_emit.specs.Views.{InFile}
use Rattle.elf_emit.proofs.PlacedSlices.{length_padded}
use Rattle.elf_emit.proofs.StayingSegments.{all_map, all_both}
use Rattle.elf_emit.proofs.OriginalFacts.{Facts, length_original, kept_found}
use Rattle.elf_emit.proofs.WrittenTable.{front, after_table, layout_parts, layout_slice, length_front, length_entries, reads_back, all_order, all_append, all_mapped}
use Rattle.elf_emit.proofs.OriginalChunks.{chunk_after, chunks_found, olds_after}
use Rattle.elf_emit.proofs.DisjointLoads.{renewed_keeps, loads_apart, order_image}

-- the entries that aren't PT_LOAD load nothing
other_load : (b c : Bool) (s : Segment) (xs ys : List Segment) → filter is_load xs ≡ ys → is_load s ≡ (b && c) → filter is_load (cond (not b) (s ∷ xs) xs) ≡ ys
other_load true c s xs ys e f = e
other_load false c s xs ys e f = cond-false (is_load s) _ _ f ∙ e

tabled_kind : (at size : ℕ) (s : Segment) → (with_table at size s).kind ≡ s.kind
tabled_kind at size s = step (s.kind == 6)
  where
    step : (b : Bool) → (cond b (record s { offset = at; vaddr = 0x10000; paddr = 0x10000; filesz = size; memsz = size }) s).kind ≡ s.kind
    step true = refl
    step false = refl

front_cons : (f : Segment → Segment) (b : Bool) (s : Segment) (xs ys : List Segment) → map f (cond b (s ∷ xs) xs) ++ ys ≡ cond b (f s ∷ (map f xs ++ ys)) (map f xs ++ ys)
front_cons f true s xs ys = refl
front_cons f false s xs ys = refl

-- entries that aren't PT_LOAD, in front of others, add nothing to what is loaded
pub loads_after : (at size : ℕ) (es xs : List Segment) → filter is_load (map (with_table at size) (filter is_other es) ++ xs) ≡ filter is_load xs
loads_after at size [] xs = refl
loads_after at size (s ∷ es) xs =
    ap (λ (z : List Segment). filter is_load z) (front_cons (with_table at size) (is_other s) s (filter is_other es) xs)
    ∙ other_load (s.kind == 1) (nat_lt 0 (with_table at size s).memsz) (with_table at size s) (map (with_table at size) (filter is_other es) ++ xs) (filter is_load xs) (loads_after at size es xs)
    (ap (λ (k : ℕ). (k == 1) && nat_lt 0 (with_table at size s).memsz) (tabled_kind at size s))

-- the new loads are loaded
new_is_load : (flags offset vaddr size : ℕ) → 0 < size → is_load (load_entry flags offset vaddr size) ≡ true
new_is_load flags offset vaddr size l = grind (arith, nat_tests)

olds_load : (ss : List Segment) → AllByRecursion (λ s. is_load s ≡ true) (filter is_load ss)
olds_load [] = tt
olds_load (s ∷ ss) = step (is_load s) refl (olds_load ss)
  where
    step : (b : Bool) → is_load s ≡ b → AllByRecursion (λ t. is_load t ≡ true) (filter is_load ss) → AllByRecursion (λ t. is_load t ≡ true) (cond b (s ∷ filter is_load ss) (filter is_load ss))
    step true e r = (e, r)
    step false e r = r

-- each new PT_LOAD is loaded
pub all_loads : (j : Frame) → IsFrame j → AllByRecursion (λ s. is_load s ≡ true) (new_loads j)
all_loads j h =
    let w = h.private_some in (
      new_is_load 4 (table_at j) 0x10000 (56 * count j) (omega arith),
      (
        new_is_load 6 (private_at j) j.private_lo (private_len j) (omega arith),
        all_append (λ s. is_load s ≡ true) (map (part_load (pages_at j)) j.parts) (renewed (olds j) (moved_at j) (olds j))
            (all_mapped (λ s. is_load s ≡ true) (part_load (pages_at j)) j.parts
            (all_map (IsPart j.private_lo j.private_hi j.files) (λ r. is_load (part_load (pages_at j) r) ≡ true) j.parts (λ r k. new_is_load r.perms (pages_at j + 4096 * r.first) r.addr (4096 * r.count) (let q = k.some in omega arith)) h.parts))
            (renewed_keeps (λ s. is_load s ≡ true) (olds j) (olds j) (moved_at j) (λ s to k. k) (olds_load (segments j.orig))),
      ),
    )

-- the written file's nonempty PT_LOADs are the new ones in order
pub loads_back : (j : Frame) → Facts j → IsFrame j → loads (segments (layout j)) ≡ in_order (new_loads j)
loads_back j f h =
    ap (λ (z : List Segment). loads z) (reads_back j f h)
    ∙ loads_after (table_at j) (56 * count j) (segments j.orig) (in_order (new_loads j))
    ∙ filter-is_load (in_order (new_loads j)) (all_order (λ s. is_load s ≡ true) (new_loads j) (all_loads j h))

-- the table has 56 bytes for each entry
pub length_tables : (j : Frame) → length (table (entries j)) ≡ 56 * count j
length_tables j = length-table (entries j) ∙ ap (λ (n : ℕ). 56 * n) (length_entries j)

-- the table, filled to whole pages, has as many bytes as its place tells
pub length_third : (j : Frame) → length (padded (table (entries j))) ≡ up (56 * count j)
length_third j = length_padded (table (entries j)) ∙ ap up (length_tables j)

-- five lists are the first three, one behind the other, and then the other two
pub behind_table : (a m t p g : List ℕ) → a ++ (m ++ (t ++ (p ++ g))) ≡ ((a ++ m) ++ t) ++ (p ++ g)
behind_table a m t p g = simp append_assoc

behind_private : (a m t p g : List ℕ) → a ++ (m ++ (t ++ (p ++ g))) ≡ (((a ++ m) ++ t) ++ p) ++ g
behind_private a m t p g = simp append_assoc

-- the file up to the private range
abbrev pub to_private : Frame → List ℕ
to_private j = front j ++ padded (table (entries j))

-- the file up to the pages behind the private range
abbrev pub to_pages : Frame → List ℕ
to_pages j = to_private j ++ replicate (private_len j) 0

-- what stands in front of the private range ends where it begins
pub length_to_private : (j : Frame) → Facts j → length (to_private j) ≡ private_at j
length_to_private j f = length-append (front j) (padded (table (entries j))) ∙ (λ i. length_front j f i + length_third j i)

-- what stands in front of the pages behind the private range ends where they begin
pub length_to_pages : (j : Frame) → Facts j → length (to_pages j) ≡ pages_at j
length_to_pages j f = length-append (to_private j) (replicate (private_len j) 0) ∙ (λ i. length_to_private j f i + length-replicate {A = ℕ} (private_len j) 0 i)

-- the file is what stands in front of these pages, and they
pub layout_pages : (j : Frame) → layout j ≡ to_pages j ++ j.body
layout_pages j = behind_private (padded (original_part j)) (moved_part j) (padded (table (entries j))) (replicate (private_len j) 0) j.body

table_part : (j : Frame) → Facts j → slice (56 * count j) (table_at j) (layout j) ≡ table (entries j)
table_part j f =
    ap (λ (z : List ℕ). slice (56 * count j) (table_at j) z) (layout_parts j)
    ∙ slice_middle (56 * count j) (table_at j) (front j) (table (entries j)) (after_table j) (length_front j f) (length_tables j)

private_part : (j : Frame) → Facts j → slice (private_len j) (private_at j) (layout j) ≡ replicate (private_len j) 0
private_part j f =
    ap (λ (z : List ℕ). slice (private_len j) (private_at j) z) (behind_table (padded (original_part j)) (moved_part j) (padded (table (entries j))) (replicate (private_len j) 0) j.body)
    ∙ slice_middle (private_len j) (private_at j) (to_private j) (replicate (private_len j) 0) j.body (length_to_private j f) (length-replicate {A = ℕ} (private_len j) 0)

-- a part of the file from these pages on is a part of them
pub pages_part : (n x : ℕ) (j : Frame) → Facts j → slice n (pages_at j + x) (layout j) ≡ slice n x j.body
pages_part n x j f =
    ap (λ (z : List ℕ). slice n (pages_at j + x) z) (layout_pages j)
    ∙ slice_past n (pages_at j) x (to_pages j) j.body (length_to_pages j f)

parts_part : (j : Frame) → Facts j → (rs : List Part) → AllByRecursion (IsPart j.private_lo j.private_hi j.files) rs
    → map (chunk_of (layout j)) (map (part_load (pages_at j)) rs) ≡ map (part_chunk j.body) rs
parts_part j f [] h = refl
parts_part j f (r ∷ rs) h =
    let shown = pages_part (4096 * r.count) (4096 * r.first) j f in
    let few = h.0.perms in
    let perms : r.perms % 8 ≡ r.perms = omega (arith, few) in
    let later = parts_part j f rs h.1 in
    λ i. record { lo = r.addr; size = 4096 * r.count; perms = perms i; bytes = shown i } ∷ later i

-- the original's segments

-- the original's segments show, at their new places in the file, their bytes after all writes
pub olds_part : (j : Frame) → Facts j → map (chunk_of (layout j)) (renewed (olds j) (moved_at j) (olds j)) ≡ map (chunk_after j.writes) (map (chunk_of j.orig) (olds j))
olds_part j f =
    let n = length_original j f in
    chunks_found j.writes j.orig (olds j) (olds j) (layout j) (padded (original_part j)) _ (moved_at j) (length_padded (original_part j) ∙ ap up n) f.inside
    (all_map (λ s. InFile (length j.orig) s × (is_moved (olds j) s ≡ false → slice s.filesz s.offset (original_part j) ≡ content j.writes j.orig s))
    (λ s. is_moved (olds j) s ≡ false → slice s.filesz s.offset (layout j) ≡ content j.writes j.orig s) (olds j)
    (λ s k m. layout_slice s.filesz s.offset j (let q = k.0 in omega arith) ∙ k.1 m)
    (all_both (InFile (length j.orig)) (λ s. is_moved (olds j) s ≡ false → slice s.filesz s.offset (original_part j) ≡ content j.writes j.orig s) (olds j) f.inside (kept_found j f)))
    refl

-- zeros are what stands past the end of no bytes
zero_byte : (n k : ℕ) → slice_index (replicate n 0) k ≡ 0
zero_byte n k = elim (cases_lt k n) [
  | inl l ↦ get_or-replicate n k 0 0 l
  | inr l ↦ get_or_past (replicate n 0) k 0 (let e = length-replicate {A = ℕ} n 0 in omega arith)
]

private_zero : (j : Frame) (a : ℕ) → image (record { lo = j.private_lo; size = private_len j; perms = 6; bytes = replicate (private_len j) 0 } ∷ []) a ≡ private_image j a
private_zero j a = λ i. cond (nat_le j.private_lo a && nat_lt (a - j.private_lo) (private_len j)) (Some (record { byte = zero_byte (private_len j) (a - j.private_lo) i; perms = 6 })) None

assemble : (f : Segment → Chunk) (a : ℕ) (t p : Segment) (rs os : List Segment) (tc pc : Chunk) (rcs ocs : List Chunk) → f t ≡ tc → f p ≡ pc → map f rs ≡ rcs → map f os ≡ ocs → image (map f (t ∷ p ∷ (rs ++ os))) a ≡ joined (image (tc ∷ [])) (joined (image (pc ∷ [])) (joined (image rcs) (image ocs))) a
assemble f a t p rs os tc pc rcs ocs e1 e2 e3 e4 =
    let many : map f (rs ++ os) ≡ rcs ++ ocs = map-append f rs os ∙ (λ i. e3 i ++ e4 i) in
    let all : map f (t ∷ p ∷ (rs ++ os)) ≡ tc ∷ pc ∷ (rcs ++ ocs) = λ i. e1 i ∷ e2 i ∷ many i in
    ap (λ (cs : List Chunk). image cs a) all
    ∙ image-append (tc ∷ []) (pc ∷ (rcs ++ ocs)) a
    ∙ ap (λ (o : Option Cell). or_else (image (tc ∷ []) a) o) (image-append (pc ∷ []) (rcs ++ ocs) a ∙ ap (λ (o : Option Cell). or_else (image (pc ∷ []) a) o) (image-append rcs ocs a))

-- the image of the written file is the parts' together, address by address
pub loads_as : (j : Frame) → Facts j → IsFrame j → (a : ℕ) → image_of (layout j) a ≡ loaded j a
loads_as j f h a =
    let w = layout j in
    let t = chunk_with (layout j) (table (entries j)) (table_load j) (table_part j f) in
    let p = chunk_with (layout j) (replicate (private_len j) 0) (private_load j) (private_part j f) in
    ap (λ (z : List Segment). image (map (chunk_of (layout j)) z) a) (loads_back j f h)
    ∙ order_image (layout j) a (new_loads j) (loads_apart j h f)
    ∙ assemble (chunk_of (layout j)) a (table_load j) (private_load j) (map (part_load (pages_at j)) j.parts) (renewed (olds j) (moved_at j) (olds j)) _ _ _ _ t p (parts_part j f j.parts h.parts) (olds_part j f)
    ∙ (λ i. or_else (table_image j a) (or_else (private_zero j a i) (or_else (parts_image j a) (olds_after j.writes j.orig (olds j) a f.ascends f.placed f.inside h.backed i))))
