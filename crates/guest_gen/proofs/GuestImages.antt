-- What the file of a guest loads: its text and its page of data.
use Rattle.std.proofs.Common.{◌≡◌, ℕ, zero, suc, ◌+◌, ◌-◌, ◌^◌, ◌<◌, ◌≤◌, false, ◌&&◌, cond, nat_le, nat_lt, List, [], ◌∷◌, ◌++◌, length, take, drop, map, replicate, slice_index, Option, Some, None, refl, sym, ap, ◌∙◌, arith, append_assoc, length-append, lit<}
use Rattle.std.proofs.lemmas.Bool.Decides.{nat_tests}
use Rattle.std.proofs.lemmas.List.{drop_at, take_all, length-replicate}
use Rattle.pun_base.specs.Memory.{Cell, Bytes, joined}
use Rattle.cpu_state.specs.Adding.{laid}
use Rattle.elf_read.specs.declared.segment.Segment.{Segment}
use Rattle.elf_read.specs.Entries.{Fits, segments, table, table_place, table_count, spelled, entry_of}
use Rattle.elf_read.specs.Image.{Chunk, chunk_of, chunks, image, image_of}
use Rattle.elf_read.specs.Plain.{header, text_segment}
use Rattle.elf_read.specs.Writing.{header_of, file_with}
use Rattle.elf_read.proofs.PlainFronts.{filled_parts}
use Rattle.elf_read.proofs.FileTables.{length-spelled, segments_read}
use Rattle.elf_read.proofs.ChunkImages.{filter-is_load, chunk_with, image-cons}
use Rattle.elf_read.proofs.PlainImages.{Fits-text_segment, is_load-text_segment}
use Rattle.guest_gen.specs.Instructions.{text_start, blocks_start, data_start}
use Rattle.guest_gen.specs.Files.{guest_header, guest_front, data_segment, file_of}
use Rattle.guest_gen.specs.Starting.{start_memory}

-- ---- the file in parts

-- the header has 64 bytes
pub length-header : length guest_header ≡ 64
unfolding guest_header header_of header
length-header = refl

-- the table stands behind it
place_is : (rest : List ℕ) → table_place (guest_header ++ rest) ≡ 64
unfolding guest_header header_of header table_place
place_is rest = refl

-- and has two entries
count_is : (rest : List ℕ) → table_count (guest_header ++ rest) ≡ 2
unfolding guest_header header_of header table_count
count_is rest = refl

-- the program starts at the first block
entry_is : (rest : List ℕ) → entry_of (guest_header ++ rest) ≡ blocks_start
unfolding guest_header header_of header entry_of
entry_is rest = refl

-- the two entries
abbrev pub both : ℕ → List Segment
both n = text_segment n ∷ data_segment ∷ []

-- four parts, joined from the right
four_parts : (a b c d : List ℕ) → (a ++ (b ++ c)) ++ d ≡ a ++ (b ++ (c ++ d))
four_parts a b c d = append_assoc a (b ++ c) d ∙ ap (λ (z : List ℕ). a ++ z) (append_assoc b c d)

-- the file as its header, its table, and the rest
pub file_parts : (text : List ℕ) → file_of text ≡ guest_header ++ (table (both (length text)) ++ (replicate 3920 0 ++ text))
unfolding guest_front
file_parts text = four_parts guest_header (table (both (length text))) (replicate 3920 0) text

-- the table has 112 bytes
length_table : (n : ℕ) → length (table (both n)) ≡ 112
length_table n =
    let a = length-append (spelled (text_segment n)) (spelled data_segment ++ []) in
    let b = length-append (spelled data_segment) [] in
    let c = length-spelled (text_segment n) in
    let d = length-spelled data_segment in
    omega arith

-- bytes of three parts
parts_length : (a b c : List ℕ) → length (a ++ (b ++ c)) ≡ length a + (length b + length c)
parts_length a b c = length-append a (b ++ c) ∙ ap (λ (n : ℕ). length a + n) (length-append b c)

-- the text stands at 4,096
pub length-front : (n : ℕ) → length (guest_front n) ≡ 4096
unfolding guest_front
length-front n =
    let a = parts_length guest_header (table (both n)) (replicate 3920 0) in
    let b = length-header in
    let c = length_table n in
    let d = length-replicate {A = ℕ} 3920 0 in
    omega arith

-- the file is that of its two entries
pub file_made : (text : List ℕ) → file_with blocks_start (both (length text)) 0x1000 text ≡ file_of text
unfolding guest_front guest_header
file_made text =
    let ss = table (both (length text)) in
    ap (λ (z : List ℕ). z ++ text) (filled_parts guest_header ss 0x1000 3920 (omega (arith, length-header, length_table (length text)))
    ∙ append_assoc guest_header ss (replicate 3920 0))

-- bytes of the file
pub length_file : (text : List ℕ) → length (file_of text) ≡ 4096 + length text
length_file text = length-append (guest_front (length text)) text ∙ ap (λ (k : ℕ). k + length text) (length-front (length text))

-- ---- its entries and its image

-- the numbers of the second entry fit its fields
Fits-data : Fits data_segment
Fits-data = record {
  kind = lit< tt;
  flags = lit< tt;
  offset = lit< tt;
  vaddr = lit< tt;
  paddr = lit< tt;
  filesz = lit< tt;
  memsz = lit< tt;
  align = lit< tt;
}

-- the entries of the file
pub segments-file : (text : List ℕ) → length text < 2 ^ 64 → segments (file_of text) ≡ both (length text)
segments-file text l =
    let w = file_parts text in
    segments_read 64 (file_of text) guest_header (replicate 3920 0 ++ text) (both (length text)) w length-header
    (ap (λ (z : List ℕ). table_place z) w ∙ place_is _) (ap (λ (z : List ℕ). table_count z) w ∙ count_is _)
    (Fits-text_segment (length text) l, (Fits-data, tt))

-- where the program starts
pub entry-file : (text : List ℕ) → entry_of (file_of text) ≡ blocks_start
entry-file text = ap (λ (z : List ℕ). entry_of z) (file_parts text) ∙ entry_is _

-- the text is found in the file
text_back : (text : List ℕ) → take (length text) (drop 0x1000 (file_of text)) ≡ text
text_back text =
    ap (λ (z : List ℕ). take (length text) z) (drop_at (guest_front (length text)) text 4096 (length-front (length text)))
    ∙ take_all (length text) text (omega arith)

-- a zero or nothing
zeros_index : (n i : ℕ) → slice_index (replicate n 0) i ≡ 0
zeros_index zero i = refl
zeros_index (suc n) zero = refl
zeros_index (suc n) (suc i) = zeros_index n i

-- a byte of the page of data, where it has so many
abbrev data_cell : ℕ → ℕ → ℕ → Option Cell
data_cell a b size = cond (nat_le data_start a && nat_lt (a - data_start) size) (Some (record { byte = b; perms = 6 })) None

-- zeros are what a segment without a byte in the file loads
zeros_laid : (n : ℕ) → laid data_start 6 (replicate n 0) ≡ image (record { lo = data_start; size = n; perms = 6; bytes = [] } ∷ [])
zeros_laid n = λ i a.
    (ap (data_cell a (slice_index (replicate n 0) (a - data_start))) (length-replicate {A = ℕ} n 0)
    ∙ ap (λ (b : ℕ). data_cell a b n) (zeros_index n (a - data_start))) i

-- what the two entries load
abbrev text_chunk : List ℕ → Chunk
text_chunk text = record { lo = text_start; size = length text; perms = 5; bytes = text }

abbrev data_chunk : Chunk
data_chunk = record { lo = data_start; size = 0x1000; perms = 6; bytes = [] }

-- both together
two_chunks : (text : List ℕ) (a : ℕ) → image (text_chunk text ∷ data_chunk ∷ []) a ≡ joined (laid text_start 5 text)
    (image (data_chunk ∷ [])) a
two_chunks text a = image-cons (text_chunk text) (data_chunk ∷ []) a

-- the image of a guest's file is the memory that it starts with
pub image-file : (text : List ℕ) → 1 ≤ length text → length text < 2 ^ 64 → image_of (file_of text) ≡ start_memory text
unfolding start_memory
image-file text some few = λ i a.
    (let file = file_of text in
    let s = text_segment (length text) in
    ap (λ (ss : List Segment). image (chunks file ss) a) (segments-file text few)
    ∙ ap (λ (ss : List Segment). image (map (chunk_of file) ss) a) (filter-is_load (both (length text))
    (is_load-text_segment (length text) some, (refl, tt)))
    ∙ ap (λ (c : Chunk). image (c ∷ data_chunk ∷ []) a) (chunk_with file text s (text_back text))
    ∙ two_chunks text a
    ∙ ap (λ (m : Bytes). joined (laid text_start 5 text) m a) (sym (zeros_laid 0x1000))) i

-- ---- the memory at the start

-- behind the text nothing of it stands
pub past_text : (text : List ℕ) (a : ℕ) → length text ≤ 1048576 → data_start ≤ a → laid text_start 5 text a ≡ None
past_text text a l h =
    let f : (nat_le text_start a && nat_lt (a - text_start) (length text)) ≡ false = grind (arith, nat_tests) in
    rw f refl

-- two regions
pub two_regions : (m n : Bytes) (text zeros : List ℕ) → n ≡ laid text_start 5 text → m ≡ joined n (laid data_start 6 zeros)
    → m ≡ joined (laid text_start 5 text) (laid data_start 6 zeros)
two_regions m n text zeros e f = f ∙ ap (λ (z : Bytes). joined z (laid data_start 6 zeros)) e
