-- Fields of a file, its header and its table are read back as they were written.
use Rattle.std.proofs.Common.{◌≡◌, ℕ, zero, suc, ◌+◌, ◌*◌, ◌^◌, ◌<◌, List, [], ◌∷◌, ◌++◌, length, drop, refl, ap, ◌∙◌, arith, append_assoc}
use Rattle.std.proofs.lemmas.List.{length-append}
use Rattle.std.specs.List.{AllByRecursion}
use Rattle.byteorder.specs.Endian.{little_number, little_bytes}
use Rattle.byteorder.specs.Numbers.{little_number-reads_back}
use Rattle.pun_base.specs.Field.{field}
use Rattle.elf_read.specs.declared.segment.Segment.{Segment}
use Rattle.elf_read.specs.Entries.{Fits, segment_at, segments_from, table_place, table_count, segments, entry_of, spelled, table}
use Rattle.elf_read.specs.Plain.{header}
use Rattle.elf_read.proofs.FileSlices.{drop_past}

-- a field that lies past the front is read in the rest
pub field_past : (n p k : ℕ) (front rest : List ℕ) → length front ≡ p → field n (p + k) (front ++ rest) ≡ field n k rest
field_past n p k front rest e = ap (λ (z : List ℕ). little_number n z) (drop_past p k front rest e)

field_later : (n p k j : ℕ) (front rest : List ℕ) → length front ≡ p → field n (p + k + j) (front ++ rest) ≡ field n (k + j) rest
field_later n p k j front rest e =
    let m : p + k + j ≡ p + (k + j) = omega arith in
    ap (λ (z : ℕ). field n z (front ++ rest)) m ∙ field_past n p (k + j) front rest e

-- a field whose bytes spell a number is that number
pub field_written : (n k x : ℕ) (file rest : List ℕ) → drop k file ≡ little_bytes n x ++ rest → x < 256 ^ n → field n k file ≡ x
field_written n k x file rest e l = ap (λ (z : List ℕ). little_number n z) e ∙ little_number-reads_back n x rest l

-- an entry has 56 bytes
pub length-spelled : (s : Segment) → length (spelled s) ≡ 56
unfolding spelled
length-spelled s = refl

-- an entry whose numbers fit its fields is read back as it was spelled
pub segment_back : (s : Segment) (rest : List ℕ) → Fits s → segment_at (spelled s ++ rest) 0 ≡ s
unfolding segment_at spelled
segment_back s rest h =
    let r8 : List ℕ = rest in
    let r7 : List ℕ = little_bytes 8 s.align ++ r8 in
    let r6 : List ℕ = little_bytes 8 s.memsz ++ r7 in
    let r5 : List ℕ = little_bytes 8 s.filesz ++ r6 in
    let r4 : List ℕ = little_bytes 8 s.paddr ++ r5 in
    let r3 : List ℕ = little_bytes 8 s.vaddr ++ r4 in
    let r2 : List ℕ = little_bytes 8 s.offset ++ r3 in
    let r1 : List ℕ = little_bytes 4 s.flags ++ r2 in
    let file : List ℕ = spelled s ++ rest in
    let kind = field_written 4 0 s.kind file r1 refl h.kind in
    let flags = field_written 4 4 s.flags file r2 refl h.flags in
    let offset = field_written 8 8 s.offset file r3 refl h.offset in
    let vaddr = field_written 8 16 s.vaddr file r4 refl h.vaddr in
    let paddr = field_written 8 24 s.paddr file r5 refl h.paddr in
    let filesz = field_written 8 32 s.filesz file r6 refl h.filesz in
    let memsz = field_written 8 40 s.memsz file r7 refl h.memsz in
    let align = field_written 8 48 s.align file r8 refl h.align in
    λ i. record { kind = kind i; flags = flags i; offset = offset i; vaddr = vaddr i; paddr = paddr i; filesz = filesz i; memsz = memsz i; align = align i }

-- an entry behind a part of known length
pub segment_past : (front rest : List ℕ) (p k : ℕ) → length front ≡ p → segment_at (front ++ rest) (p + k) ≡ segment_at rest k
unfolding segment_at
segment_past front rest p k e =
    let at = λ (n j : ℕ). field_later n p k j front rest e in
    let kind = field_past 4 p k front rest e in
    λ i. record { kind = kind i; flags = at 4 4 i; offset = at 8 8 i; vaddr = at 8 16 i; paddr = at 8 24 i; filesz = at 8 32 i; memsz = at 8 40 i; align = at 8 48 i }

-- entries from k bytes past the front on are those of the rest from k bytes on
pub segments_past : (front rest : List ℕ) (p k n : ℕ) → length front ≡ p → segments_from (front ++ rest) (p + k) n ≡ segments_from rest k n
segments_past front rest p k zero e = refl
segments_past front rest p k (suc n) e =
    let first = segment_past front rest p k e in
    let m : p + k + 56 ≡ p + (k + 56) = omega arith in
    let later = ap (λ (z : ℕ). segments_from (front ++ rest) z n) m ∙ segments_past front rest p (k + 56) n e in
    λ i. first i ∷ later i

-- entries right behind the front are those at the start of the rest
pub segments_behind : (front rest : List ℕ) (p n : ℕ) → length front ≡ p → segments_from (front ++ rest) p n ≡ segments_from rest 0 n
segments_behind front rest p n e =
    let m : p ≡ p + 0 = omega arith in
    ap (λ (z : ℕ). segments_from (front ++ rest) z n) m ∙ segments_past front rest p 0 n e

-- a table at the start
pub segments_back : (ss : List Segment) (rest : List ℕ) → AllByRecursion Fits ss → segments_from (table ss ++ rest) 0 (length ss) ≡ ss
segments_back [] rest h = refl
segments_back (s ∷ ss) rest h =
    let g = append_assoc (spelled s) (table ss) rest in
    let first = ap (λ (z : List ℕ). segment_at z 0) g ∙ segment_back s (table ss ++ rest) h.0 in
    let later =
    ap (λ (z : List ℕ). segments_from z 56 (length ss)) g
    ∙ segments_behind (spelled s) (table ss ++ rest) 56 (length ss) (length-spelled s)
    ∙ segments_back ss rest h.1 in
    λ i. first i ∷ later i

-- a table behind a part of known length
pub table_back : (front rest : List ℕ) (p : ℕ) (ss : List Segment) → length front ≡ p → AllByRecursion Fits ss → segments_from (front ++ (table ss ++ rest)) p (length ss) ≡ ss
table_back front rest p ss e h = segments_behind front (table ss ++ rest) p (length ss) e ∙ segments_back ss rest h

-- a table between a front and a rest is read back
pub table_between : (front rest : List ℕ) (ss : List Segment) → AllByRecursion Fits ss → segments_from (front ++ table ss ++ rest) (length front) (length ss) ≡ ss
table_between front rest ss h =
    ap (λ (z : List ℕ). segments_from z (length front) (length ss)) (append_assoc front (table ss) rest)
    ∙ table_back front rest (length front) ss refl h

-- a table has 56 bytes for each entry
pub length-table : (ss : List Segment) → length (table ss) ≡ 56 * length ss
length-table [] = refl
length-table (s ∷ ss) = let r = length-table ss in omega (arith, length-append (spelled s) (table ss), length-spelled s)

-- the header has 64 bytes
pub length-header : (place count : ℕ) → length (header place count) ≡ 64
unfolding header
length-header place count = refl

-- the header tells where the table stands
pub table_place-header : (place count : ℕ) (rest : List ℕ) → place < 2 ^ 64 → table_place (header place count ++ rest) ≡ place
unfolding header table_place
table_place-header place count rest l = little_number-reads_back 8 place (drop 40 (header place count ++ rest)) l

-- the header tells how many entries the table has
pub table_count-header : (place count : ℕ) (rest : List ℕ) → count < 2 ^ 16 → table_count (header place count ++ rest) ≡ count
unfolding header table_count
table_count-header place count rest l = little_number-reads_back 2 count (drop 58 (header place count ++ rest)) l

-- the header tells that the program starts at 0x401000
pub entry_of-header : (place count : ℕ) (rest : List ℕ) → entry_of (header place count ++ rest) ≡ 0x401000
unfolding header entry_of
entry_of-header place count rest = refl

-- the entries of a file whose header tells where they stand
pub segments_read : (place : ℕ) (file front rest : List ℕ) (ss : List Segment) → file ≡ front ++ (table ss ++ rest) → length front ≡ place → table_place file ≡ place → table_count file ≡ length ss → AllByRecursion Fits ss → segments file ≡ ss
segments_read place file front rest ss w e p n h =
    (λ i. segments_from (w i) (p i) (n i)) ∙ table_back front rest place ss e h

-- the entries of a file that begins with a header of this place and count are those of the table there
pub segments-header : (place count : ℕ) (file after front rest : List ℕ) (ss : List Segment) → file ≡ header place count ++ after → file ≡ front ++ (table ss ++ rest) → length front ≡ place → count ≡ length ss → place < 2 ^ 64 → count < 2 ^ 16 → AllByRecursion Fits ss → segments file ≡ ss
segments-header place count file after front rest ss b w e n p c h =
    segments_read place file front rest ss w e
    (ap (λ (z : List ℕ). table_place z) b ∙ table_place-header place count after p)
    (ap (λ (z : List ℕ). table_count z) b ∙ table_count-header place count after c ∙ n) h
