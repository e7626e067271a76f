-- What a settled file loads: its front, and what the file loads, moved by the base.
use Rattle.std.proofs.Common.{◌≡◌, ℕ, ◌+◌, ◌-◌, ◌%◌, ◌^◌, ◌<◌, ◌≤◌, Bool, true, false, cond, ◌&&◌, ◌||◌, ◌==◌, nat_lt, nat_le, List, [], ◌∷◌, ◌++◌, length, take, drop, map, replicate, slice_index, Some, None, refl, sym, ap, ◌∙◌, arith, append_assoc, lit<}
use Rattle.std.specs.List.{AllByRecursion}
use Rattle.std.proofs.lemmas.Bool.{cond-true, cond-false, lt-ltb, leb-true}
use Rattle.std.proofs.lemmas.Bool.Decides.{nat_tests}
use Rattle.std.proofs.lemmas.List.{take_at}
use Rattle.pun_base.specs.Memory.{or_else}
use Rattle.elf_read.specs.declared.segment.Segment.{Segment}
use Rattle.elf_read.specs.Entries.{Fits, entry_of, table_place, table_count, is_load, loads, segments, table}
use Rattle.elf_read.specs.Image.{Chunk, holds, image, chunk_of, chunks}
use Rattle.elf_read.proofs.FileSlices.{slice_past}
use Rattle.elf_read.proofs.FileTables.{segments_read}
use Rattle.elf_read.proofs.ChunkImages.{image-cons, chunk_with}
use Rattle.settle.specs.Lengths.{used_len, front_len}
use Rattle.settle.specs.Sections.{section_tail, front_header}
use Rattle.settle.specs.Settled.{is_hidden, moved, front_entry, settled_table, own_table, stub_at, front_parts, front_with, front, settled, moved_image, front_image}
use Rattle.settle.specs.Laws.{IsRoomy, SettledLoads}
use Rattle.settle.proofs.FrontParts.{length-front_header, length-settled_table, length-front_parts, length-front_with, used_fits, behind_table, parts_with, place-front_header, count-front_header}

-- the front is small
pub front_small : (n : ℕ) → n + 1 < 2 ^ 16 → front_len n < 2 ^ 32
unfolding front_len used_len
front_small n l = omega arith

-- and has something
pub used_some : (n : ℕ) → 0 < used_len n
unfolding used_len
used_some n = omega arith

-- a moved entry's numbers fit
Fits-moved : (p b : ℕ) (s : Segment) → Fits s → Fits (moved p b s)
Fits-moved p b s h = record {
  kind = kind (is_hidden s);
  flags = h.flags;
  offset = omega arith;
  vaddr = omega arith;
  paddr = omega arith;
  filesz = h.filesz;
  memsz = h.memsz;
  align = h.align;
}
  where
    kind : (t : Bool) → cond t 0 s.kind < 2 ^ 32
    kind true = lit< tt
    kind false = h.kind

all_moved : (p b : ℕ) (ss : List Segment) → AllByRecursion Fits ss → AllByRecursion Fits (map (moved p b) ss)
all_moved p b [] h = tt
all_moved p b (s ∷ ss) h = (Fits-moved p b s h.0, all_moved p b ss h.1)

Fits-front_entry : (b n : ℕ) → b < 2 ^ 64 → n + 1 < 2 ^ 16 → Fits (front_entry b n)
Fits-front_entry b n l m =
    let f = front_small n m in let u = used_fits n in
    record { kind = lit< tt; flags = lit< tt; offset = lit< tt; vaddr = omega arith; paddr = l; filesz = omega arith; memsz = omega arith; align = lit< tt }

-- the entries of a file with a front
pub segments_with : (b : ℕ) (file : List ℕ) (ss : List Segment) (phdr entry : ℕ) → b < 2 ^ 64 → length ss + 1 < 2 ^ 16 → AllByRecursion Fits ss
    → segments (front_with b file ss phdr entry ++ file) ≡ settled_table b ss
segments_with b file ss phdr entry base few fits =
    let n = length ss in let out = front_with b file ss phdr entry ++ file in
    let e = parts_with b file ss phdr entry in let rest = table (settled_table b ss) ++ behind_table b file ss phdr entry in
    segments_read 64 out (front_header (stub_at b n) n file) (behind_table b file ss phdr entry) (settled_table b ss) e
    (length-front_header (stub_at b n) n file) (ap table_place e ∙ place-front_header (stub_at b n) n file rest)
    (ap table_count e ∙ count-front_header (stub_at b n) n file rest few ∙ sym (length-settled_table b ss))
    (Fits-front_entry b n base few, all_moved (front_len n) b ss fits)

-- those of the settled file
pub segments-settled : (b : ℕ) (file : List ℕ) → b < 2 ^ 64 → length (segments file) + 1 < 2 ^ 16 → AllByRecursion Fits (segments file) → segments (settled b file) ≡ settled_table b (segments file)
segments-settled b file base few fits = segments_with b file (segments file) (own_table b file) (b + entry_of file) base few fits

-- a moved entry is loaded exactly where the entry is
pub kind_kept : (k : ℕ) → (cond ((k == 2) || (k == 6)) 0 k == 1) ≡ (k == 1)
kind_kept k = step ((k == 2) || (k == 6)) refl
  where
    step : (t : Bool) → ((k == 2) || (k == 6)) ≡ t → (cond t 0 k == 1) ≡ (k == 1)
    step true e = sym (grind (arith, nat_tests, e))
    step false e = refl

pub loads-moved : (p b : ℕ) (ss : List Segment) → loads (map (moved p b) ss) ≡ map (moved p b) (loads ss)
loads-moved p b [] = refl
loads-moved p b (s ∷ ss) = step (is_load s) (ap (λ t. t && nat_lt 0 s.memsz) (kind_kept s.kind)) (loads-moved p b ss)
  where
    step : (t : Bool) → is_load (moved p b s) ≡ t → loads (map (moved p b) ss) ≡ map (moved p b) (loads ss)
        → cond (is_load (moved p b s)) (moved p b s ∷ loads (map (moved p b) ss)) (loads (map (moved p b) ss)) ≡ map (moved p b) (cond t (s ∷ loads ss) (loads ss))
    step true e r = cond-true (is_load (moved p b s)) _ _ e ∙ ap (λ (z : List Segment). moved p b s ∷ z) r
    step false e r = cond-false (is_load (moved p b s)) _ _ e ∙ r

-- one chunk, moved
same_holds : (b lo n a : ℕ) → b ≤ a → (nat_le (lo + b) a && nat_lt (a - (lo + b)) n) ≡ (nat_le lo (a - b) && nat_lt (a - b - lo) n)
same_holds b lo n a l = grind (arith, nat_tests)

no_hold : (b lo n a : ℕ) → a < b → (nat_le (lo + b) a && nat_lt (a - (lo + b)) n) ≡ false
no_hold b lo n a l = grind (arith, nat_tests)

abbrev lifted : ℕ → Chunk → Chunk
lifted b c = record { lo = c.lo + b; size = c.size; perms = c.perms; bytes = c.bytes }

image-lifted : (b : ℕ) (cs : List Chunk) (a : ℕ) → image (map (lifted b) cs) a ≡ moved_image b (image cs) a
image-lifted b cs a = step (nat_le b a) refl cs
  where
    at_a : b ≤ a → (cs : List Chunk) → image (map (lifted b) cs) a ≡ image cs (a - b)
    at_a l [] = refl
    at_a l (c ∷ cs) =
        let t = same_holds b c.lo c.size a l in
        let e : a - (c.lo + b) ≡ a - b - c.lo = omega arith in
        let r = at_a l cs in
        λ i. cond (t i) (Some (record { byte = slice_index c.bytes (e i); perms = c.perms })) (r i)

    below : a < b → (cs : List Chunk) → image (map (lifted b) cs) a ≡ None
    below l [] = refl
    below l (c ∷ cs) = cond-false (holds (lifted b c) a) _ _ (no_hold b c.lo c.size a l) ∙ below l cs

    step : (t : Bool) → nat_le b a ≡ t → (cs : List Chunk) → image (map (lifted b) cs) a ≡ cond t (image cs (a - b)) None
    step true e cs = at_a (leb-true b a e) cs
    step false e cs = below (grind (arith, nat_tests, e)) cs

-- what a moved entry loads from a file behind a front
chunk-moved : (p b : ℕ) (before file : List ℕ) (s : Segment) → length before ≡ p → IsRoomy p b s → chunk_of (before ++ file) (moved p b s) ≡ lifted b (chunk_of file s)
chunk-moved p b before file s e h =
    let h0 = h.offset in let h1 = h.vaddr in
    let o : (s.offset + p) % 2 ^ 64 ≡ p + s.offset = omega arith in
    let v : (s.vaddr + b) % 2 ^ 64 ≡ s.vaddr + b = omega arith in
    let t = ap (λ (k : ℕ). take s.filesz (drop k (before ++ file))) o ∙ slice_past s.filesz p s.offset before file e in
    λ i. record { lo = v i; size = s.memsz; perms = s.flags % 8; bytes = t i }

chunks-moved : (p b : ℕ) (before file : List ℕ) (ss : List Segment) → length before ≡ p → AllByRecursion (IsRoomy p b) ss
    → map (chunk_of (before ++ file)) (map (moved p b) ss) ≡ map (lifted b) (map (chunk_of file) ss)
chunks-moved p b before file [] e h = refl
chunks-moved p b before file (s ∷ ss) e h =
    let c = chunk-moved p b before file s e h.0 in let r = chunks-moved p b before file ss e h.1 in
    λ i. c i ∷ r i

-- what the front's entry loads
front_chunk : (b : ℕ) (file : List ℕ) → take (used_len (length (segments file))) (settled b file) ≡ front_parts b file (segments file) (own_table b file) (b + entry_of file)
front_chunk b file =
    let ss = segments file in let n = length ss in let x = front_parts b file ss (own_table b file) (b + entry_of file) in
    let z = replicate (front_len n - length (x ++ section_tail n file)) 0 in
    ap (λ (y : List ℕ). take (used_len n) y) (append_assoc (x ++ section_tail n file) z file ∙ append_assoc x (section_tail n file) (z ++ file))
    ∙ take_at x (section_tail n file ++ (z ++ file)) (used_len n) (length-front_parts b file ss (own_table b file) (b + entry_of file))

-- the image of the settled file
pub settled_loads : SettledLoads
settled_loads b file h a =
    let ss = segments file in let n = length ss in let p = front_len n in let out = settled b file in
    let e = front_entry b n in
    let l : is_load e ≡ true = lt-ltb 0 (used_len n) (used_some n) in
    let first = chunk_with out (front_parts b file ss (own_table b file) (b + entry_of file)) e (front_chunk b file) in
    let others : map (chunk_of out) (loads (map (moved p b) ss)) ≡ map (lifted b) (chunks file ss) =
    ap (map (chunk_of out)) (loads-moved p b ss) ∙ chunks-moved p b (front b file) file (loads ss) (length-front_with b file ss (own_table b file) (b + entry_of file)) h.roomy in
    ap (λ (z : List Segment). image (chunks out z) a) (segments-settled b file h.base h.few h.fits)
    ∙ ap (λ (z : List Segment). image (map (chunk_of out) z) a) (cond-true (is_load e) (e ∷ loads (map (moved p b) ss)) (loads (map (moved p b) ss)) l)
    ∙ (λ i. image (first i ∷ others i) a)
    ∙ image-cons _ (map (lifted b) (chunks file ss)) a
    ∙ ap (or_else (front_image b file a)) (image-lifted b (chunks file ss) a)
