-- What a plain file loads: its text at 0x401000, and nothing else.
use Rattle.std.proofs.Common.{refl, Bool, true, ◌≡◌, ℕ, ◌+◌, ◌-◌, ◌^◌, ◌<◌, ◌≤◌, cond, nat_le, nat_lt, ◌&&◌, List, [], ◌∷◌, ◌++◌, length, take, drop, map, replicate, slice_index, Some, None, sym, ap, ◌∙◌, arith, append-nil, lit<}
use Rattle.std.proofs.lemmas.Bool.{lt-ltb}
use Rattle.std.proofs.lemmas.Bool.Decides.{nat_tests}
use Rattle.std.proofs.lemmas.List.{drop_at, take_all}
use Rattle.elf_read.specs.declared.segment.Segment.{Segment}
use Rattle.elf_read.specs.Entries.{Fits, is_load, segments, table, spelled, entry_of}
use Rattle.elf_read.specs.Image.{Chunk, chunk_of, chunks, image, image_of}
use Rattle.elf_read.specs.Plain.{header, text_segment, plain_front, plain_file, IsText, text_image}
use Rattle.elf_read.proofs.FileTables.{length-header, entry_of-header, segments-header}
use Rattle.elf_read.proofs.ChunkImages.{filter-is_load, chunk_with}
use Rattle.elf_read.proofs.PlainFronts.{plain_file_parts, length-plain_front}

-- the numbers of a text's entry fit its fields
pub Fits-text_segment : (n : ℕ) → n < 2 ^ 64 → Fits (text_segment n)
Fits-text_segment n l = record {
  kind = lit< tt;
  flags = lit< tt;
  offset = lit< tt;
  vaddr = lit< tt;
  paddr = lit< tt;
  filesz = l;
  memsz = l;
  align = lit< tt;
}

-- the file as its header, its table of one entry, and the rest
header_first : (n : ℕ) (text : List ℕ) → plain_front n ++ text ≡ header 64 1 ++ (table (text_segment n ∷ []) ++ (replicate 3976 0 ++ text))
header_first n text =
    plain_file_parts n text ∙ ap (λ (x : List ℕ). header 64 1 ++ (x ++ (replicate 3976 0 ++ text))) (sym (append-nil (spelled (text_segment n))))

-- the table of a plain file has one entry, that of its text
pub segments-plain_file : (text : List ℕ) → length text < 2 ^ 64 → segments (plain_file text) ≡ text_segment (length text) ∷ []
segments-plain_file text l =
    let w = header_first (length text) text in
    segments-header 64 1 (plain_file text) _ (header 64 1) (replicate 3976 0 ++ text) (text_segment (length text) ∷ []) w w
    (length-header 64 1) refl (lit< tt) (lit< tt) (Fits-text_segment (length text) l, tt)

-- the entry of a text that isn't empty is loaded
pub is_load-text_segment : (n : ℕ) → 1 ≤ n → is_load (text_segment n) ≡ true
is_load-text_segment n l = lt-ltb 0 n l

same_test : (lo n a : ℕ) → (nat_le lo a && nat_lt (a - lo) n) ≡ (nat_le lo a && nat_lt a (lo + n))
same_test lo n a = grind (arith, nat_tests)

text_back : (text : List ℕ) → take (length text) (drop 0x1000 (plain_file text)) ≡ text
text_back text =
    ap (λ (z : List ℕ). take (length text) z) (drop_at (plain_front (length text)) text 4096 (length-plain_front (length text)))
    ∙ take_all (length text) text (omega arith)

image_one : (text : List ℕ) (a : ℕ) → image (record { lo = 0x401000; size = length text; perms = 5; bytes = text } ∷ []) a ≡ text_image text a
image_one text a =
    let t = same_test 0x401000 (length text) a in
    ap (λ (b : Bool). cond b (Some (record { byte = slice_index text (a - 0x401000); perms = 5 })) None) t

-- a plain file loads its text at 0x401000, and nothing else
pub plain_image : (text : List ℕ) → IsText text → (a : ℕ) → image_of (plain_file text) a ≡ text_image text a
plain_image text h a =
    let most = h.1 in
    let s = text_segment (length text) in
    ap (λ (ss : List Segment). image (chunks (plain_file text) ss) a) (segments-plain_file text (omega arith))
    ∙ ap (λ (ss : List Segment). image (map (chunk_of (plain_file text)) ss) a) (filter-is_load (s ∷ []) (is_load-text_segment (length text) h.0, tt))
    ∙ ap (λ (c : Chunk). image (c ∷ []) a) (chunk_with (plain_file text) text s (text_back text))
    ∙ image_one text a

-- a plain file starts at 0x401000
pub plain_entry : (text : List ℕ) → entry_of (plain_file text) ≡ 0x401000
plain_entry text = ap (λ (z : List ℕ). entry_of z) (header_first (length text) text) ∙ entry_of-header 64 1 _
