-- Images of lists of chunks, and the chunks that entries load.
use Rattle.std.proofs.Common.{◌≡◌, ℕ, ◌%◌, Bool, true, false, cond, List, [], ◌∷◌, ◌++◌, take, drop, filter, Option, Some, refl, ap, ◌∙◌}
use Rattle.std.specs.List.{AllByRecursion}
use Rattle.std.proofs.lemmas.Bool.{cond-true}
use Rattle.pun_base.specs.Memory.{Cell, or_else, joined}
use Rattle.elf_read.specs.declared.segment.Segment.{Segment}
use Rattle.elf_read.specs.Entries.{is_load}
use Rattle.elf_read.specs.Image.{Chunk, holds, cell_in, image, chunk_of}

joined_step : (b : Bool) (x : Cell) (y z w : Option Cell) → y ≡ or_else z w → cond b (Some x) y ≡ or_else (cond b (Some x) z) w
joined_step true x y z w e = refl
joined_step false x y z w e = e

-- an image by parts
pub image-append : (cs ds : List Chunk) (a : ℕ) → image (cs ++ ds) a ≡ joined (image cs) (image ds) a
image-append [] ds a = refl
image-append (c ∷ cs) ds a = joined_step (holds c a) (cell_in c a) (image (cs ++ ds) a) (image cs a) (image ds a) (image-append cs ds a)

-- the image of chunks is the first chunk's, and that of the others where it has nothing
pub image-cons : (c : Chunk) (cs : List Chunk) (a : ℕ) → image (c ∷ cs) a ≡ joined (image (c ∷ [])) (image cs) a
image-cons c cs a = image-append (c ∷ []) cs a

-- what an entry loads, where its bytes in the file are known
pub chunk_with : (file bytes : List ℕ) (s : Segment) → take s.filesz (drop s.offset file) ≡ bytes → chunk_of file s ≡ record { lo = s.vaddr; size = s.memsz; perms = s.flags % 8; bytes = bytes }
chunk_with file bytes s e = λ i. record { lo = s.vaddr; size = s.memsz; perms = s.flags % 8; bytes = e i }

-- entries of which each is loaded
pub filter-is_load : (ss : List Segment) → AllByRecursion (λ s. is_load s ≡ true) ss → filter is_load ss ≡ ss
filter-is_load [] h = refl
filter-is_load (s ∷ ss) h = cond-true (is_load s) _ _ h.0 ∙ ap (λ (z : List Segment). s ∷ z) (filter-is_load ss h.1)
