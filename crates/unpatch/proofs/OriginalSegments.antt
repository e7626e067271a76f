-- The original's segments in a written file: where each is found, and what its bytes are.
use Rattle.std.proofs.Common.{◌≡◌, ℕ, ◌+◌, ◌-◌, ◌%◌, ◌<◌, ◌≤◌, inl, inr, true, false, ◌&&◌, nat_lt, nat_le, List, [], ◌∷◌, ◌++◌, length, map, slice_index, Some, option_map, refl, sym, ap, ◌∙◌, subst, arith}
use Rattle.std.specs.List.{AllByRecursion}
use Rattle.std.proofs.lemmas.Bool.{and_parts, cases_Bool, cond-true, cond-false, true≢false, ltb-true, ltb-false, leb-true}
use Rattle.std.proofs.lemmas.Bool.Decides.{nat_tests}
use Rattle.pun_base.specs.Memory.{Cell}
use Rattle.elf_read.specs.declared.segment.Segment.{Segment}
use Rattle.elf_read.specs.Accepted.{IsPlaced}
use Rattle.elf_read.specs.Code.{is_backed}
use Rattle.elf_read.specs.Find.{covers, segment_holding}
use Rattle.elf_read.specs.Image.{Chunk, chunk_of, cell_in, image_of}
use Rattle.elf_read.proofs.SegmentSearch.{image_by}
use Rattle.elf_read.proofs.FileSlices.{length_slice}
use Rattle.elf_emit.specs.Job.{Frame}
use Rattle.elf_emit.specs.Frames.{slice, up, written_at, content, olds, is_moved, renewed, moved_at, pages_at, part_load, layout}
use Rattle.elf_emit.specs.FrameLaws.{IsFrame}
use Rattle.elf_emit.proofs.StayingSegments.{all_map, all_both}
use Rattle.elf_emit.proofs.OriginalFacts.{Facts}
use Rattle.elf_emit.proofs.DisjointLoads.{olds_pairs}
use Rattle.elf_emit.proofs.OriginalChunks.{chunk_after, new_byte}
use Rattle.elf_emit.proofs.LoadedImage.{olds_part}
use Rattle.elf_emit.proofs.GroupPages.{slice_at}
use Rattle.pun_base.proofs.JoinedLists.{all_behind}
use Rattle.unpatch.specs.Undone.{place_in, place_of}
use Rattle.unpatch.proofs.SegmentsByAddress.{Loads, IsFound, all_found, news_found}

-- an entry is the new one of an original's segment: where it is found, what its bytes are, and where it stands
pub record Renewed (f : Frame) (s t : Segment) : Type 0 where
  pub vaddr : t.vaddr ≡ s.vaddr
  pub filesz : t.filesz ≡ s.filesz
  pub memsz : t.memsz ≡ s.memsz
  pub found : (a : ℕ) → covers s a ≡ true → segment_holding (layout f) a ≡ Some t
  pub bytes : slice s.filesz t.offset (layout f) ≡ content f.writes f.orig s
  pub stays : is_moved (olds f) s ≡ false → t.offset ≡ s.offset
  pub moves : is_moved (olds f) s ≡ true → moved_at f ≤ t.offset

chunks_parts : (c d : Chunk) (cs ds : List Chunk) → ◌≡◌ {A = List Chunk} (c ∷ cs) (d ∷ ds) → (c ≡ d) × (cs ≡ ds)
chunks_parts c d cs ds e = (cc, cc)

abbrev Renews : Frame → Segment → Type 0
Renews f s = (t : Segment) × Renewed f s t

-- what is known of a segment whose bytes stand at a place of the file, its own where it isn't moved
renews_at : (f : Frame) (s : Segment) (at : ℕ) → Loads f (record s { offset = at }) → chunk_of (layout f) (record s { offset = at }) ≡ chunk_after f.writes (chunk_of f.orig s)
    → (is_moved (olds f) s ≡ false → at ≡ s.offset) → (is_moved (olds f) s ≡ true → moved_at f ≤ at) → Renews f s
renews_at f s at l c stays moves = (
  record s { offset = at },
  record { vaddr = refl; filesz = refl; memsz = refl; found = l; bytes = ap (λ (d : Chunk). d.bytes) c; stays = stays; moves = moves },
)

renews : (f : Frame) (at : ℕ) (ss : List Segment) → moved_at f ≤ at → AllByRecursion (Loads f) (renewed (olds f) at ss)
    → map (chunk_of (layout f)) (renewed (olds f) at ss) ≡ map (chunk_after f.writes) (map (chunk_of f.orig) ss) → AllByRecursion (Renews f) ss
renews f at [] l h e = tt
renews f at (s ∷ ss) l h e = elim (cases_Bool (is_moved (olds f) s)) [
  | inl b ↦
      let t : Segment = record s { offset = at + s.vaddr % 4096 } in
      let to = at + up (s.vaddr % 4096 + s.filesz) in
      let q : renewed (olds f) at (s ∷ ss) ≡ t ∷ renewed (olds f) to ss = cond-true (is_moved (olds f) s) _ _ b in
      let h2 : AllByRecursion (Loads f) (t ∷ renewed (olds f) to ss) = subst (λ z. AllByRecursion (Loads f) z) q h in
      let e2 = chunks_parts _ _ _ _ (ap (λ (z : List Segment). map (chunk_of (layout f)) z) (sym q) ∙ e) in (
        renews_at f s (at + s.vaddr % 4096) h2.0 e2.0 (λ z. absurd (true≢false (sym b ∙ z))) (λ z. omega arith),
        renews f to ss (omega arith) h2.1 e2.1,
      )
  | inr b ↦
      let q : renewed (olds f) at (s ∷ ss) ≡ s ∷ renewed (olds f) at ss = cond-false (is_moved (olds f) s) _ _ b in
      let h2 : AllByRecursion (Loads f) (s ∷ renewed (olds f) at ss) = subst (λ z. AllByRecursion (Loads f) z) q h in
      let e2 = chunks_parts _ _ _ _ (ap (λ (z : List Segment). map (chunk_of (layout f)) z) (sym q) ∙ e) in (
        renews_at f s s.offset h2.0 e2.0 (λ z. refl) (λ z. absurd (true≢false (sym z ∙ b))),
        renews f at ss l h2.1 e2.1,
      )
]

-- what is known of each segment of the original
pub record Old (f : Frame) (s : Segment) : Type 0 where
  pub placed : IsPlaced 0x20000 (length f.orig) s
  pub own : IsFound (olds f) s
  pub new : Segment
  pub is : Renewed f s new

-- so much is known of each segment of the original
pub all_old : (f : Frame) → IsFrame f → Facts f → AllByRecursion (Old f) (olds f)
all_old f h q =
    let loaded : AllByRecursion (Loads f) (map (part_load (pages_at f)) f.parts ++ renewed (olds f) (moved_at f) (olds f)) = (news_found f h q).1.1 in
    let news = all_behind (Loads f) (map (part_load (pages_at f)) f.parts) (renewed (olds f) (moved_at f) (olds f)) loaded in
    let rs = renews f (moved_at f) (olds f) (omega arith) news (olds_part f q) in
    let own = all_found (olds f) (olds_pairs 0 (olds f) q.ascends) in
    all_map (λ s. IsPlaced 0x20000 (length f.orig) s × (IsFound (olds f) s × Renews f s)) (Old f) (olds f)
    (λ s k. record { placed = k.0; own = k.1.0; new = k.1.1.0; is = k.1.1.1 })
    (all_both (IsPlaced 0x20000 (length f.orig)) (λ s. IsFound (olds f) s × Renews f s) (olds f) q.placed
    (all_both (IsFound (olds f)) (Renews f) (olds f) own rs))

-- an address whose byte a segment has from the file is one of those that its bytes in the file are loaded at
pub backed_at : (s : Segment) (a : ℕ) → is_backed s a ≡ true → (s.vaddr ≤ a) × (a - s.vaddr < s.filesz)
backed_at s a h = let k = and_parts (nat_le s.vaddr a) (nat_lt (a - s.vaddr) s.filesz) h in (leb-true s.vaddr a k.0, ltb-true (a - s.vaddr) s.filesz k.1)

-- an address that is less than n behind a lower one is in the range
pub within : (lo n a : ℕ) → lo ≤ a → a - lo < n → (nat_le lo a && nat_lt (a - lo) n) ≡ true
within lo n a l m = grind (arith, nat_tests)

-- a segment of the original covers each address whose byte it has from the file
pub covers_backed : (f : Frame) (s : Segment) (a : ℕ) → Old f s → is_backed s a ≡ true → covers s a ≡ true
covers_backed f s a o h =
    let k = backed_at s a h in let k0 = k.0 in let k1 = k.1 in let z = o.placed.sizes in within s.vaddr s.memsz a k0 (omega arith)

-- the written file has the byte of such an address at the new segment's place for it
pub placed_new : (f : Frame) (s : Segment) (a : ℕ) → (o : Old f s) → is_backed s a ≡ true → place_of (layout f) a ≡ Some (o.new.offset + (a - s.vaddr))
placed_new f s a o h =
    let v = o.is.vaddr in
    ap (λ z. option_map (place_in a) z) (o.is.found a (covers_backed f s a o h)) ∙ (λ i. Some (o.new.offset + (a - v i)))

-- the byte that it has there is the original's after all writes
pub byte_new : (f : Frame) (s : Segment) (a : ℕ) → (o : Old f s) → is_backed s a ≡ true
    → slice_index (layout f) (o.new.offset + (a - s.vaddr)) ≡ written_at f.writes a (slice_index f.orig (s.offset + (a - s.vaddr)))
byte_new f s a o h =
    let k = backed_at s a h in let k0 = k.0 in let k1 = k.1 in
    let bs : List ℕ = slice s.filesz s.offset f.orig in
    let l : length bs ≡ s.filesz = length_slice s.filesz s.offset f.orig o.placed.in_file in
    sym (slice_at s.filesz o.new.offset (a - s.vaddr) (layout f) k1)
    ∙ ap (λ (z : List ℕ). slice_index z (a - s.vaddr)) o.is.bytes
    ∙ new_byte f.writes s.vaddr a bs k0 (λ z b. let m = ltb-false (a - s.vaddr) (length bs) z in absurd (omega arith))
    ∙ ap (λ (b : ℕ). written_at f.writes a b) (slice_at s.filesz s.offset (a - s.vaddr) f.orig k1)

-- the image's byte is the file's
byte_is : (c : Cell) (b : ℕ) → option_map (λ (z : Cell). z.byte) (Some c) ≡ Some b → c.byte ≡ b
byte_is c b h = cc

-- where the original's image has a byte that a segment has from the file, the file has it at the segment's place
pub byte_old : (f : Frame) (s : Segment) (a b : ℕ) → (o : Old f s) → is_backed s a ≡ true → option_map (λ c. c.byte) (image_of f.orig a) ≡ Some b
    → slice_index f.orig (s.offset + (a - s.vaddr)) ≡ b
byte_old f s a b o h e =
    let k = backed_at s a h in let k1 = k.1 in
    let c : Cell = cell_in (chunk_of f.orig s) a in
    let m : image_of f.orig a ≡ Some c =
    image_by f.orig (olds f) a ∙ ap (λ z. option_map (λ t. cell_in (chunk_of f.orig t) a) z) (o.own a (covers_backed f s a o h)) in
    sym (slice_at s.filesz s.offset (a - s.vaddr) f.orig k1) ∙ byte_is c b (ap (option_map (λ (z : Cell). z.byte)) (sym m) ∙ e)
