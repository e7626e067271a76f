-- What the original's segments load from the written file.
use Rattle.std.proofs.Common.{◌≡◌, ℕ, zero, suc, ◌+◌, ◌-◌, ◌*◌, ◌%◌, ◌<◌, ◌≤◌, inl, inr, Bool, true, false, ◌&&◌, nat_lt, nat_le, List, [], ◌∷◌, ◌++◌, length, map, replicate, slice_index, Option, Some, option_map, refl, sym, ap, ◌∙◌, subst, arith, append_assoc}
use Rattle.std.specs.List.{AllByRecursion, list_any}
use Rattle.std.proofs.lemmas.Bool.{and_parts, cases_Bool, cond-true, cond-false, ltb-true, leb-true, ltb-false, true≢false}
use Rattle.std.proofs.lemmas.Bool.Decides.{nat_tests}
use Rattle.std.proofs.lemmas.List.{length-append, length-replicate, get_or_past}
use Rattle.pun_base.specs.Memory.{Cell}
use Rattle.elf_read.specs.declared.segment.Segment.{Segment}
use Rattle.elf_read.specs.Code.{is_backed}
use Rattle.elf_read.specs.Find.{covers}
use Rattle.elf_read.specs.Image.{Chunk, chunk_of, holds, cell_in, image}
use Rattle.elf_read.specs.Refusals.{first_page, last_page}
use Rattle.elf_read.specs.Accepted.{IsPlaced, Ascends}
use Rattle.elf_read.proofs.FileSlices.{slice_past, slice_middle, length_slice}
use Rattle.elf_read.proofs.SegmentSearch.{covers_parts}
use Rattle.elf_emit.specs.Job.{BytesAt}
use Rattle.elf_emit.specs.Layout.{slice, pad, padded, up, in_patch, written_at, rewritten, content, is_moved, moved_bytes, renewed}
use Rattle.elf_emit.specs.Laws.{IsBacked, with_writes}
use Rattle.elf_emit.specs.Views.{InFile}
use Rattle.elf_emit.proofs.PlacedSlices.{length_content, length_rewritten}
use Rattle.elf_emit.proofs.StayingSegments.{all_map, all_both, pages_above}
use Rattle.elf_emit.proofs.OriginalFacts.{length_moved_one}

-- a chunk after all writes
abbrev pub chunk_after : List BytesAt → Chunk → Chunk
chunk_after ws c = record { lo = c.lo; size = c.size; perms = c.perms; bytes = rewritten ws c.lo c.bytes }

regroup : (front z c s m rest : List ℕ) → front ++ ((((z ++ c) ++ s) ++ m) ++ rest) ≡ front ++ (z ++ (c ++ (s ++ (m ++ rest))))
regroup front z c s m rest = simp append_assoc

rejoin : (front p m rest : List ℕ) → front ++ ((p ++ m) ++ rest) ≡ (front ++ p) ++ (m ++ rest)
rejoin front p m rest = simp append_assoc

moved_found : (at k n : ℕ) (w front c s m rest : List ℕ) → length front ≡ at → length c ≡ n → w ≡ front ++ ((((replicate k 0 ++ c) ++ s) ++ m) ++ rest) → slice n (at + k) w ≡ c
moved_found at k n w front c s m rest e l q =
    ap (λ (z : List ℕ). slice n (at + k) z) (q ∙ regroup front (replicate k 0) c s m rest)
    ∙ slice_past n at k front (replicate k 0 ++ (c ++ (s ++ (m ++ rest)))) e
    ∙ slice_middle n k (replicate k 0) c (s ++ (m ++ rest)) (length-replicate k 0) l

-- segments whose bytes stand at their new places show, in the written file, their chunks of the original after all writes
pub chunks_found : (ws : List BytesAt) (orig : List ℕ) (all ss : List Segment) (w front rest : List ℕ) (at : ℕ) → length front ≡ at → AllByRecursion (InFile (length orig)) ss → AllByRecursion (λ s. is_moved all s ≡ false → slice s.filesz s.offset w ≡ content ws orig s) ss → w ≡ front ++ (moved_bytes ws orig all ss ++ rest) → map (chunk_of w) (renewed all at ss) ≡ map (chunk_after ws) (map (chunk_of orig) ss)
chunks_found ws orig all [] w front rest at e i k q = refl
chunks_found ws orig all (s ∷ ss) w front rest at e i k q = elim (cases_Bool (is_moved all s)) [
  | inl t ↦
      let p : List ℕ = padded (replicate (s.vaddr % 4096) 0 ++ content ws orig s) in
      let m : List ℕ = moved_bytes ws orig all ss in
      let r : w ≡ front ++ ((p ++ m) ++ rest) = q ∙ ap (λ (z : List ℕ). front ++ (z ++ rest)) (cond-true (is_moved all s) _ _ t) in
      let first = moved_found at (s.vaddr % 4096) s.filesz w front (content ws orig s) (replicate (pad (length (replicate (s.vaddr % 4096) 0 ++ content ws orig s))) 0) m rest e (length_content ws orig s i.0) r in
      let l : length (front ++ p) ≡ at + up (s.vaddr % 4096 + s.filesz) = length-append front p ∙ (λ i2. e i2 + length_moved_one ws orig s i.0 i2) in
      let later = chunks_found ws orig all ss w (front ++ p) rest (at + up (s.vaddr % 4096 + s.filesz)) l i.1 k.1 (r ∙ rejoin front p m rest) in
      ap (λ (z : List Segment). map (chunk_of w) z) (cond-true (is_moved all s) _ _ t)
      ∙ (λ i2. record { lo = s.vaddr; size = s.memsz; perms = s.flags % 8; bytes = first i2 } ∷ later i2)
  | inr f ↦
      let r : w ≡ front ++ (moved_bytes ws orig all ss ++ rest) = q ∙ ap (λ (z : List ℕ). front ++ (z ++ rest)) (cond-false (is_moved all s) _ _ f) in
      let first = k.0 f in
      let later = chunks_found ws orig all ss w front rest at e i.1 k.1 r in
      ap (λ (z : List Segment). map (chunk_of w) z) (cond-false (is_moved all s) _ _ f)
      ∙ (λ i2. record { lo = s.vaddr; size = s.memsz; perms = s.flags % 8; bytes = first i2 } ∷ later i2)
]

-- the image after all writes, chunk by chunk
new_at : (ws : List BytesAt) (lo k : ℕ) (bs : List ℕ) → k < length bs → slice_index (rewritten ws lo bs) k ≡ written_at ws (lo + k) (slice_index bs k)
new_at ws lo k [] l = absurd (omega arith)
new_at ws lo zero (b ∷ bs) l = let e : lo + 0 ≡ lo = omega arith in rw e refl
new_at ws lo (suc k) (b ∷ bs) l = let e : lo + suc k ≡ lo + 1 + k = omega arith in rw e (new_at ws (lo + 1) k bs (omega arith))

past_end : (bs : List ℕ) (k : ℕ) → length bs ≤ k → slice_index bs k ≡ 0
past_end bs k l = get_or_past bs k 0 l

-- the byte at an address after all writes is what they make of the byte there, also past the end if no write reaches so far
pub new_byte : (ws : List BytesAt) (lo a : ℕ) (bs : List ℕ) → lo ≤ a → (nat_lt (a - lo) (length bs) ≡ false → (b : ℕ) → written_at ws a b ≡ b) → slice_index (rewritten ws lo bs) (a - lo) ≡ written_at ws a (slice_index bs (a - lo))
new_byte ws lo a bs l h = elim (cases_Bool (nat_lt (a - lo) (length bs))) [
  | inl t ↦ let e : lo + (a - lo) ≡ a = omega arith in new_at ws lo (a - lo) bs (ltb-true _ _ t) ∙ ap (λ x. written_at ws x (slice_index bs (a - lo))) e
  | inr f ↦
      let l2 = ltb-false _ _ f in
      let n = length_rewritten ws lo bs in
      past_end (rewritten ws lo bs) (a - lo) (omega arith) ∙ sym (h f (slice_index bs (a - lo)) ∙ past_end bs (a - lo) l2)
]

abbrev cell_after : List BytesAt → ℕ → Cell → Cell
cell_after ws a c = record { byte = written_at ws a c.byte; perms = c.perms }

-- no write changes a byte of a chunk that is past the chunk's bytes in the file
abbrev pub IsKept : List BytesAt → ℕ → Chunk → Type 0
IsKept ws a c = holds c a ≡ true → nat_lt (a - c.lo) (length c.bytes) ≡ false → (v : ℕ) → written_at ws a v ≡ v

-- the image of chunks after all writes is their image with what is written, where the bytes past their ends are kept
pub image_after : (ws : List BytesAt) (cs : List Chunk) (a : ℕ) → AllByRecursion (IsKept ws a) cs → image (map (chunk_after ws) cs) a ≡ with_writes ws (image cs) a
image_after ws [] a h = refl
image_after ws (c ∷ cs) a h = elim (cases_Bool (holds c a)) [
  | inl t ↦
      cond-true (holds c a) (Some (cell_in (chunk_after ws c) a)) (image (map (chunk_after ws) cs) a) t
      ∙ (let p = new_byte ws c.lo a c.bytes (leb-true _ _ (and_parts _ _ t).0) (λ f. h.0 t f) in λ i. Some (record { byte = p i; perms = c.perms }))
      ∙ sym (ap (λ (o : Option Cell). option_map (cell_after ws a) o) (cond-true (holds c a) (Some (cell_in c a)) (image cs a) t))
  | inr f ↦
      cond-false (holds c a) (Some (cell_in (chunk_after ws c) a)) (image (map (chunk_after ws) cs) a) f
      ∙ image_after ws cs a h.1
      ∙ sym (ap (λ (o : Option Cell). option_map (cell_after ws a) o) (cond-false (holds c a) (Some (cell_in c a)) (image cs a) f))
]

before_page : (s : Segment) (a page : ℕ) → page ≤ first_page s → a < 4096 * page → is_backed s a ≡ false
before_page s a page l b = let v : a < s.vaddr = omega arith in short s.vaddr a s.filesz v
  where
    short : (v b2 f : ℕ) → b2 < v → (nat_le v b2 && nat_lt (b2 - v) f) ≡ false
    short v b2 f l2 = grind (arith, nat_tests)

after_end : (s : Segment) (a : ℕ) → s.filesz ≤ s.memsz → 0 < s.memsz → 4096 * (last_page s + 1) ≤ a → is_backed s a ≡ false
after_end s a l m b = let v : s.vaddr + s.filesz ≤ a = omega arith in long s.vaddr a s.filesz v
  where
    long : (v b2 f : ℕ) → v + f ≤ b2 → (nat_le v b2 && nat_lt (b2 - v) f) ≡ false
    long v b2 f l2 = grind (arith, nat_tests)

any_none : {X : Type 0} (p : X → Bool) (xs : List X) → AllByRecursion (λ x. p x ≡ false) xs → list_any p xs ≡ false
any_none p [] h = refl
any_none p (x ∷ xs) h = rw h.0 (any_none p xs h.1)

abbrev Unbacked : ℕ → List Segment → Segment → Type 0
Unbacked a ss s = covers s a ≡ true → is_backed s a ≡ false → list_any (λ t. is_backed t a) ss ≡ false

head_unbacked : (a : ℕ) (len : ℕ) (s : Segment) (ss : List Segment) → 0 < s.memsz → Ascends (last_page s + 1) ss → AllByRecursion (IsPlaced 0x20000 len) ss → Unbacked a (s ∷ ss) s
head_unbacked a len s ss m up i c b =
    let k = covers_parts s a c in let k0 = k.0 in let k1 = k.1 in
    rw b (any_none (λ t. is_backed t a) ss
    (all_map (λ t. last_page s + 1 ≤ first_page t) (λ t. is_backed t a ≡ false) ss (λ t l. before_page t a (last_page s + 1) l (omega arith)) (pages_above (last_page s + 1) ss up)))

tail_unbacked : (a : ℕ) (s t : Segment) (ss : List Segment) → s.filesz ≤ s.memsz → 0 < s.memsz → (last_page s + 1 ≤ first_page t) × Unbacked a ss t → Unbacked a (s ∷ ss) t
tail_unbacked a s t ss l m h c b =
    let k = covers_parts t a c in let k0 = k.0 in let p = h.0 in
    rw (after_end s a l m (omega arith)) (h.1 c b)

unbacked : (a len page : ℕ) (ss : List Segment) → Ascends page ss → AllByRecursion (IsPlaced 0x20000 len) ss → AllByRecursion (Unbacked a ss) ss
unbacked a len page [] up i = tt
unbacked a len page (s ∷ ss) up i = (
  head_unbacked a len s ss up.1 up.2 i.1,
  all_map (λ t. (last_page s + 1 ≤ first_page t) × Unbacked a ss t) (Unbacked a (s ∷ ss)) ss (λ t h. tail_unbacked a s t ss i.0.sizes up.1 h)
      (all_both (λ t. last_page s + 1 ≤ first_page t) (Unbacked a ss) ss (pages_above (last_page s + 1) ss up.2) (unbacked a len (last_page s + 1) ss up.2 i.1)),
)

patch_at : (w : BytesAt) (a : ℕ) → in_patch w a ≡ true → (w.addr ≤ a) × (a - w.addr < length w.now)
patch_at w a h = let k = and_parts (nat_le w.addr a) (nat_lt (a - w.addr) (length w.now)) h in (leb-true w.addr a k.0, ltb-true (a - w.addr) (length w.now) k.1)

not_patched : (ss : List Segment) (w : BytesAt) (a : ℕ) → IsBacked ss w → list_any (λ s. is_backed s a) ss ≡ false → in_patch w a ≡ false
not_patched ss w a h e = elim (cases_Bool (in_patch w a)) [
  | inl t ↦
      let k = patch_at w a t in let k0 = k.0 in
      let q : w.addr + (a - w.addr) ≡ a = omega arith in
      absurd (true≢false (sym (subst (λ (b : ℕ). list_any (λ s. is_backed s b) ss ≡ true) q (h (a - w.addr) k.1)) ∙ e))
  | inr f ↦ f
]

-- a byte in no write is as it was
pub written_none : (ws : List BytesAt) (a v : ℕ) → AllByRecursion (λ w. in_patch w a ≡ false) ws → written_at ws a v ≡ v
written_none [] a v h = refl
written_none (w ∷ ws) a v h = ap (λ (b : ℕ). written_at ws a b) (cond-false (in_patch w a) _ v h.0) ∙ written_none ws a v h.1

kept_one : (ws : List BytesAt) (ss : List Segment) (orig : List ℕ) (a : ℕ) (s : Segment) → AllByRecursion (IsBacked ss) ws → InFile (length orig) s × Unbacked a ss s → IsKept ws a (chunk_of orig s)
kept_one ws ss orig a s b h c f =
    λ v.
    let l = length_slice s.filesz s.offset orig h.0 in
    let g : nat_lt (a - s.vaddr) s.filesz ≡ false = ap (λ (n : ℕ). nat_lt (a - s.vaddr) n) (sym l) ∙ f in
    let e = h.1 c (unbacked_by (nat_le s.vaddr a) (nat_lt (a - s.vaddr) s.filesz) g) in
    written_none ws a v (all_map (IsBacked ss) (λ w. in_patch w a ≡ false) ws (λ w k. not_patched ss w a k e) b)
  where
    unbacked_by : (x y : Bool) → y ≡ false → x && y ≡ false
    unbacked_by true y e = e
    unbacked_by false y e = refl

-- writes over bytes of the file keep the zeros past each segment's bytes in the file
pub all_kept : (ws : List BytesAt) (orig : List ℕ) (all ss : List Segment) (a : ℕ) → AllByRecursion (IsBacked all) ws → AllByRecursion (λ s. InFile (length orig) s × Unbacked a all s) ss → AllByRecursion (IsKept ws a) (map (chunk_of orig) ss)
all_kept ws orig all [] a b h = tt
all_kept ws orig all (s ∷ ss) a b h = (kept_one ws all orig a s b h.0, all_kept ws orig all ss a b h.1)

-- the image of the original's segments after all writes is the original's image with what is written
pub olds_after : (ws : List BytesAt) (orig : List ℕ) (ss : List Segment) (a : ℕ) → Ascends 0 ss → AllByRecursion (IsPlaced 0x20000 (length orig)) ss → AllByRecursion (InFile (length orig)) ss → AllByRecursion (IsBacked ss) ws → image (map (chunk_after ws) (map (chunk_of orig) ss)) a ≡ with_writes ws (image (map (chunk_of orig) ss)) a
olds_after ws orig ss a up i f b =
    image_after ws (map (chunk_of orig) ss) a
    (all_kept ws orig ss ss a b (all_both (InFile (length orig)) (Unbacked a ss) ss f (unbacked a (length orig) 0 ss up i)))
