-- The image and regions, one after the other.
use Rattle.std.proofs.Common.{◌≡◌, ℕ, zero, suc, ◌+◌, ◌-◌, ◌*◌, ◌%◌, ◌≤◌, true, false, ◌&&◌, cond, List, [], ◌∷◌, ◌++◌, length, map, take, drop, Option, Some, None, refl, ap, sym, subst, ◌∙◌, arith, length-append}
use Rattle.std.specs.Prelude.{nat_le, nat_lt, replicate, slice_index}
use Rattle.std.specs.List.{AllByRecursion}
use Rattle.std.proofs.lemmas.List.{length-drop, length-take-le, length-replicate}
use Rattle.std.proofs.lemmas.Bool.{and_parts}
use Rattle.std.proofs.lemmas.Bool.Decides.{nat_tests}
use Rattle.pun_base.specs.Memory.{Bytes, Cell, joined, or_else}
use Rattle.cpu_state.specs.declared.regions.MemoryRegion.{MemoryRegion}
use Rattle.cpu_state.specs.declared.script_regions.Region.{Region}
use Rattle.cpu_state.specs.Adding.{IsFree, laid}
use Rattle.cpu_state.specs.Regions.{cell_at}
use Rattle.cpu_state.specs.Script.{are_regions, ascend, body_size, is_bounded, is_permission}
use Rattle.elf_read.specs.declared.segment.Segment.{Segment}
use Rattle.elf_read.specs.Accepted.{Ascends, IsAccepted, IsPlaced}
use Rattle.elf_read.specs.Entries.{loads, segments}
use Rattle.elf_read.specs.Image.{chunk_of, image, image_of}
use Rattle.elf_read.specs.Refusals.{last_page}
use Rattle.elf_read.proofs.ChunkImages.{image-cons}
use Rattle.image_runs.proofs.RegionsOutsideImages.{image_apart, none_met, region_ends}
use Rattle.image_runs.specs.Starting.{least_met_of, region_memory, regions_memory}

-- What is held, with what the segments that are left load, is the image; each of them keeps the rules, and what is held lies
-- below their pages.
pub record LoadedSoFar (file : List ℕ) (memory : List MemoryRegion) (left : List Segment) : Type 0 where
  pub whole : joined (cell_at memory) (image (map (chunk_of file) left)) ≡ image_of file
  pub placed : AllByRecursion (IsPlaced 0x10000 (length file)) left
  pub page : ℕ
  pub ascends : Ascends page left
  pub below : (a : ℕ) → page * 4096 ≤ a → cell_at memory a ≡ None

-- The same of an image and regions; none of those that are left meets a page of the image.
pub record AddedSoFar (file : List ℕ) (memory : List MemoryRegion) (left regions : List Region) : Type 0 where
  pub whole : joined (cell_at memory) (regions_memory left) ≡ joined (image_of file) (regions_memory regions)
  pub low : ℕ
  pub ascends : ascend low left ≡ true
  pub held : (a : ℕ) → low ≤ a → cell_at memory a ≡ image_of file a
  pub apart : least_met_of file left ≡ None

-- A cell, or else none, is that cell.
pub else_none : (o : Option Cell) → or_else o None ≡ o
else_none None = refl
else_none (Some c) = refl

else_else : (a b c : Option Cell) → or_else (or_else a b) c ≡ or_else a (or_else b c)
else_else None b c = refl
else_else (Some x) b c = refl

-- A memory joined with an empty one is itself.
pub joined_nothing : (m : Bytes) → joined m (λ a. None) ≡ m
joined_nothing m = λ i a. else_none (m a) i

joined_joined : (m n o : Bytes) → joined (joined m n) o ≡ joined m (joined n o)
joined_joined m n o = λ i a. else_else (m a) (n a) (o a) i

-- ---- what a segment loads

index_past : (xs : List ℕ) (n i : ℕ) → slice_index (xs ++ replicate n 0) i ≡ slice_index xs i
index_past [] zero i = refl
index_past [] (suc n) zero = refl
index_past [] (suc n) (suc i) = index_past [] n i
index_past (x ∷ xs) n zero = refl
index_past (x ∷ xs) n (suc i) = index_past xs n i

held_cell : (lo perms : ℕ) (bytes : List ℕ) (zeros size a : ℕ) → length (bytes ++ replicate zeros 0) ≡ size
    → laid lo perms (bytes ++ replicate zeros 0) a ≡ image (record { lo = lo; size = size; perms = perms; bytes = bytes } ∷ []) a
held_cell lo perms bytes zeros size a e =
    ap (λ (n : ℕ). cond (nat_le lo a && nat_lt (a - lo) n) (Some (record { byte = slice_index (bytes ++ replicate zeros 0) (a - lo); perms = perms })) None) e
    ∙ ap (λ (b : ℕ). cond (nat_le lo a && nat_lt (a - lo) size) (Some (record { byte = b; perms = perms })) None) (index_past bytes zeros (a - lo))

-- Its bytes and the zeros behind them are as many as it has in memory.
pub segment_size : (file bytes : List ℕ) (s : Segment) → IsPlaced 0x10000 (length file) s → bytes ≡ take s.filesz (drop s.offset file)
    → length bytes + (s.memsz - s.filesz) ≡ s.memsz
segment_size file bytes s p e =
    let cut : length (take s.filesz (drop s.offset file)) ≡ s.filesz =
    length-take-le s.filesz (drop s.offset file) (let q = p.in_file in omega (arith, length-drop s.offset file)) in
    let sizes : s.filesz ≤ s.memsz = p.sizes in
    let same : length bytes ≡ length (take s.filesz (drop s.offset file)) = ap length e in
    omega arith

-- Its bytes and the zeros behind them are its chunk.
pub segment_laid : (file bytes : List ℕ) (s : Segment) → IsPlaced 0x10000 (length file) s → bytes ≡ take s.filesz (drop s.offset file)
    → laid s.vaddr (s.flags % 8) (bytes ++ replicate (s.memsz - s.filesz) 0) ≡ image (chunk_of file s ∷ [])
segment_laid file bytes s p e =
    let cut : length (take s.filesz (drop s.offset file)) ≡ s.filesz =
    length-take-le s.filesz (drop s.offset file) (let q = p.in_file in omega (arith, length-drop s.offset file)) in
    let sizes : s.filesz ≤ s.memsz = p.sizes in
    let len : length (take s.filesz (drop s.offset file) ++ replicate (s.memsz - s.filesz) 0) ≡ s.memsz =
    length-append (take s.filesz (drop s.offset file)) (replicate (s.memsz - s.filesz) 0) ∙ (let z = length-replicate {A = ℕ} (s.memsz - s.filesz) 0 in omega arith) in
    ap (λ (l : List ℕ). laid s.vaddr (s.flags % 8) (l ++ replicate (s.memsz - s.filesz) 0)) e
    ∙ (λ i a. held_cell s.vaddr (s.flags % 8) (take s.filesz (drop s.offset file)) (s.memsz - s.filesz) s.memsz a len i)

-- Before the first segment all of them are left.
pub loaded_none : (file : List ℕ) (ss : List Segment) → ss ≡ loads (segments file) → IsAccepted 0x10000 file → LoadedSoFar file [] ss
loaded_none file ss e p =
    record {
      whole = ap (λ (l : List Segment). image (map (chunk_of file) l)) e;
      placed = subst (AllByRecursion (IsPlaced 0x10000 (length file))) (sym e) p.placed;
      page = 0;
      ascends = subst (Ascends 0) (sym e) p.ascends;
      below = λ a h. refl;
    }

-- A segment holds nothing in the pages above its last one, nor in those below its first one.
segment_ends : (file : List ℕ) (s : Segment) (a : ℕ) → (last_page s + 1) * 4096 ≤ a → image (chunk_of file s ∷ []) a ≡ None
segment_ends file s a h =
    let past : s.vaddr + s.memsz ≤ a = omega arith in
    let f : (nat_le s.vaddr a && nat_lt (a - s.vaddr) s.memsz) ≡ false = grind (arith, nat_tests) in
    rw f refl

-- Nothing stands where the next segment is loaded.
pub segment_free : (file : List ℕ) (memory : List MemoryRegion) (s : Segment) (left : List Segment) → LoadedSoFar file memory (s ∷ left)
    → IsFree (cell_at memory) s.vaddr (s.vaddr + s.memsz)
segment_free file memory s left l a low high = let p = l.ascends.0 in l.below a (omega arith)

-- A segment that is added to what is loaded is one less that is left.
pub loaded_more : (file : List ℕ) (old new : List MemoryRegion) (s : Segment) (left : List Segment) → LoadedSoFar file old (s ∷ left)
    → cell_at new ≡ joined (cell_at old) (image (chunk_of file s ∷ [])) → LoadedSoFar file new left
loaded_more file old new s left l e =
    let rest : Bytes = image (map (chunk_of file) left) in
    let front : image (chunk_of file s ∷ map (chunk_of file) left) ≡ joined (image (chunk_of file s ∷ [])) rest =
    λ i a. image-cons (chunk_of file s) (map (chunk_of file) left) a i in
    record {
      whole = ap (λ (m : Bytes). joined m rest) e ∙ (joined_joined (cell_at old) (image (chunk_of file s ∷ [])) rest ∙ (ap (joined (cell_at old)) (sym front) ∙ l.whole));
      placed = l.placed.1;
      page = last_page s + 1;
      ascends = l.ascends.2;
      below = λ a h.
          let p = l.ascends.0 in
          let n = l.ascends.1 in
          ap (λ (m : Bytes). m a) e ∙ (ap (λ (o : Option Cell). or_else o (image (chunk_of file s ∷ []) a)) (l.below a (omega arith)) ∙ segment_ends file s a h);
    }

-- Once none is left the memory is the image of the file.
pub loaded_all : (file : List ℕ) (memory : List MemoryRegion) (left : List Segment) → LoadedSoFar file memory left → length left ≡ 0 → cell_at memory ≡ image_of file
loaded_all file memory [] l e = sym (joined_nothing (cell_at memory)) ∙ l.whole
loaded_all file memory (s ∷ left) l e = absurd (omega arith)

-- ---- regions

-- Before the first region all of them are left.
pub added_none : (file : List ℕ) (memory : List MemoryRegion) (rs : List Region) → are_regions rs ≡ true → least_met_of file rs ≡ None
    → cell_at memory ≡ image_of file → AddedSoFar file memory rs rs
added_none file memory rs h n e =
    record {
      whole = ap (λ (m : Bytes). joined m (regions_memory rs)) e;
      low = 0;
      ascends = (and_parts (nat_le (length rs) 16) (ascend 0 rs) h).1;
      held = λ a l. ap (λ (m : Bytes). m a) e;
      apart = n;
    }

above_first : (low : ℕ) (r : Region) (rs : List Region) → ascend low (r ∷ rs) ≡ true → low ≤ r.lo
above_first low r rs h =
    let p = and_parts (nat_le low r.lo) (is_permission r.perms && (is_bounded r.lo r.body && ascend (r.lo + body_size r.body) rs)) h in
    grind (arith, nat_tests, p.0)

-- Nothing stands where the next region is added.
pub region_free : (file : List ℕ) (memory : List MemoryRegion) (r : Region) (left rs : List Region) → AddedSoFar file memory (r ∷ left) rs
    → IsFree (cell_at memory) r.lo (r.lo + body_size r.body)
region_free file memory r left rs a x low high =
    let p = above_first a.low r left a.ascends in
    let n = none_met (loads (segments file)) r left a.apart in
    a.held x (omega arith) ∙ image_apart file (loads (segments file)) r x n.0 low high

bounded_first : (low : ℕ) (r : Region) (rs : List Region) → ascend low (r ∷ rs) ≡ true → (is_bounded r.lo r.body ≡ true) × (ascend (r.lo + body_size r.body) rs ≡ true)
bounded_first low r rs h =
    let p0 = and_parts (nat_le low r.lo) (is_permission r.perms && (is_bounded r.lo r.body && ascend (r.lo + body_size r.body) rs)) h in
    let p1 = and_parts (is_permission r.perms) (is_bounded r.lo r.body && ascend (r.lo + body_size r.body) rs) p0.1 in
    and_parts (is_bounded r.lo r.body) (ascend (r.lo + body_size r.body) rs) p1.1

-- The next region is within its bounds.
pub added_bounded : (file : List ℕ) (memory : List MemoryRegion) (r : Region) (left rs : List Region) → AddedSoFar file memory (r ∷ left) rs → is_bounded r.lo r.body ≡ true
added_bounded file memory r left rs a = (bounded_first a.low r left a.ascends).0

-- A region that is added is one less that is left.
pub added_more : (file : List ℕ) (old new : List MemoryRegion) (r : Region) (left rs : List Region) → AddedSoFar file old (r ∷ left) rs
    → cell_at new ≡ joined (cell_at old) (region_memory r) → AddedSoFar file new left rs
added_more file old new r left rs a e =
    record {
      whole = ap (λ (m : Bytes). joined m (regions_memory left)) e ∙ (joined_joined (cell_at old) (region_memory r) (regions_memory left) ∙ a.whole);
      low = r.lo + body_size r.body;
      ascends = (bounded_first a.low r left a.ascends).1;
      held = λ x h.
          let p = above_first a.low r left a.ascends in
          ap (λ (m : Bytes). m x) e ∙ (ap (or_else (cell_at old x)) (region_ends r x h) ∙ (else_none (cell_at old x) ∙ a.held x (omega arith)));
      apart = (none_met (loads (segments file)) r left a.apart).1;
    }

-- Once none is left the memory is the image and all regions.
pub added_all : (file : List ℕ) (memory : List MemoryRegion) (left rs : List Region) → AddedSoFar file memory left rs → length left ≡ 0
    → cell_at memory ≡ joined (image_of file) (regions_memory rs)
added_all file memory [] rs a e = sym (joined_nothing (cell_at memory)) ∙ a.whole
added_all file memory (r ∷ left) rs a e = absurd (omega arith)
