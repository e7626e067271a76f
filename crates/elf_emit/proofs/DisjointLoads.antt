-- No two of the new PT_LOADs have a page in common.
use Rattle.std.proofs.Common.{◌≡◌, ℕ, ◌+◌, ◌-◌, ◌*◌, ◌%◌, ◌<◌, ◌≤◌, ◌⊎◌, inl, inr, Bool, true, false, cond, ◌&&◌, nat_lt, nat_le, List, [], ◌∷◌, ◌++◌, length, map, Option, Some, None, refl, sym, ap, ◌∙◌, subst, arith}
use Rattle.std.specs.List.{AllByRecursion}
use Rattle.std.proofs.lemmas.Bool.{cases_Bool, cases_lt, cond-true, cond-false, leb-true, leb-false, true≢false}
use Rattle.std.proofs.lemmas.Bool.Decides.{nat_tests}
use Rattle.pun_base.specs.Memory.{Cell}
use Rattle.elf_read.specs.declared.segment.Segment.{Segment}
use Rattle.elf_read.specs.Find.{covers}
use Rattle.elf_read.specs.Image.{chunk_of, cell_in, image, image_of}
use Rattle.elf_read.specs.Refusals.{first_page, last_page}
use Rattle.elf_read.specs.Accepted.{IsPlaced, Ascends}
use Rattle.elf_read.specs.Writing.{load_entry}
use Rattle.elf_read.proofs.SegmentSearch.{covers_parts}
use Rattle.elf_emit.specs.Job.{Part, Frame}
use Rattle.elf_emit.specs.Frames.{olds, count, is_moved, renewed, up, moved_at, table_at, private_at, pages_at, table_load, private_load, part_load, new_loads, insert_load, in_order}
use Rattle.elf_emit.specs.FrameLaws.{PairsByRecursion, IsPart, PartsApart, IsNew, IsFrame}
use Rattle.elf_emit.proofs.StayingSegments.{all_map, all_both, pages_above, page_order}
use Rattle.elf_emit.proofs.OriginalFacts.{Facts}
use Rattle.elf_emit.proofs.WrittenTable.{all_append, all_mapped, all_order, all_cond}

-- two segments with no page in common
abbrev pub SegmentsApart : Segment → Segment → Type 0
SegmentsApart s t = (last_page s < first_page t) ⊎ (last_page t < first_page s)

pairs_append : {X : Type 0} (R : X → X → Type 0) (xs ys : List X) → PairsByRecursion R xs → PairsByRecursion R ys → AllByRecursion (λ x. AllByRecursion (R x) ys) xs → PairsByRecursion R (xs ++ ys)
pairs_append R [] ys h k m = k
pairs_append R (x ∷ xs) ys h k m = (all_append (R x) xs ys h.0 m.0, pairs_append R xs ys h.1 k m.1)

-- a relation between the images of each element and each later one is one between those of the mapped list
pub pairs_mapped : {X Y : Type 0} (R : Y → Y → Type 0) (f : X → Y) (xs : List X) → PairsByRecursion (λ x y. R (f x) (f y)) xs → PairsByRecursion R (map f xs)
pairs_mapped R f [] h = tt
pairs_mapped R f (x ∷ xs) h = (all_mapped (R (f x)) f xs h.0, pairs_mapped R f xs h.1)

-- where one relation gives another, so it does between each element and each later one
pub pairs_map : {X : Type 0} (R Q : X → X → Type 0) (xs : List X) → ((x y : X) → R x y → Q x y) → PairsByRecursion R xs → PairsByRecursion Q xs
pairs_map R Q [] f h = tt
pairs_map R Q (x ∷ xs) f h = (all_map (R x) (Q x) xs (f x) h.0, pairs_map R Q xs f h.1)

-- what holds of all segments, wherever they are in the file, holds of them at their new places
pub renewed_keeps : (P : Segment → Type 0) (all ss : List Segment) (at : ℕ) → ((s : Segment) (to : ℕ) → P s → P (record s { offset = to })) → AllByRecursion P ss → AllByRecursion P (renewed all at ss)
renewed_keeps P all [] at g h = tt
renewed_keeps P all (s ∷ ss) at g h =
    all_cond (λ z. AllByRecursion P z) (is_moved all s) (record s { offset = at + s.vaddr % 4096 } ∷ renewed all (at + up (s.vaddr % 4096 + s.filesz)) ss) (s ∷ renewed all at ss)
    (g s (at + s.vaddr % 4096) h.0, renewed_keeps P all ss (at + up (s.vaddr % 4096 + s.filesz)) g h.1) (h.0, renewed_keeps P all ss at g h.1)

renewed_pairs : (all ss : List Segment) (at : ℕ) → PairsByRecursion SegmentsApart ss → PairsByRecursion SegmentsApart (renewed all at ss)
renewed_pairs all [] at h = tt
renewed_pairs all (s ∷ ss) at h =
    all_cond (λ z. PairsByRecursion SegmentsApart z) (is_moved all s) (record s { offset = at + s.vaddr % 4096 } ∷ renewed all (at + up (s.vaddr % 4096 + s.filesz)) ss) (s ∷ renewed all at ss)
    (renewed_keeps (SegmentsApart s) all ss (at + up (s.vaddr % 4096 + s.filesz)) (λ t to k. k) h.0, renewed_pairs all ss (at + up (s.vaddr % 4096 + s.filesz)) h.1)
    (renewed_keeps (SegmentsApart s) all ss at (λ t to k. k) h.0, renewed_pairs all ss at h.1)

-- segments that ascend have no page in common
pub olds_pairs : (page : ℕ) (ss : List Segment) → Ascends page ss → PairsByRecursion SegmentsApart ss
olds_pairs page [] a = tt
olds_pairs page (s ∷ ss) a =
    (all_map (λ t. last_page s + 1 ≤ first_page t) (SegmentsApart s) ss (λ t l. inl (omega arith)) (pages_above (last_page s + 1) ss a.2), olds_pairs (last_page s + 1) ss a.2)

-- whole pages that hold no byte of a segment are below or above its pages
covers_it : (s : Segment) (a : ℕ) → s.vaddr ≤ a → a - s.vaddr < s.memsz → covers s a ≡ true
covers_it s a v w = grind (arith, nat_tests)

met : (lo hi : ℕ) (s : Segment) → lo % 4096 ≡ 0 → hi % 4096 ≡ 0 → 0 < s.memsz → lo < 4096 * (last_page s + 1) → 4096 * first_page s < hi → ((a : ℕ) → lo ≤ a → a < hi → covers s a ≡ false) → lo < hi → ⊥
met lo hi s a b m l r h w = elim (cases_lt s.vaddr lo) [
  | inl p ↦ true≢false (sym (covers_it s lo (omega arith) (omega arith)) ∙ h lo (omega arith) w)
  | inr p ↦ true≢false (sym (covers_it s s.vaddr (omega arith) (omega arith)) ∙ h s.vaddr p (omega arith))
]

clear_of : (lo hi : ℕ) (s : Segment) → lo % 4096 ≡ 0 → hi % 4096 ≡ 0 → lo < hi → 0 < s.memsz → ((a : ℕ) → lo ≤ a → a < hi → covers s a ≡ false) → (hi ≤ 4096 * first_page s) ⊎ (4096 * (last_page s + 1) ≤ lo)
clear_of lo hi s a b w m h = elim (cases_lt lo (4096 * (last_page s + 1))) [
  | inr p ↦ inr p
  | inl p ↦ elim (cases_lt (4096 * first_page s) hi) [
    | inr q ↦ inl q
    | inl q ↦ absurd (met lo hi s a b m p q h w)
  ]
]

-- no original byte at a new address
none_there : (b : Bool) (x : Cell) (o : Option Cell) → cond b (Some x) o ≡ None → (b ≡ false) × (o ≡ None)
none_there true x o h = cc
none_there false x o h = (refl, h)

none_covers : (file : List ℕ) (ss : List Segment) (a : ℕ) → image (map (chunk_of file) ss) a ≡ None → AllByRecursion (λ s. covers s a ≡ false) ss
none_covers file [] a h = tt
none_covers file (s ∷ ss) a h =
    let k = none_there (covers s a) (cell_in (chunk_of file s) a) (image (map (chunk_of file) ss) a) h in (k.0, none_covers file ss a k.1)

-- a fact for every address, from one for each
every : (ss : List Segment) (lo hi : ℕ) → ((a : ℕ) → lo ≤ a → a < hi → AllByRecursion (λ s. covers s a ≡ false) ss)
    → AllByRecursion (λ s. (a : ℕ) → lo ≤ a → a < hi → covers s a ≡ false) ss
every [] lo hi h = tt
every (s ∷ ss) lo hi h = (λ a l m. (h a l m).0, every ss lo hi (λ a l m. (h a l m).1))

-- whole pages at whose addresses no original byte is are beside each of the original's segments
abbrev Beside : ℕ → ℕ → Segment → Type 0
Beside lo hi s = (hi ≤ 4096 * first_page s) ⊎ (4096 * (last_page s + 1) ≤ lo)

new_beside : (j : Frame) → Facts j → (lo hi : ℕ) → lo % 4096 ≡ 0 → hi % 4096 ≡ 0 → lo < hi → ((a : ℕ) → lo ≤ a → a < hi → image_of j.orig a ≡ None)
    → AllByRecursion (Beside lo hi) (olds j)
new_beside j f lo hi v w l n =
    all_map (λ s. IsPlaced 0x20000 (length j.orig) s × ((a : ℕ) → lo ≤ a → a < hi → covers s a ≡ false)) (Beside lo hi) (olds j)
    (λ s k. clear_of lo hi s v w l k.0.nonempty k.1)
    (all_both (IsPlaced 0x20000 (length j.orig)) (λ s. (a : ℕ) → lo ≤ a → a < hi → covers s a ≡ false) (olds j) f.placed
    (every (olds j) lo hi (λ a b c. none_covers j.orig (olds j) a (n a b c))))

-- parts that are apart from a range, and from each other
abbrev ClearPart : ℕ → ℕ → Part → Type 0
ClearPart lo hi r = (r.addr + 4096 * r.count ≤ lo) ⊎ (hi ≤ r.addr)

part_beside : (lo hi files at : ℕ) (r : Part) (s : Segment) → IsPart lo hi files r → Beside r.addr (r.addr + 4096 * r.count) s → SegmentsApart (part_load at r) s
part_beside lo hi files at r s h (inl a) = let b = h.some in inl (omega arith)
part_beside lo hi files at r s h (inr a) = let b = h.some in let w = h.whole in inr (omega arith)

part_pair : (lo hi files at : ℕ) (r q : Part) → IsPart lo hi files r → IsPart lo hi files q → PartsApart r q → SegmentsApart (part_load at r) (part_load at q)
part_pair lo hi files at r q h k (inl l) = let a = h.some in inl (omega arith)
part_pair lo hi files at r q h k (inr l) = let a = k.some in inr (omega arith)

private_part : (files at to lo hi : ℕ) (r : Part) → lo < hi → lo % 4096 ≡ 0 → hi % 4096 ≡ 0 → IsPart lo hi files r → ClearPart lo hi r → SegmentsApart (load_entry 6 to lo (hi - lo)) (part_load at r)
private_part files at to lo hi r l a b h (inl c) = let d = h.some in let w = h.whole in inr (omega arith)
private_part files at to lo hi r l a b h (inr c) = let d = h.some in let w = h.whole in inl (omega arith)

private_old : (to lo hi : ℕ) (s : Segment) → lo < hi → lo % 4096 ≡ 0 → hi % 4096 ≡ 0 → Beside lo hi s → SegmentsApart (load_entry 6 to lo (hi - lo)) s
private_old to lo hi s l a b (inl c) = inl (omega arith)
private_old to lo hi s l a b (inr c) = inr (omega arith)

table_apart : (at n : ℕ) (s : Segment) → 2 ≤ n → n ≤ 1024 → 0x20000 ≤ s.vaddr → SegmentsApart (load_entry 4 at 0x10000 (56 * n)) s
table_apart at n s l m v = inl (omega arith)

parts_and_olds : (j : Frame) → IsFrame j → Facts j → AllByRecursion (λ s. AllByRecursion (SegmentsApart s) (renewed (olds j) (moved_at j) (olds j))) (map (part_load (pages_at j)) j.parts)
parts_and_olds j h f =
    all_mapped (λ s. AllByRecursion (SegmentsApart s) (renewed (olds j) (moved_at j) (olds j))) (part_load (pages_at j)) j.parts
    (all_map (λ r. IsPart j.private_lo j.private_hi j.files r × IsNew j.orig r)
    (λ r. AllByRecursion (SegmentsApart (part_load (pages_at j) r)) (renewed (olds j) (moved_at j) (olds j))) j.parts
    (λ r k. renewed_keeps (SegmentsApart (part_load (pages_at j) r)) (olds j) (olds j) (moved_at j) (λ t to q. q)
    (all_map (Beside r.addr (r.addr + 4096 * r.count)) (SegmentsApart (part_load (pages_at j) r)) (olds j)
    (λ s q. part_beside j.private_lo j.private_hi j.files (pages_at j) r s k.0 q)
    (let w = k.0.whole in let z = k.0.some in
    new_beside j f r.addr (r.addr + 4096 * r.count) w (omega (arith, w)) (omega (arith, z)) k.1)))
    (all_both (IsPart j.private_lo j.private_hi j.files) (IsNew j.orig) j.parts h.parts h.new))

part_pairs : (lo hi files at : ℕ) (rs : List Part) → AllByRecursion (IsPart lo hi files) rs → PairsByRecursion PartsApart rs → PairsByRecursion (λ r q. SegmentsApart (part_load at r) (part_load at q)) rs
part_pairs lo hi files at [] i h = tt
part_pairs lo hi files at (r ∷ rs) i h = (
  all_map (λ q. IsPart lo hi files q × PartsApart r q) (λ q. SegmentsApart (part_load at r) (part_load at q)) rs (λ q k. part_pair lo hi files at r q i.0 k.0 k.1)
      (all_both (IsPart lo hi files) (PartsApart r) rs i.1 h.0),
  part_pairs lo hi files at rs i.1 h.1,
)

private_and_parts : (j : Frame) → IsFrame j → AllByRecursion (SegmentsApart (private_load j)) (map (part_load (pages_at j)) j.parts)
private_and_parts j h =
    all_mapped (SegmentsApart (private_load j)) (part_load (pages_at j)) j.parts
    (all_map (IsPart j.private_lo j.private_hi j.files) (λ r. SegmentsApart (private_load j) (part_load (pages_at j) r)) j.parts
    (λ r k. private_part j.files (pages_at j) (private_at j) j.private_lo j.private_hi r h.private_some h.private_whole.0 h.private_whole.1 k k.apart) h.parts)

private_and_olds : (j : Frame) → IsFrame j → Facts j → AllByRecursion (SegmentsApart (private_load j)) (renewed (olds j) (moved_at j) (olds j))
private_and_olds j h f =
    renewed_keeps (SegmentsApart (private_load j)) (olds j) (olds j) (moved_at j) (λ t to q. q)
    (all_map (Beside j.private_lo j.private_hi) (SegmentsApart (private_load j)) (olds j)
    (λ s k. private_old (private_at j) j.private_lo j.private_hi s h.private_some h.private_whole.0 h.private_whole.1 k)
    (new_beside j f j.private_lo j.private_hi h.private_whole.0 h.private_whole.1 h.private_some h.private_new))

-- all new PT_LOADs but the table are at 0x20000 or above
pub above_table : (j : Frame) → IsFrame j → Facts j → AllByRecursion (λ s. 0x20000 ≤ s.vaddr) (private_load j ∷ (map (part_load (pages_at j)) j.parts ++ renewed (olds j) (moved_at j) (olds j)))
above_table j h f = (
  h.private_low,
  all_append (λ s. 0x20000 ≤ s.vaddr) (map (part_load (pages_at j)) j.parts) (renewed (olds j) (moved_at j) (olds j))
      (all_mapped (λ s. 0x20000 ≤ s.vaddr) (part_load (pages_at j)) j.parts (all_map (IsPart j.private_lo j.private_hi j.files) (λ r. 0x20000 ≤ r.addr) j.parts (λ r k. k.low) h.parts))
      (renewed_keeps (λ s. 0x20000 ≤ s.vaddr) (olds j) (olds j) (moved_at j) (λ s to k. k)
      (all_map (IsPlaced 0x20000 (length j.orig)) (λ s. 0x20000 ≤ s.vaddr) (olds j) (λ s k. k.low) f.placed)),
)

-- no two PT_LOADs of the new table have a page in common
pub loads_apart : (j : Frame) → IsFrame j → Facts j → PairsByRecursion SegmentsApart (new_loads j)
loads_apart j h f =
    let rest : List Segment = map (part_load (pages_at j)) j.parts ++ renewed (olds j) (moved_at j) (olds j) in (
      all_map (λ s. 0x20000 ≤ s.vaddr) (SegmentsApart (table_load j)) (private_load j ∷ rest) (λ s v. table_apart (table_at j) (count j) s (omega arith) f.few v) (above_table j h f),
      (
        all_append (SegmentsApart (private_load j)) (map (part_load (pages_at j)) j.parts) (renewed (olds j) (moved_at j) (olds j)) (private_and_parts j h) (private_and_olds j h f),
        pairs_append SegmentsApart (map (part_load (pages_at j)) j.parts) (renewed (olds j) (moved_at j) (olds j))
            (pairs_mapped SegmentsApart (part_load (pages_at j)) j.parts (part_pairs j.private_lo j.private_hi j.files (pages_at j) j.parts h.parts h.parts_apart))
            (renewed_pairs (olds j) (olds j) (moved_at j) (olds_pairs 0 (olds j) f.ascends))
            (parts_and_olds j h f),
      ),
    )

-- of two segments with no page in common no address is in both
pub apart_covers : (s t : Segment) (a : ℕ) → SegmentsApart s t → covers s a ≡ true → covers t a ≡ false
apart_covers s t a (inl l) c =
    let k = covers_parts s a c in let p = k.0 in let q = k.1 in
    let r : a < t.vaddr = omega arith in below t.vaddr a t.memsz r
  where
    below : (v b m : ℕ) → b < v → (nat_le v b && nat_lt (b - v) m) ≡ false
    below v b m x = grind (arith, nat_tests)
apart_covers s t a (inr l) c = elim (cases_Bool (covers t a)) [
  | inr f ↦ f
  | inl d ↦
      let k = covers_parts s a c in let p = k.0 in
      let k2 = covers_parts t a d in let p2 = k2.0 in let q2 = k2.1 in
      absurd (omega arith)
]

-- the order of segments that are apart doesn't matter
swap : (s t : Bool) (x y z : Option Cell) → (s ≡ true → t ≡ false) → cond t y (cond s x z) ≡ cond s x (cond t y z)
swap true true x y z f = absurd (true≢false (f refl))
swap true false x y z f = refl
swap false true x y z f = refl
swap false false x y z f = refl

image_cond : (file : List ℕ) (a : ℕ) (b : Bool) (xs ys : List Segment) (o : Option Cell) → image (map (chunk_of file) xs) a ≡ o → image (map (chunk_of file) ys) a ≡ o → image (map (chunk_of file) (cond b xs ys)) a ≡ o
image_cond file a true xs ys o e f = e
image_cond file a false xs ys o e f = f

insert_image : (file : List ℕ) (a : ℕ) (s : Segment) (ss : List Segment) → AllByRecursion (SegmentsApart s) ss → image (map (chunk_of file) (insert_load s ss)) a ≡ image (map (chunk_of file) (s ∷ ss)) a
insert_image file a s [] h = refl
insert_image file a s (t ∷ ts) h =
    image_cond file a (nat_le s.vaddr t.vaddr) (s ∷ t ∷ ts) (t ∷ insert_load s ts) _ refl
    (ap (λ (o : Option Cell). cond (covers t a) (Some (cell_in (chunk_of file t) a)) o) (insert_image file a s ts h.1)
    ∙ swap (covers s a) (covers t a) (Some (cell_in (chunk_of file s) a)) (Some (cell_in (chunk_of file t) a)) (image (map (chunk_of file) ts) a) (apart_covers s t a h.0))

-- segments with no page in common give the same image in the order of their addresses
pub order_image : (file : List ℕ) (a : ℕ) (ss : List Segment) → PairsByRecursion SegmentsApart ss → image (map (chunk_of file) (in_order ss)) a ≡ image (map (chunk_of file) ss) a
order_image file a [] h = refl
order_image file a (s ∷ ss) h =
    insert_image file a s (in_order ss) (all_order (SegmentsApart s) ss h.0)
    ∙ ap (λ (o : Option Cell). cond (covers s a) (Some (cell_in (chunk_of file s) a)) o) (order_image file a ss h.1)

-- in their order they ascend by pages
ascends_insert : (page : ℕ) (s : Segment) (ss : List Segment) → page ≤ first_page s → 0 < s.memsz → AllByRecursion (SegmentsApart s) ss → Ascends page ss → Ascends page (insert_load s ss)
ascends_insert page s [] p m h a = (p, m, tt)
ascends_insert page s (t ∷ ts) p m h a = elim (cases_Bool (nat_le s.vaddr t.vaddr)) [
  | inl b ↦ subst (λ z. Ascends page z) (sym (cond-true (nat_le s.vaddr t.vaddr) (s ∷ t ∷ ts) (t ∷ insert_load s ts) b)) (p, m, (first_below (leb-true _ _ b) h.0, a.1, a.2))
  | inr b ↦ subst (λ z. Ascends page z) (sym (cond-false (nat_le s.vaddr t.vaddr) (s ∷ t ∷ ts) (t ∷ insert_load s ts) b)) (a.0, a.1, ascends_insert (last_page t + 1) s ts (first_above (leb-false _ _ b) h.0) m h.1 a.2)
]
  where
    first_below : s.vaddr ≤ t.vaddr → SegmentsApart s t → last_page s + 1 ≤ first_page t
    first_below l (inl q) = omega arith
    first_below l (inr q) = let o = page_order t a.1 in absurd (omega arith)

    first_above : t.vaddr < s.vaddr → SegmentsApart s t → last_page t + 1 ≤ first_page s
    first_above l (inl q) = let o = page_order s m in absurd (omega arith)
    first_above l (inr q) = omega arith

-- nonempty segments with no page in common, in the order of their addresses, ascend by pages
pub ascends_order : (ss : List Segment) → AllByRecursion (λ s. 0 < s.memsz) ss → PairsByRecursion SegmentsApart ss → Ascends 0 (in_order ss)
ascends_order [] m h = tt
ascends_order (s ∷ ss) m h = ascends_insert 0 s (in_order ss) (omega arith) m.0 (all_order (SegmentsApart s) ss h.0) (ascends_order ss m.1 h.1)
