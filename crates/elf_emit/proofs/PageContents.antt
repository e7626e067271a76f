-- What a page gets from the parts of the file: the header's fields, the segments' bytes, copied and zero bytes.
use Rattle.std.proofs.Common.{◌≡◌, ℕ, zero, suc, ◌+◌, ◌-◌, ◌<◌, ◌≤◌, ◌⊎◌, inl, inr, List, [], ◌∷◌, ◌++◌, length, take, drop, get_or, replicate, Option, Some, None, refl, sym, ap, ◌∙◌, subst, arith}
use Rattle.std.proofs.lemmas.List.{take_all, drop_all, drop_more, drop-take, drop-replicate, append-nil}
use Rattle.byteorder.specs.Endian.{little_bytes}
use Rattle.pun_base.specs.Field.{with_field}
use Rattle.elf_read.specs.declared.segment.Segment.{Segment}
use Rattle.elf_emit.specs.declared.runs.Page.{Page}
use Rattle.elf_emit.specs.Job.{BytesAt}
use Rattle.elf_emit.specs.Layout.{slice, placed, rewritten, content, layered, group_page}
use Rattle.elf_emit.specs.PageByPage.{place_field, count_field, entry_fields, contents}
use Rattle.elf_emit.specs.Windows.{IsOverlap, IsHeld, AreHeld}
use Rattle.elf_emit.proofs.PlacedSlices.{length_content, length_rewritten}
use Rattle.elf_read.proofs.FileSlices.{length_slice}
use Rattle.elf_emit.proofs.OriginalFacts.{length_field}
use Rattle.elf_emit.proofs.OverwrittenBytes.{rewritten-cons, rewritten-nil}
use Rattle.elf_emit.proofs.PartialWrites.{missed, over_part, slice-rewritten, drop_twice}
use Rattle.elf_emit.proofs.FrontPages.{field_written, field_missed, three_written}

-- where no more than n bytes are left, they are the part of n bytes
pub window_rest : (n at : ℕ) (file rest : List ℕ) → rest ≡ drop at file → length rest ≤ n → rest ≡ slice n at file
window_rest n at file rest e l = sym (take_all n rest l) ∙ ap (λ (z : List ℕ). take n z) e

-- a page at offset 0 in which the table's place and count are set has those two fields written over it
pub header_put : (page : List ℕ) (lo place n : ℕ) → 64 ≤ length page → lo ≡ 0 → with_field 2 56 n (with_field 8 32 place page) ≡ rewritten (place_field place ∷ count_field n ∷ []) lo page
header_put page lo place n l z =
    let lf = length_field 8 32 place page (omega arith) in
    sym (ap (λ (x : ℕ). rewritten (place_field place ∷ count_field n ∷ []) x page) z
    ∙ three_written (place_field place) (count_field n) [] 0 page (with_field 8 32 place page) (with_field 2 56 n (with_field 8 32 place page))
    (one 8 32 place page (omega arith)) (one 2 56 n (with_field 8 32 place page) (omega arith))
    ∙ rewritten-nil 0 (with_field 2 56 n (with_field 8 32 place page)))
  where
    one : (m at v : ℕ) (xs : List ℕ) → at + m ≤ length xs → rewritten (record { addr = at; now = little_bytes m v } ∷ []) 0 xs ≡ with_field m at v xs
    one m at v xs k =
        ap (λ (z : List ℕ). rewritten (record { addr = at; now = little_bytes m v } ∷ []) 0 z) (sym (append-nil xs))
        ∙ field_written m at v xs [] k ∙ append-nil (with_field m at v xs)

-- a page from offset 58 or further on has none of the header's fields
pub header_missed : (page : List ℕ) (lo place n : ℕ) → 58 ≤ lo → page ≡ rewritten (place_field place ∷ count_field n ∷ []) lo page
header_missed page lo place n l =
    sym (three_written (place_field place) (count_field n) [] lo page page page (field_missed 8 32 place lo page (omega arith)) (field_missed 2 56 n lo page (omega arith))
    ∙ rewritten-nil lo page)

-- where the program starts as the original does, no start is written
pub start_kept : (o : Option ℕ) (page : List ℕ) (lo : ℕ) → o ≡ None → page ≡ rewritten (entry_fields o) lo page
start_kept o page lo e = sym (ap (λ (z : Option ℕ). rewritten (entry_fields z) lo page) e ∙ rewritten-nil lo page)

-- a page at offset 0 gets the new start
pub start_put : (o : Option ℕ) (page : List ℕ) (lo start : ℕ) → o ≡ Some start → 64 ≤ length page → lo ≡ 0 → with_field 8 24 start page ≡ rewritten (entry_fields o) lo page
start_put o page lo start e l z =
    sym (ap (λ (y : Option ℕ). rewritten (entry_fields y) lo page) e
    ∙ ap (λ (x : ℕ). rewritten (entry_fields (Some start)) x page) z
    ∙ ap (λ (x : List ℕ). rewritten (entry_fields (Some start)) 0 x) (sym (append-nil page))
    ∙ field_written 8 24 start page [] (omega (arith, l)) ∙ append-nil (with_field 8 24 start page))

-- a page from offset 32 on has no byte of the start
pub start_missed : (o : Option ℕ) (page : List ℕ) (lo start : ℕ) → o ≡ Some start → 32 ≤ lo → page ≡ rewritten (entry_fields o) lo page
start_missed o page lo start e l = sym (ap (λ (y : Option ℕ). rewritten (entry_fields y) lo page) e ∙ field_missed 8 24 start lo page (omega (arith, l)))

-- a part of a segment's bytes
take_fewer : (n m : ℕ) (xs : List ℕ) → n ≤ m → take n (take m xs) ≡ take n xs
take_fewer zero m xs l = refl
take_fewer (suc n) zero xs l = absurd (omega arith)
take_fewer (suc n) (suc m) [] l = refl
take_fewer (suc n) (suc m) (x ∷ xs) l = ap (λ (z : List ℕ). x ∷ z) (take_fewer n m xs (omega arith))

slice_slice : (n k m o : ℕ) (xs : List ℕ) → k + n ≤ m → slice n k (slice m o xs) ≡ slice n (o + k) xs
slice_slice n k m o xs l =
    let e : k + (m - k) ≡ m = omega arith in
    ap (λ (x : ℕ). take n (drop k (take x (drop o xs)))) (sym e)
    ∙ ap (λ (z : List ℕ). take n z) (drop-take k (m - k) (drop o xs))
    ∙ take_fewer n (m - k) (drop k (drop o xs)) (omega arith)
    ∙ ap (λ (z : List ℕ). take n z) (drop_twice o k xs)

-- a page with those bytes of a segment that it meets is the page with the segment's bytes written over it
pub content_put : (ws : List BytesAt) (file page new : List ℕ) (s : Segment) (lo at start skip n : ℕ) → IsHeld (length file) s at → IsOverlap lo (length page) at s.filesz start skip n
    → new ≡ placed page start (rewritten ws (s.vaddr + skip) (slice n (s.offset + skip) file))
    → new ≡ rewritten (record { addr = at; now = content ws file s } ∷ []) lo page
content_put ws file page new s lo at start skip n h o e =
    let k = length_content ws file s h.in_file in
    let c : List ℕ = content ws file s in
    let part : slice n skip c ≡ rewritten ws (s.vaddr + skip) (slice n (s.offset + skip) file) =
    slice-rewritten ws s.vaddr n skip (slice s.filesz s.offset file) ∙ ap (λ (z : List ℕ). rewritten ws (s.vaddr + skip) z) (slice_slice n skip s.filesz s.offset file o.within) in
    e ∙ ap (λ (z : List ℕ). placed page start z) (sym part)
    ∙ sym (over_part at lo start skip n c page o.meets o.inside (let w = o.within in omega arith) o.first (ends k o.last))
  where
    ends : length (content ws file s) ≡ s.filesz → (start + n ≡ length page) ⊎ (skip + n ≡ s.filesz) → (start + n ≡ length page) ⊎ (skip + n ≡ length (content ws file s))
    ends k (inl p) = inl p
    ends k (inr p) = inr (omega arith)

-- a page that doesn't meet a segment's bytes is as it was
pub content_missed : (ws : List BytesAt) (file page : List ℕ) (s : Segment) (lo at : ℕ) → IsHeld (length file) s at → (at + s.filesz ≤ lo) ⊎ (lo + length page ≤ at)
    → page ≡ rewritten (record { addr = at; now = content ws file s } ∷ []) lo page
content_missed ws file page s lo at h o =
    let k = length_content ws file s h.in_file in sym (missed (record { addr = at; now = content ws file s } ∷ []) lo page (turned k o, tt))
  where
    turned : length (content ws file s) ≡ s.filesz → (at + s.filesz ≤ lo) ⊎ (lo + length page ≤ at) → (at + length (content ws file s) ≤ lo) ⊎ (lo + length page ≤ at)
    turned k (inl p) = inl (omega arith)
    turned k (inr p) = inr p

-- of segments that are held at their new places, those behind the next one are held at theirs
pub held_later : (len : ℕ) (ss ns : List Segment) (i : ℕ) (d : Segment) → i < length ss → i < length ns → AreHeld len (drop i ss) (drop i ns) → AreHeld len (drop (i + 1) ss) (drop (i + 1) ns)
held_later len ss ns i d l m h = (first (drop_more ss i d l) (drop_more ns i d m) h).1
  where
    first : drop i ss ≡ get_or ss i d ∷ drop (i + 1) ss → drop i ns ≡ get_or ns i d ∷ drop (i + 1) ns → AreHeld len (drop i ss) (drop i ns)
        → AreHeld len (get_or ss i d ∷ drop (i + 1) ss) (get_or ns i d ∷ drop (i + 1) ns)
    first a b k = subst (λ z. AreHeld len (get_or ss i d ∷ drop (i + 1) ss) z) b (subst (λ z. AreHeld len z (drop i ns)) a k)

-- once the next segment's bytes are written over a page, one segment less is to come
pub contents_more : (ws : List BytesAt) (file : List ℕ) (ss ns : List Segment) (i lo : ℕ) (d : Segment) (was new out : List ℕ) → i < length ss → i < length ns
    → new ≡ rewritten (record { addr = (get_or ns i d).offset; now = content ws file (get_or ss i d) } ∷ []) lo was
    → rewritten (contents ws file (drop i ss) (drop i ns)) lo was ≡ out → rewritten (contents ws file (drop (i + 1) ss) (drop (i + 1) ns)) lo new ≡ out
contents_more ws file ss ns i lo d was new out l m e h =
    ap (λ (z : List ℕ). rewritten (contents ws file (drop (i + 1) ss) (drop (i + 1) ns)) lo z) e
    ∙ sym (rewritten-cons (record { addr = (get_or ns i d).offset; now = content ws file (get_or ss i d) }) (contents ws file (drop (i + 1) ss) (drop (i + 1) ns)) lo was)
    ∙ sym (λ k. rewritten (contents ws file (drop_more ss i d l k) (drop_more ns i d m k)) lo was) ∙ h

no_contents : (ws : List BytesAt) (file : List ℕ) (ss : List Segment) → contents ws file ss [] ≡ []
no_contents ws file [] = refl
no_contents ws file (s ∷ ss) = refl

-- past the last segment, the page is as all segments leave it
pub contents_done : (ws : List BytesAt) (file : List ℕ) (ss ns : List Segment) (i lo : ℕ) (was out : List ℕ) → (length ss ≤ i) ⊎ (length ns ≤ i)
    → rewritten (contents ws file (drop i ss) (drop i ns)) lo was ≡ out → was ≡ out
contents_done ws file ss ns i lo was out (inl l) h =
    sym (ap (λ z. rewritten (contents ws file z (drop i ns)) lo was) (drop_all i ss l) ∙ rewritten-nil lo was) ∙ h
contents_done ws file ss ns i lo was out (inr l) h =
    sym (ap (λ z. rewritten (contents ws file (drop i ss) z) lo was) (drop_all i ns l) ∙ ap (λ z. rewritten z lo was) (no_contents ws file (drop i ss)) ∙ rewritten-nil lo was) ∙ h

-- the header's fields and the segments' bytes
started : (start : Option ℕ) (ws : List BytesAt) (lo : ℕ) (a : List ℕ) → rewritten ws lo (rewritten (entry_fields start) lo a) ≡ rewritten (entry_fields start ++ ws) lo a
started None ws lo a = ap (λ (z : List ℕ). rewritten ws lo z) (rewritten-nil lo a)
started (Some start) ws lo a = sym (rewritten-cons (record { addr = 24; now = little_bytes 8 start }) ws lo a)

-- the start, the header's two fields and the segments' bytes, one after the other, are all written over the page
pub front_put : (start : Option ℕ) (v w : BytesAt) (ws : List BytesAt) (lo : ℕ) (a b c : List ℕ) → b ≡ rewritten (v ∷ w ∷ []) lo (rewritten (entry_fields start) lo a) → c ≡ rewritten ws lo b
    → c ≡ rewritten (entry_fields start ++ (v ∷ w ∷ ws)) lo a
front_put start v w ws lo a b c e f =
    let d : List ℕ = rewritten (entry_fields start) lo a in
    f ∙ ap (λ (z : List ℕ). rewritten ws lo z) (e ∙ rewritten-cons v (w ∷ []) lo d)
    ∙ sym (rewritten-cons v (w ∷ ws) lo d ∙ rewritten-cons w ws lo (rewritten (v ∷ []) lo d))
    ∙ started start (v ∷ w ∷ ws) lo a

-- what is copied to a page of zeros, with the zeros behind it, is the part of the file filled with zeros
pub copied : (n k : ℕ) (part page new part_is : List ℕ) → new ≡ part → part ≡ part_is → page ≡ replicate k 0 → k ≡ n → new ++ drop (length part) page ≡ part_is ++ replicate (n - length part_is) 0
copied n k part page new part_is e q p m =
    (λ i. e i ++ drop (length part) (p i)) ∙ ap (λ (z : List ℕ). part ++ z) (drop-replicate {X = ℕ} (length part) k 0)
    ∙ (λ i. q i ++ replicate (m i - length (q i)) 0)

-- what the pages of a group make of 4,096 zeros is the group page
pub group_page_is : (pieces : List BytesAt) (pages : List Page) (group k : ℕ) (zeros new : List ℕ) → new ≡ layered pieces pages group zeros → zeros ≡ replicate k 0 → k ≡ 4096 → new ≡ group_page pieces pages group
unfolding group_page
group_page_is pieces pages group k zeros new e z q = e ∙ ap (layered pieces pages group) (z ∙ ap (λ (n : ℕ). replicate n 0) q)

-- a part of a segment's bytes, copied into a page and written over, is the segment's bytes written over the page
pub part_put : (ws : List BytesAt) (file page mid bytes new : List ℕ) (s : Segment) (lo at start skip n : ℕ) → IsHeld (length file) s at → IsOverlap lo (length page) at s.filesz start skip n
    → mid ≡ take (s.offset + skip + n - (s.offset + skip)) (drop (s.offset + skip) file) → bytes ≡ rewritten ws (s.vaddr + skip) mid
    → new ≡ take start page ++ (bytes ++ drop (start + n - start) (drop start page))
    → new ≡ rewritten (record { addr = at; now = content ws file s } ∷ []) lo page
part_put ws file page mid bytes new s lo at start skip n h o e q p =
    let k : s.offset + skip + n - (s.offset + skip) ≡ n = omega arith in
    let r : List ℕ = rewritten ws (s.vaddr + skip) (slice n (s.offset + skip) file) in
    let b : bytes ≡ r = q ∙ ap (λ (z : List ℕ). rewritten ws (s.vaddr + skip) z) (e ∙ ap (λ (m : ℕ). take m (drop (s.offset + skip) file)) k) in
    let i = h.in_file in let w = o.within in
    let len : length r ≡ n = length_rewritten ws (s.vaddr + skip) (slice n (s.offset + skip) file) ∙ length_slice n (s.offset + skip) file (omega arith) in
    let m : start + n - start ≡ length r = omega arith in
    content_put ws file page new s lo at start skip n h o
    (p ∙ ap (λ (z : List ℕ). take start page ++ (bytes ++ z)) (drop_twice start (start + n - start) page)
    ∙ (λ j. take start page ++ (b j ++ drop (start + m j) page)))
