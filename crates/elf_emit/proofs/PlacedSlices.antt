-- Slices of a list in which other bytes were put: those that were put, and those elsewhere.
use Rattle.std.proofs.Common.{◌≡◌, ℕ, suc, ◌+◌, ◌-◌, ◌≤◌, ◌⊎◌, inl, inr, List, [], ◌∷◌, ◌++◌, length, take, drop, replicate, refl, sym, ap, ◌∙◌, subst, arith, append_assoc}
use Rattle.std.proofs.Math.Seq.{take-append_seam}
use Rattle.std.proofs.lemmas.List.{take-append-drop, length-append, length-replicate, length-take-le, length-drop, drop_at}
use Rattle.std.specs.List.{AllByRecursion}
use Rattle.elf_read.specs.declared.segment.Segment.{Segment}
use Rattle.elf_read.proofs.FileSlices.{slice_within, slice_past, length_slice}
use Rattle.elf_emit.specs.Job.{BytesAt}
use Rattle.elf_emit.specs.Layout.{slice, placed, pad, padded, up, rewritten, content, placed_all}
use Rattle.elf_emit.specs.Laws.{PairsByRecursion}
use Rattle.elf_emit.specs.Views.{InFile}

-- bytes filled to whole pages are as many as the next multiple of 4,096
pub length_padded : (bs : List ℕ) → length (padded bs) ≡ up (length bs)
length_padded bs = length-append bs (replicate (pad (length bs)) 0) ∙ ap (λ (n : ℕ). length bs + n) (length-replicate (pad (length bs)) 0)

-- bytes put inside a list leave its length
pub length_placed : (xs : List ℕ) (at : ℕ) (new : List ℕ) → at + length new ≤ length xs → length (placed xs at new) ≡ length xs
length_placed xs at new l =
    omega (arith, length-append (take at xs) (new ++ drop (at + length new) xs), length-append new (drop (at + length new) xs), length-take-le at xs (omega arith), length-drop (at + length new) xs)

-- bytes that were put at a place are found there
pub slice_placed : (xs : List ℕ) (at : ℕ) (new : List ℕ) → at ≤ length xs → slice (length new) at (placed xs at new) ≡ new
slice_placed xs at new l =
    ap (λ (z : List ℕ). take (length new) z) (drop_at (take at xs) (new ++ drop (at + length new) xs) at (length-take-le at xs l))
    ∙ take-append_seam new (drop (at + length new) xs)

slice_before : (n k : ℕ) (xs : List ℕ) (at : ℕ) (r : List ℕ) → at ≤ length xs → k + n ≤ at → slice n k (take at xs ++ r) ≡ slice n k xs
slice_before n k xs at r l p =
    let e = length-take-le at xs l in
    slice_within n k (take at xs) r (omega arith) ∙ sym (slice_within n k (take at xs) (drop at xs) (omega arith)) ∙ ap (λ (z : List ℕ). slice n k z) (take-append-drop at xs)

slice_after : (n k : ℕ) (xs : List ℕ) (at : ℕ) (new : List ℕ) → at + length new ≤ length xs → slice n (at + length new + k) (placed xs at new) ≡ slice n (at + length new + k) xs
slice_after n k xs at new l =
    let e = length-take-le at xs (omega arith) in
    let f : length (take at xs ++ new) ≡ at + length new = length-append (take at xs) new ∙ ap (λ (z : ℕ). z + length new) e in
    ap (λ (z : List ℕ). slice n (at + length new + k) z) (sym (append_assoc (take at xs) new (drop (at + length new) xs)))
    ∙ slice_past n (at + length new) k (take at xs ++ new) (drop (at + length new) xs) f
    ∙ sym (slice_past n (at + length new) k (take (at + length new) xs) (drop (at + length new) xs) (length-take-le (at + length new) xs l))
    ∙ ap (λ (z : List ℕ). slice n (at + length new + k) z) (take-append-drop (at + length new) xs)

-- a part apart from the bytes that were put is as before
pub slice_elsewhere : (n k : ℕ) (xs : List ℕ) (at : ℕ) (new : List ℕ) → at + length new ≤ length xs → (k + n ≤ at) ⊎ (at + length new ≤ k) → slice n k (placed xs at new) ≡ slice n k xs
slice_elsewhere n k xs at new l (inl p) = slice_before n k xs at (new ++ drop (at + length new) xs) (omega arith) p
slice_elsewhere n k xs at new l (inr p) =
    let e : at + length new + (k - (at + length new)) ≡ k = omega arith in
    subst (λ (z : ℕ). slice n z (placed xs at new) ≡ slice n z xs) e (slice_after n (k - (at + length new)) xs at new l)

-- writes leave the number of bytes
pub length_rewritten : (ws : List BytesAt) (a : ℕ) (bs : List ℕ) → length (rewritten ws a bs) ≡ length bs
length_rewritten ws a [] = refl
length_rewritten ws a (b ∷ bs) = ap suc (length_rewritten ws (a + 1) bs)

-- a segment has as many bytes after all writes as its entry tells
pub length_content : (ws : List BytesAt) (orig : List ℕ) (s : Segment) → InFile (length orig) s → length (content ws orig s) ≡ s.filesz
length_content ws orig s l = length_rewritten ws s.vaddr (slice s.filesz s.offset orig) ∙ length_slice s.filesz s.offset orig l

-- a file in which segments' bytes were put is as long as the original
pub length_placed_all : (ws : List BytesAt) (orig : List ℕ) (ss : List Segment) (f : List ℕ) → length f ≡ length orig → AllByRecursion (InFile (length orig)) ss → length (placed_all ws orig ss f) ≡ length orig
length_placed_all ws orig [] f e i = e
length_placed_all ws orig (s ∷ ss) f e i =
    let c = length_content ws orig s i.0 in
    length_placed_all ws orig ss (placed f s.offset (content ws orig s)) (length_placed f s.offset (content ws orig s) (let h = i.0 in omega arith) ∙ e) i.1

-- a range apart from each of these segments' is as before
abbrev pub AwayFrom : ℕ → ℕ → Segment → Type 0
AwayFrom n k s = (k + n ≤ s.offset) ⊎ (s.offset + s.filesz ≤ k)

away_step : (n k : ℕ) (s : Segment) (m : ℕ) → m ≡ s.filesz → AwayFrom n k s → (k + n ≤ s.offset) ⊎ (s.offset + m ≤ k)
away_step n k s m e (inl p) = inl p
away_step n k s m e (inr p) = inr (omega arith)

-- a range apart from all segments that were put is as before
pub away : (n k : ℕ) (ws : List BytesAt) (orig : List ℕ) (ss : List Segment) (f : List ℕ) → length f ≡ length orig → AllByRecursion (InFile (length orig)) ss → AllByRecursion (AwayFrom n k) ss → slice n k (placed_all ws orig ss f) ≡ slice n k f
away n k ws orig [] f e i w = refl
away n k ws orig (s ∷ ss) f e i w =
    let c = length_content ws orig s i.0 in
    let r : s.offset + length (content ws orig s) ≤ length f = let h = i.0 in omega arith in
    away n k ws orig ss (placed f s.offset (content ws orig s)) (length_placed f s.offset (content ws orig s) r ∙ e) i.1 w.1
    ∙ slice_elsewhere n k f s.offset (content ws orig s) r (away_step n k s (length (content ws orig s)) c w.0)

-- no byte of the file in both
abbrev pub FileApart : Segment → Segment → Type 0
FileApart s t = (s.offset + s.filesz ≤ t.offset) ⊎ (t.offset + t.filesz ≤ s.offset)

away_of : (s : Segment) (ss : List Segment) → AllByRecursion (FileApart s) ss → AllByRecursion (AwayFrom s.filesz s.offset) ss
away_of s [] h = tt
away_of s (t ∷ ts) h = (h.0, away_of s ts h.1)

-- segments' bytes that were put at places apart from each other are found there
pub contents_found : (ws : List BytesAt) (orig : List ℕ) (ss : List Segment) (f : List ℕ) → length f ≡ length orig → AllByRecursion (InFile (length orig)) ss → PairsByRecursion FileApart ss → AllByRecursion (λ s. slice s.filesz s.offset (placed_all ws orig ss f) ≡ content ws orig s) ss
contents_found ws orig [] f e i p = tt
contents_found ws orig (s ∷ ss) f e i p =
    let c = length_content ws orig s i.0 in
    let g : List ℕ = placed f s.offset (content ws orig s) in
    let r : s.offset + length (content ws orig s) ≤ length f = let h = i.0 in omega arith in
    let q : length g ≡ length orig = length_placed f s.offset (content ws orig s) r ∙ e in (
      away s.filesz s.offset ws orig ss g q i.1 (away_of s ss p.0)
          ∙ subst (λ (m : ℕ). slice m s.offset g ≡ content ws orig s) c (slice_placed f s.offset (content ws orig s) (omega arith)),
      contents_found ws orig ss g q i.1 p.1,
    )
