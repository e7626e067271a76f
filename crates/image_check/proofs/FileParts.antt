-- What a file has of a segment stands in its image.
use Rattle.std.proofs.Common.{◌≡◌, ℕ, ◌+◌, ◌-◌, ◌/◌, ◌%◌, ◌<◌, ◌≤◌, Bool, true, false, cond, List, [], ◌∷◌, length, take, drop, slice_index, Option, Some, None, refl, sym, ap, ◌∙◌, subst, arith}
use Rattle.std.proofs.lemmas.Bool.{cond-true, cond-false}
use Rattle.std.proofs.lemmas.Bool.Decides.{nat_tests}
use Rattle.std.proofs.lemmas.List.{drop-drop, drop-take, get_or-drop, length-drop, length-take}
use Rattle.elf_read.specs.declared.segment.Segment.{Segment}
use Rattle.std.specs.List.{AllByRecursion}
use Rattle.elf_read.specs.Accepted.{Ascends, IsPlaced}
use Rattle.elf_read.specs.Entries.{loads, segments}
use Rattle.elf_read.specs.Find.{covers, segment_of, segment_holding}
use Rattle.elf_read.specs.Image.{image_of}
use Rattle.elf_read.specs.Refusals.{refusal, first_page, last_page}
use Rattle.elf_read.proofs.AcceptedFiles.{is_accepted}
use Rattle.elf_read.proofs.HoldingSegments.{image_at}
use Rattle.elf_read.proofs.SegmentSearch.{covers_parts, past}
use Rattle.patch_report.proofs.ListPlaces.{some_is}
use Rattle.image_check.specs.Stretches.{HasFrom}

-- what is left of a part of a file after its first bytes is the part from there on
pub rest_is : (o f k : ℕ) (file : List ℕ) → k < f → take (o + f - (o + k)) (drop (o + k) file) ≡ drop k (take f (drop o file))
rest_is o f k file l =
    let m : o + f - (o + k) ≡ f - k = omega (arith, l) in
    let n : k + (f - k) ≡ f = omega (arith, l) in
    ap (λ (z : ℕ). take z (drop (o + k) file)) m
    ∙ ap (λ (z : List ℕ). take (f - k) z) (sym (drop-drop k o file))
    ∙ sym (drop-take k (f - k) (drop o file))
    ∙ ap (λ (z : ℕ). drop k (take z (drop o file))) n

-- a segment that is found covers the address, and begins on a page from a first one on
pub record IsFound (page a : ℕ) (s : Segment) : Type 0 where
  pub covers : covers s a ≡ true
  pub high : page ≤ first_page s

-- the segment found at an address is the first of a list that covers it, or is found among the rest
found_step : (page a : ℕ) (s t : Segment) (o : Option Segment) (b : Bool) → covers t a ≡ b → page ≤ first_page t → (o ≡ Some s → IsFound page a s)
    → cond b (Some t) o ≡ Some s → IsFound page a s
found_step page a s t o true e l f h = subst (λ (z : Segment). IsFound page a z) (some_is t s h) (record { covers = e; high = l })
found_step page a s t o false e l f h = f h

-- what is found of ascending segments covers the address, and begins on a page from the first one on
pub found_in : (page a : ℕ) (ss : List Segment) (s : Segment) → Ascends page ss → segment_of ss a ≡ Some s → IsFound page a s
found_in page a [] s u h = absurd cc
found_in page a (t ∷ ss) s u h = found_step page a s t (segment_of ss a) (covers t a) refl u.0 (λ e.
    let f = found_in (last_page t + 1) a ss s u.2 e in let p = u.0 in let q = u.1 in record { covers = f.covers; high = omega (arith, f.high, p, q) }) h

-- a segment that covers an address covers those after it up to its end
covers_on : (s : Segment) (a b : ℕ) → covers s a ≡ true → a ≤ b → b < s.vaddr + s.memsz → covers s b ≡ true
covers_on s a b h l m = grind (arith, nat_tests)

-- a segment covers no address on a page after its last
past_one : (t : Segment) (b : ℕ) → 0 < t.memsz → last_page t + 1 ≤ b / 4096 → covers t b ≡ false
past_one t b n l = past t b (omega (arith, n, l))

-- the segment found at an address is found at those after it up to its end, with one more segment at the front
same_step : (a b : ℕ) (s t : Segment) (ss : List Segment) (o : Bool) → covers t a ≡ o → a ≤ b → b < s.vaddr + s.memsz
    → (segment_of ss a ≡ Some s → (covers t b ≡ false) × (segment_of ss b ≡ Some s))
    → cond o (Some t) (segment_of ss a) ≡ Some s → segment_of (t ∷ ss) b ≡ Some s
same_step a b s t ss true e l m f h =
    let k : t ≡ s = some_is t s h in
    cond-true (covers t b) (Some t) (segment_of ss b) (covers_on t a b e l (subst (λ (z : Segment). b < z.vaddr + z.memsz) (sym k) m)) ∙ ap (λ (z : Segment). Some z) k
same_step a b s t ss false e l m f h = let k = f h in cond-false (covers t b) (Some t) (segment_of ss b) k.0 ∙ k.1

-- the segment found at an address is found at those after it up to its end
same_segment : (page a b : ℕ) (ss : List Segment) (s : Segment) → Ascends page ss → segment_of ss a ≡ Some s → a ≤ b → b < s.vaddr + s.memsz
    → segment_of ss b ≡ Some s
same_segment page a b [] s u h l m = absurd cc
same_segment page a b (t ∷ ss) s u h l m = same_step a b s t ss (covers t a) refl l m (λ e.
    let f = found_in (last_page t + 1) a ss s u.2 e in
    let v = covers_parts s a f.covers in
    (past_one t b u.1 (omega (arith, f.high, v.0, l)), same_segment (last_page t + 1) a b ss s u.2 e l m)) h

-- the file's bytes of a segment from an address on
pub rest_has : (file : List ℕ) (a : ℕ) (s : Segment) → refusal 0x10000 file ≡ None → segment_holding file a ≡ Some s → s.filesz ≤ s.memsz
    → HasFrom (image_of file) a (s.flags % 8) (drop (a - s.vaddr) (take s.filesz (drop s.offset file)))
rest_has file a s r h z i l =
    let ss = loads (segments file) in
    let up = (is_accepted 0x10000 file r).ascends in
    let v = covers_parts s a (found_in 0 a ss s up h).covers in
    let xs = take s.filesz (drop s.offset file) in
    let n = length-drop (a - s.vaddr) xs in
    let k = length-take s.filesz (drop s.offset file) in
    let same = same_segment 0 a (a + i) ss s up h (omega arith) (omega (arith, l, n, k, z, v.0)) in
    let at : a + i - s.vaddr ≡ a - s.vaddr + i = omega (arith, v.0) in
    image_at file (a + i) (segment_holding file (a + i)) (Some s) refl same
    ∙ ap (λ (b : ℕ). Some (record { byte = b; perms = s.flags % 8 })) (ap (λ (j : ℕ). slice_index xs j) at ∙ sym (get_or-drop (a - s.vaddr) xs i 0))

-- what each segment keeps, the one that is found keeps
all_step : (P : Segment → Type 0) (t s : Segment) (o : Option Segment) (b : Bool) → P t → (o ≡ Some s → P s) → cond b (Some t) o ≡ Some s → P s
all_step P t s o true p f h = subst P (some_is t s h) p
all_step P t s o false p f h = f h

-- what holds of each segment holds of the one that is found
pub found_all : (P : Segment → Type 0) (ss : List Segment) (a : ℕ) (s : Segment) → AllByRecursion P ss → segment_of ss a ≡ Some s → P s
found_all P [] a s p h = absurd cc
found_all P (t ∷ ss) a s p h = all_step P t s (segment_of ss a) (covers t a) p.0 (λ e. found_all P ss a s p.1 e) h

-- what the segment that holds an address has from there on in the file stands in the image
pub rest_stands : (bytes file : List ℕ) (a : ℕ) (o : Option Segment) (s : Segment) (perms : ℕ) (rest : List ℕ) → refusal 0x10000 bytes ≡ None
    → file ≡ bytes → o ≡ segment_holding bytes a → o ≡ Some s → perms ≡ s.flags % 8
    → rest ≡ drop (a - s.vaddr) (take s.filesz (drop s.offset file)) → HasFrom (image_of bytes) a perms rest
rest_stands bytes file a o s perms rest r f e q m d =
    let h : segment_holding bytes a ≡ Some s = sym e ∙ q in
    let z = (found_all (IsPlaced 0x10000 (length bytes)) (loads (segments bytes)) a s (is_accepted 0x10000 bytes r).placed h).sizes in
    let w : rest ≡ drop (a - s.vaddr) (take s.filesz (drop s.offset bytes)) = d ∙ ap (λ (xs : List ℕ). drop (a - s.vaddr) (take s.filesz (drop s.offset xs))) f in
    let H : ℕ → List ℕ → Type 0 = λ p xs. HasFrom (image_of bytes) a p xs in
    subst (λ (p : ℕ). H p rest) (sym m) (subst (λ (xs : List ℕ). H (s.flags % 8) xs) (sym w) (rest_has bytes a s r h z))
