-- What a file loads goes on from one address to the next, but where the bytes are the file's and where a segment ends.
use Rattle.std.proofs.Common.{◌≡◌, ◌⊎◌, inl, inr, ℕ, zero, suc, ◌+◌, ◌-◌, ◌%◌, ◌<◌, ◌≤◌, Bool, true, false, List, [], ◌∷◌, ◌++◌, map, length, slice_index, take, drop, Option, Some, None, refl, sym, ap, ◌∙◌, arith}
use Rattle.std.specs.Prelude.{◌||◌, ◌&&◌, ◌==◌, not, nat_le}
use Rattle.std.specs.List.{list_any, AllByRecursion}
use Rattle.std.proofs.lemmas.Bool.{cases_Bool, cases_lt, and_parts, and_from, cond-true, cond-false, le-leb, leb-true, eq-eqb}
use Rattle.std.proofs.lemmas.Bool.Decides.{nat_tests}
use Rattle.std.proofs.lemmas.List.{get_or_past, length-take}
use Rattle.std.proofs.lemmas.List.Folds.{list_any-append}
use Rattle.pun_base.specs.Memory.{Cell}
use Rattle.pun_base.specs.Ranges.{is_within}
use Rattle.elf_read.specs.declared.segment.Segment.{Segment}
use Rattle.elf_read.specs.Accepted.{IsPlaced}
use Rattle.elf_read.specs.Entries.{loads, segments}
use Rattle.elf_read.specs.Image.{image, image_of, chunk_of, holds, cell_in}
use Rattle.elf_read.specs.Refusals.{refusal}
use Rattle.elf_read.proofs.AcceptedFiles.{is_accepted}
use Rattle.image_check.specs.declared.rule.Rule.TheVariants as rule
use Rattle.image_check.specs.declared.span.Span.{Span}
use Rattle.image_check.specs.Parts.{FindsFirst, in_span, in_spans, single_span, backed_span, end_span, file_spans, byte_spans}
use Rattle.sound_images.specs.Reports.{is_written}
use Rattle.sound_images.specs.Rules.{Case, differs, ByteFails}
use Rattle.image_check.proofs.SharedPages.{any_map}

-- where not either of two tests passes, neither does
neither : (a b : Bool) → (a || b) ≡ false → (a ≡ false) × (b ≡ false)
neither true b h = absurd cc
neither false b h = (refl, h)

-- where nothing of two lists together passes, nothing of either does
pub neither_of : {X : Type 0} (p : X → Bool) (xs ys : List X) → list_any p (xs ++ ys) ≡ false
    → (list_any p xs ≡ false) × (list_any p ys ≡ false)
neither_of p xs ys h = neither (list_any p xs) (list_any p ys) (sym (list_any-append p xs ys) ∙ h)

-- where nothing of a list passes, neither its first does nor anything of the others
pub neither_first : {X : Type 0} (p : X → Bool) (x : X) (xs : List X) → list_any p (x ∷ xs) ≡ false
    → (p x ≡ false) × (list_any p xs ≡ false)
neither_first p x xs h = neither (p x) (list_any p xs) h

-- no element passes
none_passes : {X : Type 0} (p : X → Bool) (xs : List X) → list_any p xs ≡ false → AllByRecursion (λ x. p x ≡ false) xs
none_passes p [] h = tt
none_passes p (x ∷ xs) h = let q = neither_first p x xs h in (q.0, none_passes p xs q.1)

-- where nothing passes of what a list is mapped to, no element passes by what it is mapped to
pub none_mapped : {X Y : Type 0} (p : Y → Bool) (f : X → Y) (xs : List X) → list_any p (map f xs) ≡ false
    → AllByRecursion (λ x. p (f x) ≡ false) xs
none_mapped p f xs h = none_passes (λ x. p (f x)) xs (sym (any_map p f xs) ∙ h)

-- an address outside of a span is below its first one or above its last
pub outside : (y : ℕ) (s : Span) → in_span y s ≡ false → (y < s.first) ⊎ (s.last < y)
outside y s h = elim (cases_lt y s.first) [
  | inl k ↦ inl k
  | inr k ↦ elim (cases_lt s.last y) [
    | inl m ↦ inr m
    | inr m ↦ (let e = and_from (nat_le s.first y) (nat_le y s.last) (le-leb s.first y k) (le-leb y s.last m) in absurd cc)
  ]
]

-- two neighbours that lie below a range are in it alike
within_low : (v m x : ℕ) → suc x < v → is_within v m (suc x) ≡ is_within v m x
within_low v m x l = grind (arith, nat_tests)

-- two neighbours that lie in a range are in it alike
within_inside : (v m x : ℕ) → v ≤ x → suc x < v + m → is_within v m (suc x) ≡ is_within v m x
within_inside v m x l n = grind (arith, nat_tests)

-- two neighbours of which the upper one lies past the end of a range are in it alike
within_behind : (v m x : ℕ) → v ≤ x → v + m < suc x → is_within v m (suc x) ≡ is_within v m x
within_behind v m x l n = grind (arith, nat_tests)

-- an address is none of the bytes that the file has of a segment, and not the one after the segment
pub record IsPast (s : Segment) (x : ℕ) : Type 0 where
  pub backed : (suc x < s.vaddr) ⊎ (s.vaddr + s.filesz < suc x)
  pub end : (suc x < s.vaddr + s.memsz) ⊎ (s.vaddr + s.memsz < suc x)

-- outside the spans of a segment an address is none of the bytes that the file has of it, and not its end
past_of : (n : ℕ) (s : Segment) (x : ℕ) → IsPlaced 0x10000 n s → in_span (suc x) (backed_span s) ≡ false
    → in_span (suc x) (end_span s) ≡ false → IsPast s x
past_of n s x p b e = record {
  backed = elim (outside (suc x) (backed_span s) b) [ inl k ↦ inl k | inr k ↦ inr (omega (arith, k, p.high, p.sizes)) ];
  end = elim (outside (suc x) (end_span s) e) [ inl k ↦ inl (omega (arith, k, p.high)) | inr k ↦ inr (omega (arith, k, p.high)) ];
}

-- two neighbours, both below a segment or neither, and both before its end or behind it, are held by it alike
pub held_alike : (file : List ℕ) (s : Segment) (x : ℕ) → (suc x < s.vaddr) ⊎ (s.vaddr ≤ x) → (suc x < s.vaddr + s.memsz) ⊎ (s.vaddr + s.memsz < suc x)
    → holds (chunk_of file s) (suc x) ≡ holds (chunk_of file s) x
held_alike file s x (inl k) e = within_low s.vaddr s.memsz x k
held_alike file s x (inr k) (inl m) = within_inside s.vaddr s.memsz x k m
held_alike file s x (inr k) (inr m) = within_behind s.vaddr s.memsz x k m

-- where an address is no byte of the file's and not the end of a segment, the segment holds it and the one below, or neither
held_on : (file : List ℕ) (s : Segment) (x : ℕ) → IsPast s x → holds (chunk_of file s) (suc x) ≡ holds (chunk_of file s) x
held_on file s x p = held_alike file s x (elim p.backed [ inl k ↦ inl k | inr k ↦ inr (omega (arith, k)) ]) p.end

-- a byte past the file's is zero
zero_past : (file : List ℕ) (s : Segment) (y : ℕ) → s.vaddr + s.filesz ≤ y
    → slice_index (take s.filesz (drop s.offset file)) (y - s.vaddr) ≡ 0
zero_past file s y l =
    get_or_past (take s.filesz (drop s.offset file)) (y - s.vaddr) 0 (omega (arith, l, length-take s.filesz (drop s.offset file)))

-- an address within a range lies at or above the range's first
held_parts : (v m y : ℕ) → is_within v m y ≡ true → v ≤ y
held_parts v m y h = leb-true v y (and_parts (nat_le v y) _ h).0

-- where a segment loads an address, its byte there is zero, and the one below is the same
record GoesOn (file : List ℕ) (s : Segment) (x : ℕ) : Type 0 where
  here : (cell_in (chunk_of file s) (suc x)).byte ≡ 0
  below : (cell_in (chunk_of file s) x).byte ≡ 0

-- where a segment holds an address beyond the bytes of the file, it has zeros there and one address below
goes_on : (file : List ℕ) (s : Segment) (x : ℕ) → IsPast s x → holds (chunk_of file s) (suc x) ≡ true → GoesOn file s x
goes_on file s x p h =
    let v = held_parts s.vaddr s.memsz (suc x) h in
    elim p.backed [
      | inl k ↦ absurd (omega (arith, k, v))
      | inr k ↦ record { here = zero_past file s (suc x) (omega (arith, k)); below = zero_past file s x (omega (arith, k)) }
    ]

-- outside the spans of segments an address is none of the bytes that the file has of them, and no end
are_past : (n : ℕ) (ss : List Segment) (x : ℕ) → AllByRecursion (IsPlaced 0x10000 n) ss
    → AllByRecursion (λ s. in_span (suc x) (backed_span s) ≡ false) ss
    → AllByRecursion (λ s. in_span (suc x) (end_span s) ≡ false) ss → AllByRecursion (λ s. IsPast s x) ss
are_past n [] x p b e = tt
are_past n (s ∷ ss) x p b e = (past_of n s x p.0 b.0 e.0, are_past n ss x p.1 b.1 e.1)

-- beyond the file's bytes of a segment, the image with it goes on from one address to the next where the image without it does
image_step : (file : List ℕ) (s : Segment) (ss : List Segment) (x : ℕ) → IsPast s x
    → image (map (chunk_of file) ss) (suc x) ≡ image (map (chunk_of file) ss) x
    → (holds (chunk_of file s) (suc x) ≡ true) ⊎ (holds (chunk_of file s) (suc x) ≡ false)
    → image (map (chunk_of file) (s ∷ ss)) (suc x) ≡ image (map (chunk_of file) (s ∷ ss)) x
image_step file s ss x p r (inl h) =
    let g = goes_on file s x p h in
    let k : cell_in (chunk_of file s) (suc x) ≡ cell_in (chunk_of file s) x = λ i. record {
      byte = (g.here
          ∙ sym g.below) i;
      perms = s.flags % 8;
    } in
    cond-true (holds (chunk_of file s) (suc x)) (Some (cell_in (chunk_of file s) (suc x))) (image (map (chunk_of file) ss) (suc x)) h
    ∙ ap (λ (z : Cell). Some z) k
    ∙ sym (cond-true (holds (chunk_of file s) x) (Some (cell_in (chunk_of file s) x)) (image (map (chunk_of file) ss) x) (sym
    (held_on file s x p) ∙ h))
image_step file s ss x p r (inr h) =
    cond-false (holds (chunk_of file s) (suc x)) (Some (cell_in (chunk_of file s) (suc x))) (image (map (chunk_of file) ss) (suc x)) h
    ∙ r
    ∙ sym (cond-false (holds (chunk_of file s) x) (Some (cell_in (chunk_of file s) x)) (image (map (chunk_of file) ss) x) (sym
    (held_on file s x p) ∙ h))

-- off the ends and the files' bytes of segments, what is loaded is what is loaded one below
pub image_on : (file : List ℕ) (ss : List Segment) (x : ℕ) → AllByRecursion (λ s. IsPast s x) ss
    → image (map (chunk_of file) ss) (suc x) ≡ image (map (chunk_of file) ss) x
image_on file [] x p = refl
image_on file (s ∷ ss) x p = image_step file s ss x p.0 (image_on file ss x p.1) (cases_Bool (holds (chunk_of file s) (suc x)))

-- a cell that is loaded has the byte zero
abbrev HasZero : Option Cell → Type 0
HasZero o = (d : Cell) → o ≡ Some d → d.byte ≡ 0

-- a cell with the byte 0 is a zero
some_zero : (c : Cell) → c.byte ≡ 0 → HasZero (Some c)
some_zero c h d e = let k : c ≡ d = cc in sym (ap (λ (z : Cell). z.byte) k) ∙ h

-- beyond the file's bytes of a segment, the image with it has a zero or nothing where the image without it does
zero_step : (file : List ℕ) (s : Segment) (ss : List Segment) (x : ℕ) → IsPast s x → HasZero (image (map (chunk_of file) ss) (suc x))
    → (holds (chunk_of file s) (suc x) ≡ true) ⊎ (holds (chunk_of file s) (suc x) ≡ false)
    → HasZero (image (map (chunk_of file) (s ∷ ss)) (suc x))
zero_step file s ss x p r (inl h) d e =
    let k = cond-true (holds (chunk_of file s) (suc x)) (Some (cell_in (chunk_of file s) (suc x))) (image (map (chunk_of file) ss)
    (suc x)) h in
    some_zero (cell_in (chunk_of file s) (suc x)) (goes_on file s x p h).here d (sym k ∙ e)
zero_step file s ss x p r (inr h) d e =
    r d (sym (cond-false (holds (chunk_of file s) (suc x)) (Some (cell_in (chunk_of file s) (suc x))) (image (map (chunk_of file) ss)
    (suc x)) h) ∙ e)

-- beyond the file's bytes of all segments the image has a zero or nothing
zero_on : (file : List ℕ) (ss : List Segment) (x : ℕ) → AllByRecursion (λ s. IsPast s x) ss
    → HasZero (image (map (chunk_of file) ss) (suc x))
zero_on file [] x p = λ d e. absurd cc
zero_on file (s ∷ ss) x p = zero_step file s ss x p.0 (zero_on file ss x p.1) (cases_Bool (holds (chunk_of file s) (suc x)))

-- outside of a file's spans it loads what it loads one below, or a zero at most
pub record GoesOnAt (file : List ℕ) (x : ℕ) : Type 0 where
  pub same : image_of file (suc x) ≡ image_of file x
  pub zero : HasZero (image_of file (suc x))

-- outside of its spans an accepted file loads what it loads one address below, a zero at most
pub file_on : (file : List ℕ) (x : ℕ) → refusal 0x10000 file ≡ None → in_spans (file_spans file) (suc x) ≡ false → GoesOnAt file x
file_on file x r h =
    let ss = loads (segments file) in
    let q = neither_of (in_span (suc x)) (map backed_span ss) (map end_span ss) h in
    let p = are_past (length file) ss x (is_accepted 0x10000 file r).placed (none_mapped (in_span (suc x)) backed_span ss q.0)
    (none_mapped (in_span (suc x)) end_span ss q.1) in
    record { same = image_on file ss x p; zero = zero_on file ss x p }

-- where a byte differs though both files have a zero, it differs whether it is written or not
written_or_not : (b n w u : Bool) → n ≡ true → (b || (not w && not n)) ≡ true → (b || (not u && not n)) ≡ true
written_or_not true n w u e h = refl
written_or_not false true true u e h = absurd cc
written_or_not false true false u e h = absurd cc
written_or_not false false w u e h = absurd cc

-- where both files have zeros or nothing, what differs doesn't depend on what is written
differs_on : (o q : Option Cell) (w u : Bool) → HasZero o → HasZero q → differs o q w ≡ true → differs o q u ≡ true
differs_on None q w u a b h = absurd cc
differs_on (Some c) None w u a b h = refl
differs_on (Some c) (Some d) w u a b h =
    written_or_not (not (c.perms == d.perms)) (c.byte == d.byte) w u (eq-eqb c.byte d.byte (a c refl ∙ sym (b d refl))) h

-- what holds somewhere holds there or below, at an address that is looked at
pub reach_down : (P : ℕ → Type 0) (t : ℕ → Bool) → t 0 ≡ true → ((x : ℕ) → t (suc x) ≡ false → P (suc x) → P x)
    → (x : ℕ) → P x → (y : ℕ) × (y ≤ x) × ((t y ≡ true) × P y)
reach_down P t b s zero f = (0, omega arith, (b, f))
reach_down P t b s (suc x) f = elim (cases_Bool (t (suc x))) [
  | inl e ↦ (suc x, omega arith, (e, f))
  | inr e ↦ (let r = reach_down P t b s x (s x e f) in (r.0, omega (arith, r.1), r.2))
]

-- what two files load goes on
pub record BothGoOn (c : Case) (x : ℕ) : Type 0 where
  pub original : c.original (suc x) ≡ c.original x
  pub patched : c.patched (suc x) ≡ c.patched x
  pub was_zero : HasZero (c.original (suc x))
  pub now_zero : HasZero (c.patched (suc x))

-- outside of the spans of rule 1 what both files load goes on
pub both_on : (c : Case) (o p : List ℕ) (x : ℕ) → c.original ≡ image_of o → c.patched ≡ image_of p → refusal 0x10000 o ≡ None
    → refusal 0x10000 p ≡ None
    → in_spans (byte_spans o p) (suc x) ≡ false → BothGoOn c x
both_on c o p x e f r q h =
    let a = neither_first (in_span (suc x)) (single_span 0) (file_spans o ++ file_spans p) h in
    let b = neither_of (in_span (suc x)) (file_spans o) (file_spans p) a.1 in
    let g = file_on o x r b.0 in
    let k = file_on p x q b.1 in
    record {
      original = ap (λ m. m (suc x)) e ∙ g.same ∙ sym (ap (λ m. m x) e);
      patched = ap (λ m. m (suc x)) f ∙ k.same ∙ sym (ap (λ m. m x) f);
      was_zero = λ d i. g.zero d (sym (ap (λ m. m (suc x)) e) ∙ i);
      now_zero = λ d i. k.zero d (sym (ap (λ m. m (suc x)) f) ∙ i);
    }

-- where rule 1 fails at the next address and both images go on, it fails at this one
byte_down : (c : Case) (x : ℕ) → BothGoOn c x → ByteFails c (suc x) → ByteFails c x
byte_down c x g f =
    (λ i. differs (sym g.original i) (sym g.patched i) (is_written c.report x))
    ∙ differs_on (c.original (suc x)) (c.patched (suc x)) (is_written c.report (suc x)) (is_written c.report x) g.was_zero g.now_zero f

-- the least address of all is looked at
pub zero_looked_at : (ss : List Span) → in_spans (single_span 0 ∷ ss) 0 ≡ true
zero_looked_at ss = refl

-- where rule 1 fails, it fails there or below in one of the spans
pub byte_reached : (c : Case) (o p : List ℕ) → c.original ≡ image_of o → c.patched ≡ image_of p → refusal 0x10000 o ≡ None
    → refusal 0x10000 p ≡ None
    → (ss : List Span) → ss ≡ byte_spans o p → FindsFirst c rule.Byte ss
byte_reached c o p e f r q ss k x h =
    reach_down (ByteFails c) (in_spans ss) (ap (λ z. in_spans z 0) k ∙ zero_looked_at (file_spans o ++ file_spans p))
    (λ y n g. byte_down c y (both_on c o p y e f r q (sym (ap (λ z. in_spans z (suc y)) k) ∙ n)) g) x h
