-- Tests that something of a list passes, and which pages hold a byte of a file's image.
use Rattle.std.proofs.Common.{◌≡◌, ◌⊎◌, inl, inr, ℕ, ◌+◌, ◌-◌, ◌/◌, ◌*◌, ◌^◌, ◌<◌, ◌≤◌, max, min, Bool, true, false, cond, List, [], ◌∷◌, ◌++◌, map, length, Option, Some, None, is_some, refl, sym, ap, ◌∙◌, arith}
use Rattle.std.specs.Prelude.{◌||◌, nat_le}
use Rattle.std.specs.List.{list_any, AllByRecursion}
use Rattle.std.proofs.lemmas.Bool.{cases_Bool, and_parts, or_left, or_right, leb-true, cond-true, cond-false}
use Rattle.std.proofs.lemmas.Bool.Decides.{nat_tests}
use Rattle.std.proofs.lemmas.List.Folds.{list_any-append}
use Rattle.pun_base.specs.Memory.{Cell}
use Rattle.pun_base.specs.Ranges.{is_within}
use Rattle.elf_read.specs.declared.segment.Segment.{Segment}
use Rattle.elf_read.specs.Accepted.{IsPlaced}
use Rattle.elf_read.specs.Entries.{loads, segments}
use Rattle.elf_read.specs.Image.{image, image_of, chunk_of, holds, cell_in}
use Rattle.elf_read.specs.Refusals.{refusal}
use Rattle.elf_read.proofs.AcceptedFiles.{is_accepted}
use Rattle.image_check.specs.Parts.{on_page_of, shares}
use Rattle.sound_images.specs.Rules.{SharesPage}

-- a test of what a list is mapped to
pub any_map : {X Y : Type 0} (p : Y → Bool) (f : X → Y) (xs : List X) → list_any p (map f xs) ≡ list_any (λ x. p (f x)) xs
any_map p f [] = refl
any_map p f (x ∷ xs) = ap (λ z. p (f x) || z) (any_map p f xs)

-- a disjunction holds where each side of one that holds implies its own
or_kept : (a b c d : Bool) → (a ≡ true → c ≡ true) → (b ≡ true → d ≡ true) → (a || b) ≡ true → (c || d) ≡ true
or_kept true b c d f g h = ap (λ z. z || d) (f refl)
or_kept false b true d f g h = refl
or_kept false b false d f g h = g h

-- a test that is passed where another is
pub any_implies : {X : Type 0} (p q : X → Bool) → ((x : X) → p x ≡ true → q x ≡ true) → (xs : List X) → list_any p xs ≡ true → list_any q xs ≡ true
any_implies p q f [] h = h
any_implies p q f (x ∷ xs) h = or_kept (p x) (list_any p xs) (q x) (list_any q xs) (f x) (any_implies p q f xs) h

-- what passes in a list passes in it with another list after it
pub any_before : {X : Type 0} (p : X → Bool) (xs ys : List X) → list_any p xs ≡ true → list_any p (xs ++ ys) ≡ true
any_before p xs ys h = list_any-append p xs ys ∙ or_left (list_any p xs) (list_any p ys) h

-- what passes in a list passes in it with another list before it
pub any_behind : {X : Type 0} (p : X → Bool) (xs ys : List X) → list_any p ys ≡ true → list_any p (xs ++ ys) ≡ true
any_behind p xs ys h = list_any-append p xs ys ∙ or_right (list_any p xs) (list_any p ys) h

-- something of a list passes where its first does
pub any_here : {X : Type 0} (p : X → Bool) (x : X) (xs : List X) → p x ≡ true → list_any p (x ∷ xs) ≡ true
any_here p x xs h = or_left (p x) (list_any p xs) h

-- something of a list passes where something after its first does
pub any_later : {X : Type 0} (p : X → Bool) (x : X) (xs : List X) → list_any p xs ≡ true → list_any p (x ∷ xs) ≡ true
any_later p x xs h = or_right (p x) (list_any p xs) h

-- the first address of a segment's that is on a page
abbrev first_on : ℕ → Segment → ℕ
first_on x s = max s.vaddr (x / 4096 * 4096)

record IsOn (s : Segment) (x y : ℕ) : Type 0 where
  page : y / 4096 ≡ x / 4096
  held : is_within s.vaddr s.memsz y ≡ true

-- a page is a segment's where it lies from its first to its last
on_parts : (x : ℕ) (s : Segment) → on_page_of x s ≡ true → (s.vaddr / 4096 ≤ x / 4096) × (x / 4096 ≤ min (s.vaddr + (s.memsz - 1)) (2 ^ 64 - 1) / 4096)
on_parts x s h = let p = and_parts (nat_le (s.vaddr / 4096) (x / 4096)) _ h in (leb-true _ _ p.0, leb-true _ _ p.1)

-- on each page of a segment that isn't empty, its first address there is the segment's
first_is_on : (x : ℕ) (s : Segment) → 0 < s.memsz → s.vaddr + s.memsz ≤ 0x7fff0000 → on_page_of x s ≡ true → IsOn s x (first_on x s)
first_is_on x s n l h = let p = on_parts x s h in record { page = omega (arith, p); held = grind (arith, nat_tests) }

-- the page of an address that a segment holds is one of the segment's
held_is_on : (x y : ℕ) (s : Segment) → s.vaddr + s.memsz ≤ 0x7fff0000 → is_within s.vaddr s.memsz y ≡ true → y / 4096 ≡ x / 4096 → on_page_of x s ≡ true
held_is_on x y s l h e = grind (arith, nat_tests)

-- a page that a file shares
abbrev SharedBy : List ℕ → List Segment → ℕ → Type 0
SharedBy file ss x = SharesPage (image (map (chunk_of file) ss)) x

-- either of two cells that are there is there
some_either : (b : Bool) (o q : Option Cell) → is_some q ≡ true → is_some o ≡ true → is_some (cond b q o) ≡ true
some_either true o q h k = h
some_either false o q h k = k

-- a page that one more segment has holds a byte of the image of all
shared_step : (file : List ℕ) (s : Segment) (ss : List Segment) (x : ℕ) → 0 < s.memsz → s.vaddr + s.memsz ≤ 0x7fff0000 → (list_any (on_page_of x) ss ≡ true → SharedBy file ss x) → (on_page_of x s ≡ true) ⊎ (on_page_of x s ≡ false) → list_any (on_page_of x) (s ∷ ss) ≡ true → SharedBy file (s ∷ ss) x
shared_step file s ss x n l f (inl e) h =
    let o = first_is_on x s n l e in
    (first_on x s, o.page, ap is_some (cond-true (holds (chunk_of file s) (first_on x s)) (Some (cell_in (chunk_of file s) (first_on x s))) (image (map (chunk_of file) ss) (first_on x s)) o.held))
shared_step file s ss x n l f (inr e) h =
    let r = f (sym (ap (λ z. z || list_any (on_page_of x) ss) e) ∙ h) in
    (r.0, r.1, some_either (holds (chunk_of file s) r.0) (image (map (chunk_of file) ss) r.0) (Some (cell_in (chunk_of file s) r.0)) refl r.2)

-- a page that some segment has holds a byte of the file's image
shared_among : (file : List ℕ) (n : ℕ) (ss : List Segment) (x : ℕ) → AllByRecursion (IsPlaced 0x10000 n) ss → list_any (on_page_of x) ss ≡ true → SharedBy file ss x
shared_among file n [] x p h = absurd cc
shared_among file n (s ∷ ss) x p h = shared_step file s ss x p.0.nonempty p.0.high (shared_among file n ss x p.1) (cases_Bool (on_page_of x s)) h

-- a page that holds a byte of the image with one more segment is a page of one of the segments
sharing_step : (file : List ℕ) (s : Segment) (ss : List Segment) (x y : ℕ) → s.vaddr + s.memsz ≤ 0x7fff0000 → y / 4096 ≡ x / 4096 → (is_some (image (map (chunk_of file) ss) y) ≡ true → list_any (on_page_of x) ss ≡ true) → (holds (chunk_of file s) y ≡ true) ⊎ (holds (chunk_of file s) y ≡ false) → is_some (image (map (chunk_of file) (s ∷ ss)) y) ≡ true → list_any (on_page_of x) (s ∷ ss) ≡ true
sharing_step file s ss x y l e f (inl g) h = any_here (on_page_of x) s ss (held_is_on x y s l g e)
sharing_step file s ss x y l e f (inr g) h = any_later (on_page_of x) s ss (f (ap is_some (sym (cond-false (holds (chunk_of file s) y) (Some (cell_in (chunk_of file s) y)) (image (map (chunk_of file) ss) y) g)) ∙ h))

-- a page that holds a byte of the file's image is a page of one of its segments
sharing_among : (file : List ℕ) (n : ℕ) (ss : List Segment) (x y : ℕ) → AllByRecursion (IsPlaced 0x10000 n) ss → y / 4096 ≡ x / 4096 → is_some (image (map (chunk_of file) ss) y) ≡ true → list_any (on_page_of x) ss ≡ true
sharing_among file n [] x y p e h = absurd cc
sharing_among file n (s ∷ ss) x y p e h = sharing_step file s ss x y p.0.high e (sharing_among file n ss x y p.1 e) (cases_Bool (holds (chunk_of file s) y)) h

-- where the test says so, an address is on a page with a byte of an accepted file's image
pub shares_page : (file : List ℕ) (x : ℕ) → refusal 0x10000 file ≡ None → shares file x ≡ true → SharesPage (image_of file) x
shares_page file x r h = shared_among file (length file) (loads (segments file)) x (is_accepted 0x10000 file r).placed h

-- where an address is on a page with a byte of an accepted file's image, the test says so
pub page_shares : (file : List ℕ) (x : ℕ) → refusal 0x10000 file ≡ None → SharesPage (image_of file) x → shares file x ≡ true
page_shares file x r h = sharing_among file (length file) (loads (segments file)) x h.0 (is_accepted 0x10000 file r).placed h.1 h.2
