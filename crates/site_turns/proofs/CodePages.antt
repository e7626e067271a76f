-- Code stands on pages with no byte of the original and none of the private range.
use Rattle.std.proofs.Common.{◌≡◌, inl, inr, ℕ, ◌+◌, ◌*◌, ◌/◌, Bool, true, false, cond, ◌||◌, leb, ltb, List, [], ◌∷◌, ◌++◌, map, length, Option, Some, None, refl, sym, ap, ◌∙◌, arith}
use Rattle.std.specs.Int.{div_ceil}
use Rattle.std.specs.Option.{is_some}
use Rattle.std.specs.List.{AllByRecursion}
use Rattle.std.proofs.lemmas.Bool.{and_parts, and_from, or_cases, or_left, or_right, leb-true, ltb-true, le-leb, lt-ltb, false_from_ne_true, false≢true, true≢false}
use Rattle.pun_base.specs.Memory.{Cell}
use Rattle.pun_base.specs.Ranges.{is_within}
use Rattle.pun_base.specs.declared.action.Action.{Action}
use Rattle.pun_base.specs.declared.range.Range.{Range}
use Rattle.address_space.specs.declared.extent.Extent.{Extent}
use Rattle.address_space.specs.Free.{whole_pages}
use Rattle.elf_read.specs.declared.segment.Segment.{Segment}
use Rattle.elf_read.specs.Entries.{segments, loads}
use Rattle.elf_read.specs.Image.{chunk_of, image, image_of}
use Rattle.elf_emit.proofs.WrittenTable.{all_append}
use Rattle.elf_emit.proofs.StayingSegments.{all_map}
use Rattle.start_entries.proofs.ImageEntries.{built_are_entries}
use Rattle.sound_images.specs.Reports.{Line}
use Rattle.scheme_search.proofs.OneJumpBytes.{within_parts}
use Rattle.site_turns.specs.PrivateRange.{pages_of, taken_first, HasRoom}
use Rattle.site_turns.specs.States.{is_in, is_taken, first_state}
use Rattle.site_turns.specs.Choices.{state_after}
use Rattle.site_turns.specs.Folded.{done_by, in_code, IsNewlyTaken}
use Rattle.site_turns.specs.Jobs.{scene_of}
use Rattle.site_turns.specs.Fresh.{CodePagesAreNew}
use Rattle.site_turns.proofs.PrivateRoom.{private_has_room}
use Rattle.site_turns.proofs.TurnFold.{turns_keep}

-- an extent of whole pages
pub record IsWhole (e : Extent) : Type 0 where
  lo : (k : ℕ) × (e.lo ≡ k * 4096)
  hi : (k : ℕ) × (e.hi ≡ k * 4096)

-- has each address of a page of which it has one
same_page : (e : Extent) (x y : ℕ) → IsWhole e → y / 4096 ≡ x / 4096 → is_in e y ≡ true → is_in e x ≡ true
same_page e x y w p h =
    let k = and_parts (leb e.lo y) (ltb y e.hi) h in
    let a = leb-true e.lo y k.0 in
    let b = ltb-true y e.hi k.1 in
    let lo = w.lo in
    let hi = w.hi in
    and_from (leb e.lo x) (ltb x e.hi) (le-leb e.lo x (omega (arith, a, lo.1, p))) (lt-ltb x e.hi (omega (arith, b, hi.1, p)))

-- ranges of whole pages that hold an address hold each other address of its page
all_same : (es : List Extent) (x y : ℕ) → AllByRecursion IsWhole es → y / 4096 ≡ x / 4096 → is_taken es y ≡ true → is_taken es x ≡ true
all_same [] x y w p h = h
all_same (e ∷ es) x y w p h = elim (or_cases (is_in e y) (is_taken es y) h) [
  | inl i ↦ or_left (is_in e x) (is_taken es x) (same_page e x y w.0 p i)
  | inr i ↦ or_right (is_in e x) (is_taken es x) (all_same es x y w.1 p i)
]

-- the pages of segments are whole
whole_loads : (ss : List Segment) → AllByRecursion IsWhole (map (λ (s : Segment). pages_of s.vaddr s.memsz) ss)
whole_loads [] = tt
whole_loads (s ∷ ss) = (record { lo = (s.vaddr / 4096, refl); hi = (div_ceil (s.vaddr + s.memsz) 4096, refl) }, whole_loads ss)

-- the pages of reserves are whole
whole_reserves : (rs : List Range) → AllByRecursion IsWhole (map whole_pages rs)
whole_reserves [] = tt
whole_reserves (r ∷ rs) = (record { lo = (r.lo / 4096, refl); hi = (div_ceil r.hi 4096, refl) }, whole_reserves rs)

-- an address is one of the pages that a range meets
in_pages : (lo n x : ℕ) → is_within lo n x ≡ true → is_in (pages_of lo n) x ≡ true
in_pages lo n x h =
    let k = within_parts lo n x h in
    and_from (leb (lo / 4096 * 4096) x) (ltb x (div_ceil (lo + n) 4096 * 4096)) (le-leb (lo / 4096 * 4096) x (omega (arith, k.0)))
    (lt-ltb x (div_ceil (lo + n) 4096 * 4096) (omega (arith, k.1)))

-- where the original loads a byte, its page is taken
pub loaded_taken : (file : List ℕ) (ss : List Segment) (x : ℕ) → is_some (image (map (chunk_of file) ss) x) ≡ true
    → is_taken (map (λ (s : Segment). pages_of s.vaddr s.memsz) ss) x ≡ true
loaded_taken file [] x h = absurd (false≢true h)
loaded_taken file (s ∷ ss) x h = by_test (is_within s.vaddr s.memsz x) refl _ (image (map (chunk_of file) ss) x) h (loaded_taken file ss x)
  where
    by_test : (b : Bool) → is_within s.vaddr s.memsz x ≡ b → (c : Cell) (rest : Option Cell) → is_some (cond b (Some c) rest) ≡ true
        → (is_some rest ≡ true → is_taken (map (λ (s : Segment). pages_of s.vaddr s.memsz) ss) x ≡ true)
        → (is_in (pages_of s.vaddr s.memsz) x || is_taken (map (λ (s : Segment). pages_of s.vaddr s.memsz) ss) x) ≡ true
    by_test true e c rest k go = or_left (is_in (pages_of s.vaddr s.memsz) x) _ (in_pages s.vaddr s.memsz x e)
    by_test false e c rest k go = or_right (is_in (pages_of s.vaddr s.memsz) x) _ (go k)

-- what one list of ranges takes, it takes with another list after it
pub taken_left : (es fs : List Extent) (x : ℕ) → is_taken es x ≡ true → is_taken (es ++ fs) x ≡ true
taken_left [] fs x h = absurd (false≢true h)
taken_left (e ∷ es) fs x h = elim (or_cases (is_in e x) (is_taken es x) h) [
  | inl i ↦ or_left (is_in e x) (is_taken (es ++ fs) x) i
  | inr i ↦ or_right (is_in e x) (is_taken (es ++ fs) x) (taken_left es fs x i)
]

-- a cell that isn't there is none
pub nothing : (o : Option Cell) → is_some o ≡ false → o ≡ None
nothing None h = refl
nothing (Some c) h = absurd (true≢false h)

-- the page of an address that wasn't taken before the first turn has no byte of the original and none of the private range
pub new_page : (first : List Extent) (private : Extent) (file : List ℕ) (reserves : List Range) (x y : ℕ)
    → AllByRecursion IsWhole (private ∷ first)
    → y / 4096 ≡ x / 4096 → is_taken (private ∷ first) x ≡ false → first ≡ taken_first (segments file) reserves
    → (image_of file y ≡ None) × (is_in private y ≡ false)
new_page first private file reserves x y w p n e = (
  nothing (image_of file y) (false_from_ne_true (is_some (image_of file y)) (λ k.
      true≢false (sym (all_same (private ∷ first) x y w p (or_right (is_in private y) (is_taken first y)
      (ap (λ es. is_taken es y) e ∙ taken_left (map (λ (s : Segment). pages_of s.vaddr s.memsz) (loads (segments file)))
      (map whole_pages reserves) y
      (loaded_taken file (loads (segments file)) y k)))) ∙ n))),
  false_from_ne_true (is_in private y) (λ k. true≢false (sym
      (all_same (private ∷ first) x y w p (or_left (is_in private y) (is_taken first y) k)) ∙ n)),
)

-- what is taken before the first turn is whole pages
pub whole_shut : (file : List ℕ) (reserves : List Range) (action : Action) (sites : ℕ) (private : Extent)
    → HasRoom (taken_first (segments file) reserves) action sites private → AllByRecursion IsWhole
    (private ∷ taken_first (segments file) reserves)
whole_shut file reserves action sites private room = (
  record { lo = room.whole; hi = room.pages },
  all_append IsWhole (map (λ (s : Segment). pages_of s.vaddr s.memsz) (loads (segments file))) (map whole_pages reserves)
      (whole_loads (loads (segments file))) (whole_reserves reserves),
)

-- pages with code have no byte of the original and none of the private range
pub code_pages_are_new : CodePagesAreNew
code_pages_are_new low file starts action reserves private ss sites choices L S h =
    let g = scene_of file starts action reserves private in
    let f = turns_keep g ss sites choices L (built_are_entries low file starts S) h.sites h.turns in
    let d = done_by (state_after g (first_state g) sites choices) in
    let first = taken_first (segments file) reserves in
    let room = private_has_room first action (length sites) private h.private in
    let whole = whole_shut file reserves action (length sites) private room in
    all_map (λ (l : Line). (x : ℕ) → in_code g x l ≡ true → IsNewlyTaken g d x)
    (λ (l : Line). (x y : ℕ) → in_code g x l ≡ true → y / 4096 ≡ x / 4096 → (image_of file y ≡ None) × (is_in private y ≡ false))
    d.lines (λ l n x y c p. new_page first private file reserves x y whole p (n x c).new refl) f.kept.taken
