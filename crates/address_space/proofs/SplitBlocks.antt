-- A range taken out of a block.
use Rattle.std.proofs.Common.{◌≡◌, ℕ, zero, suc, add-one, ◌+◌, ◌<◌, ◌≤◌, List, [], ◌∷◌, ◌++◌, length, take, drop, get_or, set, insert, remove, arith, refl, subst, sym, ap, ◌∙◌, take-append-drop, append_assoc, length-append, length-drop, ◌⊎◌, inl, inr}
use Rattle.std.proofs.lemmas.List.{set_split, take_at, drop_at, drop-drop, drop-append-le, length-take-le, get_or-append-add, get_or_append_left, take_more_set, drop-set-lt, append-nil}
use Rattle.pun_base.specs.declared.range.Range.{Range}
use Rattle.address_space.specs.declared.free_range.FreeRange.{FreeRange}
use Rattle.address_space.specs.declared.block.Block.{Block}
use Rattle.address_space.specs.Ranges.{left_of, range_if}
use Rattle.address_space.specs.Blocks.{flat, begin, LeavesSome}
use Rattle.address_space.proofs.SplitRanges.{range_if_cases}
use Rattle.address_space.proofs.BlockLists.{ranges_of, flat_both, parts}

-- Lists in three parts, and a place in the middle one.
module _ (front mid back : List FreeRange) (place : ℕ) where
  abbrev pub whole : List FreeRange
  whole = front ++ (mid ++ back)

  pub drop_mid : place ≤ length mid → drop (length front + place) whole ≡ drop place mid ++ back
  drop_mid h = sym (drop-drop place (length front) whole) ∙ ap (drop place) (drop_at front (mid ++ back) (length front) refl) ∙ drop-append-le place mid back h

  take_mid : place ≤ length mid → take (length front + place) whole ≡ front ++ take place mid
  take_mid h =
      ap (take (length front + place))
      (ap (λ xs. front ++ (xs ++ back)) (sym (take-append-drop place mid)) ∙ ap (λ xs. front ++ xs) (append_assoc (take place mid) (drop place mid) back)
      ∙ sym (append_assoc front (take place mid) (drop place mid ++ back)))
      ∙ take_at (front ++ take place mid) (drop place mid ++ back) (length front + place) (length-append front (take place mid) ∙ ap (λ n. length front + n) (length-take-le place mid h))

  at_mid : (d : FreeRange) → place < length mid → get_or whole (length front + place) d ≡ get_or mid place d
  at_mid d h = get_or-append-add front (mid ++ back) place d ∙ get_or_append_left mid back d place h

-- Parts in another order of brackets.
regroup : (a t l b c : List FreeRange) → a ++ ((t ++ (l ++ b)) ++ c) ≡ (a ++ t) ++ (l ++ (b ++ c))
regroup a t l b c =
    ap (λ xs. a ++ xs) (append_assoc t (l ++ b) c ∙ ap (λ xs. t ++ xs) (append_assoc l b c)) ∙ sym (append_assoc a t (l ++ (b ++ c)))

-- What a range leaves of the middle part is what it leaves of the whole list.
splice : (front mid back left : List FreeRange) (place : ℕ) (range : Range) (d : FreeRange) → place < length mid
    → left ≡ take place mid ++ (left_of (get_or mid place d) range ++ drop (place + 1) mid)
    → front ++ (left ++ back) ≡ take (length front + place) (front ++ (mid ++ back)) ++ (left_of (get_or (front ++ (mid ++ back)) (length front + place) d) range ++ drop (length front + place + 1) (front ++ (mid ++ back)))
splice front mid back left place range d h is =
    let same : length front + (place + 1) ≡ length front + place + 1 = omega arith in
    ap (λ xs. front ++ (xs ++ back)) is ∙ regroup front (take place mid) (left_of (get_or mid place d) range) (drop (place + 1) mid) back
    ∙ ap (λ xs. xs ++ (left_of (get_or mid place d) range ++ (drop (place + 1) mid ++ back))) (sym (take_mid front mid back place (omega (arith, h))))
    ∙ ap (λ xs. take (length front + place) (front ++ (mid ++ back)) ++ (left_of (get_or mid place d) range ++ xs))
    (sym (drop_mid front mid back (place + 1) (omega (arith, h))) ∙ ap (λ n. drop n (front ++ (mid ++ back))) same)
    ∙ ap (λ r. take (length front + place) (front ++ (mid ++ back)) ++ (left_of r range ++ drop (length front + place + 1) (front ++ (mid ++ back)))) (sym (at_mid front mid back place d h))

-- The same of a block's ranges, among all.
pub out_of_block : (blocks : List Block) (after left : List FreeRange) (number place : ℕ) (range : Range) (e : Block) (d : FreeRange) → number < length blocks → place < length (ranges_of (get_or blocks number e))
    → after ≡ flat (take number blocks) ++ (left ++ flat (drop (number + 1) blocks))
    → left ≡ take place (ranges_of (get_or blocks number e)) ++ (left_of (get_or (ranges_of (get_or blocks number e)) place d) range ++ drop (place + 1) (ranges_of (get_or blocks number e)))
    → after ≡ take (begin blocks number + place) (flat blocks) ++ (left_of (get_or (flat blocks) (begin blocks number + place) d) range ++ drop (begin blocks number + place + 1) (flat blocks))
out_of_block blocks after left number place range e d h l is what =
    let P : List FreeRange → Type 0 = λ all. after ≡ take (begin blocks number + place) all ++ (left_of (get_or all (begin blocks number + place) d) range ++ drop (begin blocks number + place + 1) all) in
    subst P (sym (parts blocks number e h)) (is ∙ splice (flat (take number blocks)) (ranges_of (get_or blocks number e)) (flat (drop (number + 1) blocks)) left place range d l what)

-- The same of a block that was read.
pub out_of_read : (blocks : List Block) (after left : List FreeRange) (number place : ℕ) (range : Range) (block : Block) (d : FreeRange) → number < length blocks → block ≡ get_or blocks number block
    → place < length (ranges_of block) → after ≡ flat (take number blocks) ++ (left ++ flat (drop (number + 1) blocks))
    → left ≡ take place (ranges_of block) ++ (left_of (get_or (ranges_of block) place d) range ++ drop (place + 1) (ranges_of block))
    → after ≡ take (begin blocks number + place) (flat blocks) ++ (left_of (get_or (flat blocks) (begin blocks number + place) d) range ++ drop (begin blocks number + place + 1) (flat blocks))
out_of_read blocks after left number place range block d h same l is what =
    out_of_block blocks after left number place range block d h (subst (λ (b : Block). place < length (ranges_of b)) same l) is
    (subst (λ (b : Block). left ≡ take place (ranges_of b) ++ (left_of (get_or (ranges_of b) place d) range ++ drop (place + 1) (ranges_of b))) same what)

-- The ranges of blocks of which one is changed.
pub flat_set : (blocks : List Block) (number : ℕ) (block : Block) → number < length blocks
    → flat (set blocks number block) ≡ flat (take number blocks) ++ (ranges_of block ++ flat (drop (number + 1) blocks))
flat_set blocks number block h = rw add-one (ap flat (set_split blocks number block h) ∙ flat_both (take number blocks) (block ∷ drop (suc number) blocks))

-- The ranges of blocks of which one becomes two.
pub flat_split : (blocks : List Block) (number : ℕ) (lower upper : Block) → number < length blocks
    → flat (insert (set blocks number lower) (number + 1) upper) ≡ flat (take number blocks) ++ ((ranges_of lower ++ ranges_of upper) ++ flat (drop (number + 1) blocks))
flat_split blocks number lower upper h =
    let front = take_more_set blocks number lower h in
    let back = drop-set-lt (number + 1) blocks number lower (omega arith) in
    ap flat (ap (λ bs. bs ++ upper ∷ drop (number + 1) (set blocks number lower)) front ∙ ap (λ bs. (take number blocks ++ lower ∷ []) ++ upper ∷ bs) back)
    ∙ flat_both (take number blocks ++ lower ∷ []) (upper ∷ drop (number + 1) blocks) ∙ ap (λ rs. rs ++ (ranges_of upper ++ flat (drop (number + 1) blocks))) (flat_both (take number blocks) (lower ∷ []))
    ∙ ap (λ rs. (flat (take number blocks) ++ rs) ++ (ranges_of upper ++ flat (drop (number + 1) blocks))) (append-nil (ranges_of lower))
    ∙ append_assoc (flat (take number blocks)) (ranges_of lower) (ranges_of upper ++ flat (drop (number + 1) blocks))
    ∙ ap (λ rs. flat (take number blocks) ++ rs) (sym (append_assoc (ranges_of lower) (ranges_of upper) (flat (drop (number + 1) blocks))))

-- The ranges of blocks of which one is gone.
pub flat_without : (blocks : List Block) (number : ℕ) → flat (remove blocks number) ≡ flat (take number blocks) ++ ([] ++ flat (drop (number + 1) blocks))
flat_without blocks number = rw add-one (flat_both (take number blocks) (drop (suc number) blocks))

-- Nothing is left of a block whose one range is taken whole.
pub nothing_left : (rs : List FreeRange) (place : ℕ) (range : Range) (d : FreeRange) → length rs ≡ 1 → place < length rs → range.lo ≤ (get_or rs place d).lo → (get_or rs place d).hi ≤ range.hi
    → [] ≡ take place rs ++ (left_of (get_or rs place d) range ++ drop (place + 1) rs)
nothing_left [] place range d one h below above = absurd (omega (arith, h))
nothing_left (r ∷ []) zero range d one h below above =
    range_if_cases (λ xs. [] ≡ (xs ++ range_if range.hi r.hi) ++ []) r.lo range.lo (λ lt. absurd (omega (arith, lt, below)))
    (λ _. range_if_cases (λ xs. [] ≡ xs ++ []) range.hi r.hi (λ lt. absurd (omega (arith, lt, above))) (λ _. refl))
nothing_left (r ∷ []) (suc place) range d one h below above = absurd (omega (arith, h))
nothing_left (r ∷ s ∷ rs) place range d one h below above = absurd (omega (arith, one))

-- Of a range of which a part is left, a range is.
some_left : (whole : FreeRange) (range : Range) → (whole.lo < range.lo) ⊎ (range.hi < whole.hi) → 1 ≤ length (left_of whole range)
some_left whole range o =
    let both = length-append (range_if whole.lo range.lo) (range_if range.hi whole.hi) in
    elim o [
      | inl below ↦ let one = range_if_cases (λ rs. 1 ≤ length rs) whole.lo range.lo (λ _. omega arith) (λ h. absurd (omega (arith, h, below))) in omega (arith, both, one)
      | inr above ↦ let one = range_if_cases (λ rs. 1 ≤ length rs) range.hi whole.hi (λ _. omega arith) (λ h. absurd (omega (arith, h, above))) in omega (arith, both, one)
    ]

-- A range that doesn't take all of a block leaves a range.
pub leaves_one : (rs new : List FreeRange) (place : ℕ) (range : Range) (d : FreeRange) → place < length rs → LeavesSome rs place range.lo range.hi
    → new ≡ take place rs ++ (left_of (get_or rs place d) range ++ drop (place + 1) rs) → 1 ≤ length new
leaves_one rs new place range d h leaves is =
    let left = left_of (get_or rs place d) range in
    let rest = drop (place + 1) rs in
    let long = ap length is ∙ length-append (take place rs) (left ++ rest) in
    let inner = length-append left rest in
    let first = length-take-le place rs (omega (arith, h)) in
    let last = length-drop (place + 1) rs in
    elim leaves [
      | inl two ↦ omega (arith, long, inner, first, last, two, h)
      | inr some ↦ omega (arith, long, inner, some_left (get_or rs place d) range (some d))
    ]
