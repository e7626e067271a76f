-- The list that blocks make, by its parts.
use Rattle.std.proofs.Common.{◌≡◌, ℕ, ◌+◌, ◌-◌, ◌<◌, ◌≤◌, List, [], ◌∷◌, ◌++◌, length, take, drop, get_or, arith, inl, inr, sym, ap, ◌∙◌, take-append-drop, length-append, subst}
use Rattle.std.specs.List.Sorted.{IsNonDecreasingBy}
use Rattle.std.proofs.lemmas.Bool.{cases_lt, cases_eq}
use Rattle.std.proofs.lemmas.List.{drop_more, take_more, take_all, take-take, append-nil, get_or_default}
use Rattle.std.proofs.lemmas.List.Concat.{flat_map-append, get_or-flat_map}
use Rattle.address_space.specs.declared.free_range.FreeRange.{FreeRange}
use Rattle.address_space.specs.declared.block.Block.{Block}
use Rattle.address_space.specs.Ranges.{Ascending}
use Rattle.address_space.specs.Blocks.{flat, begin, low_of, high_of, no_range, BlocksEnded, BlocksBegun}
use Rattle.address_space.proofs.RangePlaces.{ends_rise, begins_rise}
use Rattle.address_space.proofs.SplitRanges.{ascending_from}

-- the ranges of a block
abbrev pub ranges_of : Block → List FreeRange
ranges_of block = block.ranges.items

-- The ranges of two lists of blocks.
pub flat_both : (xs ys : List Block) → flat (xs ++ ys) ≡ flat xs ++ flat ys
flat_both xs ys = flat_map-append ranges_of xs ys

-- The ranges of all blocks are those before a block, its own, and those behind it.
pub parts : (blocks : List Block) (k : ℕ) (d : Block) → k < length blocks → flat blocks ≡ flat (take k blocks) ++ (ranges_of (get_or blocks k d) ++ flat (drop (k + 1) blocks))
parts blocks k d h =
    ap flat (sym (take-append-drop k blocks) ∙ ap (λ bs. take k blocks ++ bs) (drop_more blocks k d h)) ∙ flat_both (take k blocks) (get_or blocks k d ∷ drop (k + 1) blocks)

-- A block's ranges stand in front of the next block.
pub begin_next : (blocks : List Block) (k : ℕ) (d : Block) → k < length blocks → begin blocks (k + 1) ≡ begin blocks k + length (ranges_of (get_or blocks k d))
begin_next blocks k d h =
    ap (λ bs. length (flat bs)) (take_more blocks k d h) ∙ ap length (flat_both (take k blocks) (get_or blocks k d ∷ []))
    ∙ length-append (flat (take k blocks)) (ranges_of (get_or blocks k d) ++ []) ∙ ap (λ (rs : List FreeRange). begin blocks k + length rs) (append-nil (ranges_of (get_or blocks k d)))

-- All ranges stand in all blocks.
pub begin_whole : (blocks : List Block) (k : ℕ) → length blocks ≤ k → begin blocks k ≡ length (flat blocks)
begin_whole blocks k h = ap (λ bs. length (flat bs)) (take_all k blocks h)

-- The ranges of more blocks are as many or more.
pub begin_rises : (blocks : List Block) (i j : ℕ) → i ≤ j → begin blocks i ≤ begin blocks j
begin_rises blocks i j h =
    let whole = ap (λ bs. length (flat bs)) (sym (take-append-drop i (take j blocks))) ∙ ap length (flat_both (take i (take j blocks)) (drop i (take j blocks)))
    ∙ length-append (flat (take i (take j blocks))) (flat (drop i (take j blocks))) in
    let same : length (flat (take i (take j blocks))) ≡ begin blocks i = ap (λ bs. length (flat bs)) (take-take i j blocks h) in
    omega (arith, whole, same)

-- No block has a range behind all.
pub begin_most : (blocks : List Block) (k : ℕ) → begin blocks k ≤ length (flat blocks)
begin_most blocks k =
    let whole = ap length (sym (ap flat (take-append-drop k blocks)) ∙ flat_both (take k blocks) (drop k blocks)) ∙ length-append (flat (take k blocks)) (flat (drop k blocks)) in
    omega (arith, whole)

-- A range of a block, among all.
pub range_of_block : (blocks : List Block) (k j : ℕ) (e : Block) (d : FreeRange) → k < length blocks → j < length (ranges_of (get_or blocks k e))
    → get_or (flat blocks) (begin blocks k + j) d ≡ get_or (ranges_of (get_or blocks k e)) j d
range_of_block blocks k j e d h l = get_or-flat_map ranges_of blocks k j e d h l

-- The first ranges of ranges that ascend do.
pub ascending_left : (xs ys : List FreeRange) (low : ℕ) → Ascending low (xs ++ ys) → Ascending low xs
ascending_left [] ys low up = tt
ascending_left (x ∷ xs) ys low up = (up.0, up.1, up.2, ascending_left xs ys (x.hi + 1) up.3)

-- So do the last ones.
pub ascending_right : (xs ys : List FreeRange) (low : ℕ) → Ascending low (xs ++ ys) → Ascending low ys
ascending_right [] ys low up = up
ascending_right (x ∷ xs) ys low up = ascending_from ys low (x.hi + 1) (omega (arith, up.0, up.1)) (ascending_right xs ys (x.hi + 1) up.3)

-- A block's ranges ascend.
pub block_ascends : (blocks : List Block) (k : ℕ) (d : Block) → k < length blocks → Ascending 0x20000 (flat blocks) → Ascending 0x20000 (ranges_of (get_or blocks k d))
block_ascends blocks k d h up =
    let all = subst (Ascending 0x20000) (parts blocks k d h) up in
    ascending_left (ranges_of (get_or blocks k d)) (flat (drop (k + 1) blocks)) 0x20000
    (ascending_right (flat (take k blocks)) (ranges_of (get_or blocks k d) ++ flat (drop (k + 1) blocks)) 0x20000 all)

-- Each block has a range.
pub has_range : (block : Block) → 0 < length (ranges_of block)
has_range block = omega (arith, block.some, block.ranges.ok.0)

-- The end of a block is that of its last range, among all.
pub high_is : (blocks : List Block) (k : ℕ) (e : Block) (d : FreeRange) → k < length blocks → high_of (get_or blocks k e) ≡ (get_or (flat blocks) (begin blocks (k + 1) - 1) d).hi
high_is blocks k e d h =
    let some = has_range (get_or blocks k e) in
    let rs = ranges_of (get_or blocks k e) in
    let last : length rs - 1 < length rs = omega (arith, some) in
    let at : begin blocks k + (length rs - 1) ≡ begin blocks (k + 1) - 1 = omega (arith, some, begin_next blocks k e h) in
    ap (λ (r : FreeRange). r.hi) (get_or_default rs (length rs - 1) no_range d last ∙ sym (range_of_block blocks k (length rs - 1) e d h last) ∙ ap (λ i. get_or (flat blocks) i d) at)

-- The beginning of a block is that of its first range, among all.
pub low_is : (blocks : List Block) (k : ℕ) (e : Block) (d : FreeRange) → k < length blocks → low_of (get_or blocks k e) ≡ (get_or (flat blocks) (begin blocks k) d).lo
low_is blocks k e d h =
    let some = has_range (get_or blocks k e) in
    let rs = ranges_of (get_or blocks k e) in
    let at : begin blocks k + 0 ≡ begin blocks k = omega arith in
    ap (λ (r : FreeRange). r.lo) (get_or_default rs 0 no_range d some ∙ sym (range_of_block blocks k 0 e d h some) ∙ ap (λ i. get_or (flat blocks) i d) at)

-- The ends of blocks whose ranges ascend ascend.
pub highs_rise : (blocks : List Block) → Ascending 0x20000 (flat blocks) → IsNonDecreasingBy high_of blocks
highs_rise blocks up i j d h l =
    let i' : i < length blocks = omega (arith, h, l) in
    let first = begin_next blocks i d i' in
    let second = begin_next blocks j d l in
    let rises = begin_rises blocks (i + 1) (j + 1) (omega (arith, h)) in
    let some = has_range (get_or blocks i d) in
    let most = begin_most blocks (j + 1) in
    let ends = ends_rise (flat blocks) up (begin blocks (i + 1) - 1) (begin blocks (j + 1) - 1) no_range (omega (arith, rises)) (omega (arith, most, rises, first, some)) in
    omega (arith, ends, high_is blocks i d no_range i', high_is blocks j d no_range l)

-- Their beginnings too.
pub lows_rise : (blocks : List Block) → Ascending 0x20000 (flat blocks) → IsNonDecreasingBy low_of blocks
lows_rise blocks up i j d h l =
    let i' : i < length blocks = omega (arith, h, l) in
    let second = begin_next blocks j d l in
    let rises = begin_rises blocks i j h in
    let some = has_range (get_or blocks j d) in
    let most = begin_most blocks (j + 1) in
    let begins = begins_rise (flat blocks) up (begin blocks i) (begin blocks j) no_range rises (omega (arith, most, second, some)) in
    omega (arith, begins, low_is blocks i d no_range i', low_is blocks j d no_range l)

-- One of some blocks.
pub some_block : (blocks : List Block) → 0 < length blocks → Block
some_block [] h = absurd (omega (arith, h))
some_block (b ∷ bs) h = b

-- Where the ends of the first blocks aren't above an address, and those of the others are, their ranges are parted so.
pub ended_parts : (blocks : List Block) (addr count : ℕ) → Ascending 0x20000 (flat blocks) → count ≤ length blocks
    → ((k : ℕ) (d : Block) → k < count → high_of (get_or blocks k d) ≤ addr) → ((k : ℕ) (d : Block) → count ≤ k → k < length blocks → addr < high_of (get_or blocks k d))
    → BlocksEnded blocks addr count
ended_parts blocks addr count up bound low high = record { first = first; others = others }
  where
    first : (k : ℕ) (d : FreeRange) → k < begin blocks count → (get_or (flat blocks) k d).hi ≤ addr
    first k d h =
        let none : count ≡ 0 → begin blocks count ≡ 0 = λ e. ap (begin blocks) e in
        elim (cases_eq count 0) [
          | inl e ↦ absurd (omega (arith, none e, h))
          | inr some ↦
              let e : Block = some_block blocks (omega (arith, bound, some)) in
              let last = low (count - 1) e (omega (arith, some)) in
              let at : begin blocks (count - 1 + 1) ≡ begin blocks count = ap (begin blocks) (let n : count - 1 + 1 ≡ count = omega (arith, some) in n) in
              let most = begin_most blocks count in
              let rise = ends_rise (flat blocks) up k (begin blocks (count - 1 + 1) - 1) d (omega (arith, at, h)) (omega (arith, at, h, most)) in
              omega (arith, rise, last, high_is blocks (count - 1) e d (omega (arith, bound, some)))
        ]

    others : (k : ℕ) (d : FreeRange) → count < length blocks → begin blocks (count + 1) ≤ k + 1 → k < length (flat blocks) → addr < (get_or (flat blocks) k d).hi
    others k d within from h =
        let e : Block = some_block blocks (omega (arith, within)) in
        let last = high count e (omega arith) within in
        let rise = ends_rise (flat blocks) up (begin blocks (count + 1) - 1) k d (omega (arith, from)) h in
        omega (arith, rise, last, high_is blocks count e d within)

-- Where the beginnings of the blocks behind the first ones aren't below an address, those of their ranges aren't.
pub begun_parts : (blocks : List Block) (addr count : ℕ) → Ascending 0x20000 (flat blocks)
    → ((k : ℕ) (d : Block) → count ≤ k → k < length blocks → addr ≤ low_of (get_or blocks k d)) → BlocksBegun blocks addr count
begun_parts blocks addr count up low k d from h =
    elim (cases_lt count (length blocks)) [
      | inl within ↦
          let e : Block = some_block blocks (omega (arith, within)) in
          let rise = begins_rise (flat blocks) up (begin blocks count) k d from h in
          omega (arith, rise, low count e (omega arith) within, low_is blocks count e d within)
      | inr none ↦ absurd (omega (arith, begin_whole blocks count none, from, h))
    ]
