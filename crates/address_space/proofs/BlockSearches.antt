-- The least place in the ranges of blocks.
use Rattle.std.proofs.Common.{◌≡◌, ℕ, zero, suc, ◌+◌, ◌-◌, ◌<◌, ◌≤◌, List, length, get_or, take, drop, max, ap, ◌∙◌, None, inl, inr, subst, sym, arith, take-append-drop, length-drop}
use Rattle.std.proofs.Math.Nat.{eq-or-lt_of_le}
use Rattle.std.proofs.lemmas.Bool.{cases_lt}
use Rattle.std.proofs.lemmas.List.{get_or_default, take_rest, take-append-le}
use Rattle.pun_base.specs.Least.{IsLeast, Least}
use Rattle.address_space.specs.declared.free_range.FreeRange.{FreeRange}
use Rattle.address_space.specs.declared.block.Block.{Block}
use Rattle.address_space.specs.declared.window.Window.{Window}
use Rattle.address_space.specs.Ranges.{Ascending, PlacesFrom, FitsIn, FitsAmong, EndedFirst}
use Rattle.address_space.specs.Blocks.{flat, begin, no_range}
use Rattle.address_space.proofs.RangePlaces.{apart, range_at}
use Rattle.address_space.proofs.LongestRanges.{greatest_at}
use Rattle.address_space.proofs.LeastPlaces.{NoneBelow, found_part, none_part}
use Rattle.address_space.proofs.BlockLists.{ranges_of, parts, begin_next, begin_most, range_of_block, has_range, ascending_right}
use Rattle.address_space.proofs.SplitBlocks.{drop_mid}

-- Each place that fits is at or above an address.
abbrev pub AllAbove : Window → List FreeRange → ℕ → Type 0
AllAbove w rs low = (s : ℕ) → FitsAmong w rs s → low ≤ s

-- What fits in a range at a place fits among the ranges.
pub among : (w : Window) (rs : List FreeRange) (k s : ℕ) (d : FreeRange) → k < length rs → FitsIn w (get_or rs k d) s → FitsAmong w rs s
among w rs k s d h f = record { place = k; below = h; fits = λ e. subst (λ (r : FreeRange). FitsIn w r s) (get_or_default rs k d e h) f }

-- Each place is at or above the window's first step.
pub all_above : (w : Window) (rs : List FreeRange) → AllAbove w rs w.from
all_above w rs s f = omega (arith, (f.fits no_range).steps.is)

-- None fits in ranges that end at or below an address that no place is below.
pub none_under : (w : Window) (rs : List FreeRange) (count low : ℕ) → 0 < w.size → count ≤ length rs → AllAbove w rs low
    → ((k : ℕ) (d : FreeRange) → k < count → (get_or rs k d).hi ≤ low) → NoneBelow w rs count
none_under w rs count low some bound above first j d less s f =
    omega (arith, above s (among w rs j s d (omega (arith, less, bound)) f), first j d less, f.inside.1, some)

-- None fits in a block whose ranges are too short.
short_block : (w : Window) (blocks : List Block) (k : ℕ) (e : Block) → k < length blocks → NoneBelow w (flat blocks) (begin blocks k) → (get_or blocks k e).longest < w.size
    → NoneBelow w (flat blocks) (begin blocks (k + 1))
short_block w blocks k e h none short j d less s f =
    elim (cases_lt j (begin blocks k)) [
      | inl before ↦ none j d before s f
      | inr after ↦
          let rs = ranges_of (get_or blocks k e) in
          let place = j - begin blocks k in
          let within : place < length rs = omega (arith, begin_next blocks k e h, less, after) in
          let at : j ≡ begin blocks k + place = omega (arith, after) in
          let same = ap (λ i. get_or (flat blocks) i d) at ∙ range_of_block blocks k place e d h within in
          let here = subst (λ (r : FreeRange). FitsIn w r s) same f in
          absurd (omega (arith, greatest_at rs place d within, (get_or blocks k e).measured, short, here.inside.0, here.inside.1))
    ]

-- Nor in several such blocks.
pub short_blocks : (w : Window) (blocks : List Block) (next count : ℕ) (e : Block) → next + count ≤ length blocks → NoneBelow w (flat blocks) (begin blocks next)
    → ((k : ℕ) (d : Block) → next ≤ k → k < next + count → (get_or blocks k d).longest < w.size) → NoneBelow w (flat blocks) (begin blocks (next + count))
short_blocks w blocks next zero e h none short = let same : next ≡ next + zero = omega arith in subst (λ (k : ℕ). NoneBelow w (flat blocks) (begin blocks k)) same none
short_blocks w blocks next (suc count) e h none short =
    let rest = short_blocks w blocks next count e (omega (arith, h)) none (λ k d from below. short k d from (omega (arith, below))) in
    let one = short_block w blocks (next + count) e (omega (arith, h)) rest (short (next + count) e (omega arith) (omega arith)) in
    let same : next + count + 1 ≡ next + suc count = omega arith in
    subst (λ (k : ℕ). NoneBelow w (flat blocks) (begin blocks k)) same one

-- The same up to a block with a number.
pub short_up_to : (w : Window) (blocks : List Block) (next number : ℕ) (e : Block) → next ≤ number → number ≤ length blocks → NoneBelow w (flat blocks) (begin blocks next)
    → ((k : ℕ) (d : Block) → next ≤ k → k < number → (get_or blocks k d).longest < w.size) → NoneBelow w (flat blocks) (begin blocks number)
short_up_to w blocks next number e from h none short =
    let same : next + (number - next) ≡ number = omega (arith, from) in
    subst (λ (k : ℕ). NoneBelow w (flat blocks) (begin blocks k)) same
    (short_blocks w blocks next (number - next) e (omega (arith, from, h)) none (λ k d low below. short k d low (omega (arith, below, from))))

-- None fits at all where none fits before ranges that begin at or above the window's end.
pub none_behind : (w : Window) (rs : List FreeRange) (count : ℕ) → ((k : ℕ) (d : FreeRange) → count ≤ k → k < length rs → w.top ≤ (get_or rs k d).lo) → NoneBelow w rs count → Least (FitsAmong w rs) None
none_behind w rs count begun none s f =
    elim (cases_lt f.place count) [
      | inl before ↦ none f.place no_range before s (f.fits no_range)
      | inr after ↦ omega (arith, begun f.place no_range after f.below, (f.fits no_range).inside.0, (f.fits no_range).before)
    ]

-- Behind a range that begins there all do.
pub begun_behind : (rs : List FreeRange) (addr at : ℕ) (e : FreeRange) → Ascending 0x20000 rs → at < length rs → addr ≤ (get_or rs at e).lo
    → (k : ℕ) (d : FreeRange) → at ≤ k → k < length rs → addr ≤ (get_or rs k d).lo
begun_behind rs addr at e up h low k d from below =
    let first = ap (λ (r : FreeRange). r.lo) (get_or_default rs at e d h) in
    elim (eq-or-lt_of_le from) [
      | inl same ↦ let P : ℕ → Type 0 = λ i. addr ≤ (get_or rs i d).lo in subst P same (omega (arith, first, low))
      | inr less ↦ omega (arith, first, low, apart rs 0x20000 up at k d less below, (range_at rs 0x20000 at d up h).some)
    ]

-- The last ranges of a list ascend.
pub rest_ascends : (rs : List FreeRange) (n : ℕ) → Ascending 0x20000 rs → Ascending 0x20000 (take (length rs - n) (drop n rs))
rest_ascends rs n up = subst (Ascending 0x20000) (sym (take_rest rs n)) (ascending_right (take n rs) (drop n rs) 0x20000 (subst (Ascending 0x20000) (sym (take-append-drop n rs)) up))

-- A block, some of whose first ranges end at or below an address that no place is below.
module _ (w : Window) (blocks : List Block) (number first low : ℕ) (e : Block) (within : number < length blocks) (some : 0 < w.size) (up : Ascending 0x20000 (flat blocks))
    (few : first ≤ length (ranges_of (get_or blocks number e))) (ended : EndedFirst (ranges_of (get_or blocks number e)) low first)
    (above : AllAbove w (flat blocks) low) (none : NoneBelow w (flat blocks) (begin blocks number)) where
  abbrev pub rs : List FreeRange
  rs = ranges_of (get_or blocks number e)

  next_is : begin blocks (number + 1) ≡ begin blocks number + length rs
  next_is = begin_next blocks number e within

  -- Its other ranges are a part of all.
  part_is : take (begin blocks (number + 1) - (begin blocks number + first)) (drop (begin blocks number + first) (flat blocks)) ≡ take (length rs - first) (drop first rs)
  part_is =
      let few' : begin blocks (number + 1) - (begin blocks number + first) ≡ length rs - first = omega (arith, next_is) in
      let back = flat (drop (number + 1) blocks) in
      ap (λ n. take n (drop (begin blocks number + first) (flat blocks))) few'
      ∙ ap (λ (all : List FreeRange). take (length rs - first) (drop (begin blocks number + first) all)) (parts blocks number e within)
      ∙ ap (take (length rs - first)) (drop_mid (flat (take number blocks)) rs back first few)
      ∙ take-append-le (length rs - first) (drop first rs) back (omega (arith, length-drop first rs))

  none_before : NoneBelow w (flat blocks) (begin blocks number + first)
  none_before j d less s f =
      elim (cases_lt j (begin blocks number)) [
        | inl before ↦ none j d before s f
        | inr after ↦
            let place = j - begin blocks number in
            let inside : place < length rs = omega (arith, less, after, few) in
            let at : j ≡ begin blocks number + place = omega (arith, after) in
            let same : (get_or (flat blocks) j d).hi ≡ (get_or rs place d).hi = ap (λ i. (get_or (flat blocks) i d).hi) at ∙ ap (λ (r : FreeRange). r.hi) (range_of_block blocks number place e d within inside) in
            let all : j < length (flat blocks) = omega (arith, begin_most blocks (number + 1), next_is, at, inside) in
            omega (arith, above s (among w (flat blocks) j s d all f), ended.first place d (omega (arith, less, after)), same, f.inside.1, some)
      ]

  -- The least place in them is the least at all.
  pub found_here : (t : ℕ) → IsLeast (FitsAmong w (take (length rs - first) (drop first rs))) t → IsLeast (FitsAmong w (flat blocks)) t
  found_here t here =
      found_part w (flat blocks) (begin blocks number + first) (begin blocks (number + 1)) t (apart (flat blocks) 0x20000 up) (omega (arith, next_is, few)) (begin_most blocks (number + 1)) none_before
      (subst (λ (xs : List FreeRange). IsLeast (FitsAmong w xs) t) (sym part_is) here)

  -- Where they have none, none fits in the block either.
  pub none_here : Least (FitsAmong w (take (length rs - first) (drop first rs))) None → NoneBelow w (flat blocks) (begin blocks (number + 1))
  none_here here =
      none_part w (flat blocks) (begin blocks number + first) (begin blocks (number + 1)) (begin_most blocks (number + 1)) none_before
      (subst (λ (xs : List FreeRange). Least (FitsAmong w xs) None) (sym part_is) here)

  -- And each place is at or above the next one from the block's last range on.
  pub leaps : (place : ℕ) (d : FreeRange) → NoneBelow w (flat blocks) (begin blocks (number + 1)) → IsLeast (PlacesFrom w (get_or rs (length rs - 1) d).lo) place → AllAbove w (flat blocks) place
  leaps place d passed least s f =
      elim (cases_lt f.place (begin blocks (number + 1))) [
        | inl before ↦ absurd (passed f.place no_range before s (f.fits no_range))
        | inr after ↦
            let some' = has_range (get_or blocks number e) in
            let last : length rs - 1 < length rs = omega (arith, some') in
            let here = f.fits no_range in
            let same = ap (λ (r : FreeRange). r.lo) (range_of_block blocks number (length rs - 1) e d within last) in
            let at = begin blocks number + (length rs - 1) in
            let all : at < length (flat blocks) = omega (arith, begin_most blocks (number + 1), next_is, last) in
            let gap = apart (flat blocks) 0x20000 up at f.place d (omega (arith, after, next_is, last)) f.below in
            let long = range_at (flat blocks) 0x20000 at d up all in
            let from = (f.fits d).inside.0 in
            least.least s (record { steps = record { steps = here.steps; above = omega (arith, same, gap, long.some, from) }; away = here.away })
      ]

-- Where none fits in some first blocks, nor in others, none fits in the more of them.
pub none_in_more : (w : Window) (blocks : List Block) (a b : ℕ) → NoneBelow w (flat blocks) (begin blocks a) → NoneBelow w (flat blocks) (begin blocks b) → NoneBelow w (flat blocks) (begin blocks (max a b))
none_in_more w blocks a b first second =
    elim (cases_lt a b) [
      | inl less ↦ let same : b ≡ max a b = omega (arith, less) in subst (λ (k : ℕ). NoneBelow w (flat blocks) (begin blocks k)) same second
      | inr more ↦ let same : a ≡ max a b = omega (arith, more) in subst (λ (k : ℕ). NoneBelow w (flat blocks) (begin blocks k)) same first
    ]
