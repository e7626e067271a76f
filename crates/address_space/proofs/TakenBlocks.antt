-- The block in which a free range lies, and its place there.
use Rattle.std.proofs.Common.{◌≡◌, ℕ, ◌+◌, ◌-◌, ◌<◌, ◌≤◌, List, length, get_or, ap, ◌∙◌, inl, inr, arith, sym, subst}
use Rattle.std.proofs.lemmas.Bool.{cases_lt}
use Rattle.std.proofs.lemmas.List.{get_or_default}
use Rattle.address_space.specs.declared.free_range.FreeRange.{FreeRange}
use Rattle.address_space.specs.declared.block.Block.{Block}
use Rattle.address_space.specs.Free.{SpaceState, IsFree}
use Rattle.address_space.specs.Ranges.{Ascending, LiesAmong, EndedFirst}
use Rattle.address_space.specs.Blocks.{flat, begin, no_range, BlocksEnded, StandsAt}
use Rattle.address_space.proofs.Gaps.{free_is}
use Rattle.address_space.proofs.RangePlaces.{place_of}
use Rattle.address_space.proofs.SplitRanges.{state_of, place_is}
use Rattle.address_space.proofs.BlockLists.{ranges_of, begin_next, begin_whole, begin_most, range_of_block, has_range}

-- What is free in a space lies among its ranges.
pub lies_in : (rs : List FreeRange) (state : SpaceState) (spare t n : ℕ) → state_of rs spare ≡ state → Ascending 0x20000 rs → 1 ≤ n → IsFree state.taken t n → LiesAmong rs t n
lies_in rs state spare t n view up some free = (free_is rs t n some up).0 (subst (λ (s : SpaceState). IsFree s.taken t n) (sym view) free)

module _ (blocks : List Block) (lo n number : ℕ) (some : 1 ≤ n) (lies : LiesAmong (flat blocks) lo n) (parted : BlocksEnded blocks lo number) where
  -- There is a block behind those that end at or below an address, where something lies from there on.
  pub within : number < length blocks
  within = elim (cases_lt number (length blocks)) [
    | inl less ↦ less
    | inr none ↦
        let at = place_of (flat blocks) lo n lies in
        absurd (omega (arith, parted.first at.place no_range (omega (arith, at.below, begin_whole blocks number none)), (at.lies no_range).1, some))
  ]

  module _ (place : ℕ) (e : Block) (ended : EndedFirst (ranges_of (get_or blocks number e)) lo place) where
    abbrev pub rs : List FreeRange
    rs = ranges_of (get_or blocks number e)

    next_is : begin blocks (number + 1) ≡ begin blocks number + length rs
    next_is = begin_next blocks number e within

    -- And in it a range that ends above the address.
    pub place_within : place < length rs
    place_within = elim (cases_lt place (length rs)) [
      | inl less ↦ less
      | inr none ↦
          let some' = has_range (get_or blocks number e) in
          let last : length rs - 1 < length rs = omega (arith, some') in
          let at = begin blocks number + (length rs - 1) in
          let same : (get_or (flat blocks) at no_range).hi ≡ (get_or rs (length rs - 1) no_range).hi = ap (λ (r : FreeRange). r.hi) (range_of_block blocks number (length rs - 1) e no_range within last) in
          let above = parted.others at no_range within (omega (arith, next_is, some')) (omega (arith, begin_most blocks (number + 1), next_is, some')) in
          absurd (omega (arith, ended.first (length rs - 1) no_range (omega (arith, none, some')), same, above))
    ]

    -- The first such one stands there among all ranges.
    pub ended_at : EndedFirst (flat blocks) lo (begin blocks number + place)
    ended_at = record {
      first = λ k d h. elim (cases_lt k (begin blocks number)) [
        | inl before ↦ parted.first k d before
        | inr after ↦
            let j = k - begin blocks number in
            let inside : j < length rs = omega (arith, h, after, place_within) in
            omega (arith, ended.first j d (omega (arith, h, after)), here k d after inside)
      ];
      others = λ k d from below. elim (cases_lt k (begin blocks (number + 1))) [
        | inl before ↦
            let j = k - begin blocks number in
            let after : begin blocks number ≤ k = omega (arith, from) in
            let inside : j < length rs = omega (arith, before, next_is, after) in
            omega (arith, ended.others j d (omega (arith, from)) inside, here k d after inside)
        | inr behind ↦ parted.others k d within (omega (arith, behind)) below
      ];
    }
      where
        here : (k : ℕ) (d : FreeRange) → begin blocks number ≤ k → k - begin blocks number < length rs → (get_or (flat blocks) k d).hi ≡ (get_or rs (k - begin blocks number) d).hi
        here k d after inside =
            let at : k ≡ begin blocks number + (k - begin blocks number) = omega (arith, after) in
            ap (λ i. (get_or (flat blocks) i d).hi) at ∙ ap (λ (r : FreeRange). r.hi) (range_of_block blocks number (k - begin blocks number) e d within inside)

module _ (blocks : List Block) (number lo hi : ℕ) (up : Ascending 0x20000 (flat blocks)) (less : lo < hi) (lies : LiesAmong (flat blocks) lo (hi - lo)) (parted : BlocksEnded blocks lo number) where
  -- A range lies in the block behind those that end at or below it.
  pub in_block : number < length blocks
  in_block = within blocks lo (hi - lo) number (omega (arith, less)) lies parted

  -- It is a part there of the range behind those that end at or below it.
  pub stands_at : (place : ℕ) (e : Block) → EndedFirst (ranges_of (get_or blocks number e)) lo place → StandsAt blocks number place lo hi
  stands_at place e ended = record {
    within = in_block;
    place_within = λ d. subst (λ (b : Block). place < length (ranges_of b)) (get_or_default blocks number e d in_block)
        (place_within blocks lo (hi - lo) number (omega (arith, less)) lies parted place e ended);
    taken = place_is (flat blocks) (begin blocks number + place) lo hi up (ended_at blocks lo (hi - lo) number (omega (arith, less)) lies parted place e ended) less lies;
  }
