-- The marks of the places in the ranges of blocks.
use Rattle.std.proofs.Common.{◌≡◌, ℕ, ◌+◌, ◌-◌, ◌<◌, ◌⊎◌, List, [], ◌∷◌, ◌++◌, length, take, get_or, ap, subst, sym, ◌∙◌, inl, inr, arith, refl, length-append}
use Rattle.std.proofs.lemmas.Bool.{cases_lt}
use Rattle.std.proofs.lemmas.List.{get_or_append_left, get_or-append_right, get_or-append-add, take_more, append-nil}
use Rattle.address_space.specs.declared.free_range.FreeRange.{FreeRange}
use Rattle.address_space.specs.declared.block.Block.{Block}
use Rattle.address_space.specs.declared.window.Window.{Window}
use Rattle.address_space.specs.Marks.{MarksMore}
use Rattle.address_space.specs.Ranges.{IsPlaceIn, IsPlaceAmong}
use Rattle.address_space.specs.Blocks.{flat, begin}
use Rattle.address_space.proofs.BlockLists.{ranges_of, flat_both}

module _ (w : Window) (shift m : ℕ) (xs ys : List FreeRange) where
  abbrev pub Both : Type 0
  Both = IsPlaceAmong w shift xs (length xs) m ⊎ IsPlaceAmong w shift ys (length ys) m

  -- A place in ranges is one in some first or in the others.
  either : IsPlaceAmong w shift (xs ++ ys) (length (xs ++ ys)) m → Both
  either p =
      elim (cases_lt p.index (length xs)) [
        | inl before ↦ inl (record {
          index = p.index;
          below = before;
          there = λ d. subst (λ (r : FreeRange). IsPlaceIn w shift r m) (get_or_append_left xs ys d p.index before) (p.there d);
        })
        | inr after ↦ inr (record {
          index = p.index - length xs;
          below = omega (arith, p.below, after, length-append xs ys);
          there = λ d. subst (λ (r : FreeRange). IsPlaceIn w shift r m) (get_or-append_right xs ys (length xs) p.index d refl after) (p.there d);
        })
      ]

  -- And the other way round.
  both : Both → IsPlaceAmong w shift (xs ++ ys) (length (xs ++ ys)) m
  both o =
      elim o [
        | inl p ↦ record {
          index = p.index;
          below = omega (arith, p.below, length-append xs ys);
          there = λ d. subst (λ (r : FreeRange). IsPlaceIn w shift r m) (sym (get_or_append_left xs ys d p.index p.below)) (p.there d);
        }
        | inr p ↦ record {
          index = length xs + p.index;
          below = omega (arith, p.below, length-append xs ys);
          there = λ d. subst (λ (r : FreeRange). IsPlaceIn w shift r m) (sym (get_or-append-add xs ys p.index d)) (p.there d);
        }
      ]

-- The ranges of one block more.
more_flat : (blocks : List Block) (k : ℕ) (e : Block) → k < length blocks → flat (take (k + 1) blocks) ≡ flat (take k blocks) ++ ranges_of (get_or blocks k e)
more_flat blocks k e h =
    ap flat (take_more blocks k e h) ∙ flat_both (take k blocks) (get_or blocks k e ∷ []) ∙ ap (λ (rs : List FreeRange). flat (take k blocks) ++ rs) (append-nil (ranges_of (get_or blocks k e)))

-- The places in one block more.
pub one_block_more : (w : Window) (shift k : ℕ) (blocks : List Block) (e : Block) (a b c : List ℕ) → k < length blocks
    → MarksMore a (IsPlaceAmong w shift (flat (take k blocks)) (begin blocks k)) b
    → MarksMore b (IsPlaceAmong w shift (ranges_of (get_or blocks k e)) (length (ranges_of (get_or blocks k e)))) c
    → MarksMore a (IsPlaceAmong w shift (flat (take (k + 1) blocks)) (begin blocks (k + 1))) c
one_block_more w shift k blocks e a b c h first then =
    let xs = flat (take k blocks) in
    let ys = ranges_of (get_or blocks k e) in
    let all : MarksMore a (IsPlaceAmong w shift (xs ++ ys) (length (xs ++ ys))) c = λ n. (
      λ m. elim ((then n).0 m) [
        | inl before ↦ elim ((first n).0 before) [ inl was ↦ inl was | inr p ↦ inr (both w shift n xs ys (inl p)) ]
        | inr q ↦ inr (both w shift n xs ys (inr q))
      ],
      λ m. elim m [
        | inl was ↦ (then n).1 (inl ((first n).1 (inl was)))
        | inr p ↦ elim (either w shift n xs ys p) [ inl p ↦ (then n).1 (inl ((first n).1 (inr p))) | inr q ↦ (then n).1 (inr q) ]
      ],
    ) in
    subst (λ (rs : List FreeRange). MarksMore a (IsPlaceAmong w shift rs (length rs)) c) (sym (more_flat blocks k e h)) all
