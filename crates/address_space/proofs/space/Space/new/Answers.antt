use Rattle.std.proofs.Common.{arith, List, map, rules, subst, sym}
use Rattle.std.specs.List.Sorted.{IsNonDecreasingBy}
use Rattle.std.proofs.lemmas.List.{take_all}
use Rattle.std.proofs.lemmas.List.Sorted.{IsNonDecreasingBy-from_sort_by_key}
use Rattle.address_space.specs.declared.extent.Extent.{Extent}
use Rattle.address_space.specs.Free.{whole_pages}
use Rattle.address_space.proofs.SweptRanges.{pages_some, made_is}
use Rattle.address_space.proofs.space.Space.new.Goals as goal

pub free_beside-requires-clause-sorted : goal.free_beside-requires-clause-sorted
free_beside-requires-clause-sorted c =
    let sorted = IsNonDecreasingBy-from_sort_by_key (λ e. e.lo) c.sort_unstable_by_key.new.self.items c.sort_unstable_by_key.ensures.sorted (λ a r q k. search rules) in
    subst (λ (xs : List Extent). IsNonDecreasingBy (λ e. e.lo) xs) (sym c.deref.ensures.value) sorted

pub free_beside-requires-clause-some : goal.free_beside-requires-clause-some
free_beside-requires-clause-some c =
    let pages = rw (c.loop-range.invariant, take_all c.loop-range.range-index c.args.taken.now c.loop-range-test.false) at c.sort_unstable_by_key.ensures.permutation in
    pages_some c.args.taken.now c.sort_unstable_by_key.new.self.items c.deref.result.now pages c.deref.ensures.value

pub returns : goal.returns
returns c =
    let pages = rw (c.loop-range.invariant, take_all c.loop-range.range-index c.args.taken.now c.loop-range-test.false) at c.sort_unstable_by_key.ensures.permutation in
    rw (c.in_ok-blocks.ensures, c.deref-2.ensures.value)
    (made_is (map whole_pages c.args.taken.now) c.sort_unstable_by_key.new.self.items c.deref.result.now c.in_ok-free.free.items pages c.deref.ensures.value c.in_ok-free.ensures.ascending c.in_ok-free.ensures.free)

pub invariant_of-result : goal.invariant_of-result
invariant_of-result c = (
  rw (c.in_ok-blocks.ensures, c.deref-2.ensures.value) c.in_ok-free.ensures.ascending,
  omega (arith, c.in_ok-blocks.blocks.ok.0, c.in_ok-blocks.blocks.ok.1, c.new.ensures.len),
)
