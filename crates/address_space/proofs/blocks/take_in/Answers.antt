use Rattle.std.proofs.Common.{◌≡◌, ◌++◌, ◌-◌, length, take, drop, List, arith, ap, ◌∙◌, take-append-drop}
use Rattle.std.proofs.lemmas.List.{take_rest}
use Rattle.address_space.specs.declared.free_range.FreeRange.{FreeRange}
use Rattle.address_space.specs.Blocks.{no_range}
use Rattle.address_space.proofs.SplitBlocks.{leaves_one}
use Rattle.address_space.proofs.blocks.take_in.Goals as goal

pub invariant_of-block-clause-some : goal.invariant_of-block-clause-some
invariant_of-block-clause-some c =
    let ranges = c.args.block.now.ranges in
    let one = leaves_one ranges.items c.split.new.free.items c.args.place c.args.range no_range (omega (arith, c.requires.place, ranges.ok.0)) c.requires.some (c.split.ensures.items no_range) in
    omega (arith, one, c.split.new.free.ok.0)

pub returns-clause-ranges : goal.returns-clause-ranges
returns-clause-ranges c d =
    let all = c.split.new.free.items in
    let upper : c.filled-upper.result.ranges.items ≡ drop 32 all =
    c.filled-upper.ensures ∙ ap (λ (rs : List FreeRange). take (length rs - 32) (drop 32 rs)) c.deref-2.ensures.value ∙ take_rest all 32 in
    ap (λ (rs : List FreeRange). rs ++ c.filled-upper.result.ranges.items) c.truncate.ensures.items ∙ ap (λ (rs : List FreeRange). take 32 all ++ rs) upper
    ∙ take-append-drop 32 all ∙ c.split.ensures.items d
