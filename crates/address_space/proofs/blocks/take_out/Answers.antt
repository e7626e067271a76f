use Rattle.std.proofs.Common.{◌≡◌, ◌+◌, ◌<◌, ◌++◌, [], length, get_or, set, insert, remove, arith, rules, ap, sym, subst, ◌∙◌}
use Rattle.std.proofs.lemmas.List.{get_or_default, set-get_or, append-nil}
use Rattle.address_space.specs.declared.block.Block.{Block}
use Rattle.address_space.specs.Blocks.{flat}
use Rattle.address_space.proofs.BlockLists.{ranges_of}
use Rattle.address_space.proofs.SplitBlocks.{out_of_read, flat_set, flat_split, flat_without, nothing_left}
use Rattle.address_space.proofs.blocks.take_out.Goals as goal

pub returns-then-whole-range-clause-items : goal.returns-then-whole-range-clause-items
returns-then-whole-range-clause-items c d =
    let blocks = c.args.blocks.now.items in
    let block = c.index_mut-block.result.now in
    let value = c.index_mut-block.ensures.value in
    let within : c.args.number < length blocks = omega (arith, c.requires.number, c.args.blocks.now.ok.0) in
    let inside : c.args.place < length (ranges_of block) = subst (λ (b : Block). c.args.place < length (ranges_of b)) (sym value) (c.requires.place block) in
    let whole = c.index-whole.result.now in
    let same : whole ≡ get_or (ranges_of block) c.args.place d = c.index-whole.ensures ∙ get_or_default (ranges_of block) c.args.place whole d inside in
    let one : length (ranges_of block) ≡ 1 = omega (arith, c.if-len-eq1.true, c.len.ensures, block.ranges.ok.0) in
    out_of_read blocks (flat c.remove.new.self.items) [] c.args.number c.args.place c.args.range block d within value inside
    (ap flat (c.remove.ensures.items ∙ ap (λ bs. remove bs c.args.number) (ap (set blocks c.args.number) value ∙ set-get_or blocks c.args.number block)) ∙ flat_without blocks c.args.number)
    (nothing_left (ranges_of block) c.args.place c.args.range d one inside (omega (arith, ap (λ r. r.lo) same, c.if-range-whole.true)) (omega (arith, ap (λ r. r.hi) same, c.if-whole-range.true)))

pub returns-in-Some-clause-items : goal.returns-in-Some-clause-items
returns-in-Some-clause-items c d =
    let blocks = c.args.blocks.now.items in
    let block = c.index_mut-block.result.now in
    let lower = c.take_in.new.block in
    let upper = c.in-Some.upper in
    let value = c.index_mut-block.ensures.value in
    let within : c.args.number < length blocks = omega (arith, c.requires.number, c.args.blocks.now.ok.0) in
    let inside : c.args.place < length (ranges_of block) = subst (λ (b : Block). c.args.place < length (ranges_of b)) (sym value) (c.requires.place block) in
    let items : c.insert.new.self.items ≡ insert (set blocks c.args.number lower) (c.args.number + 1) upper = search rules in
    out_of_read blocks (flat c.insert.new.self.items) (ranges_of lower ++ ranges_of upper) c.args.number c.args.place c.args.range block d within value inside
    (ap flat items ∙ flat_split blocks c.args.number lower upper within) (c.in-Some.ensures.ranges d)

pub returns-in_default-clause-items : goal.returns-in_default-clause-items
returns-in_default-clause-items c d =
    let blocks = c.args.blocks.now.items in
    let block = c.index_mut-block.result.now in
    let changed = c.take_in.new.block in
    let value = c.index_mut-block.ensures.value in
    let within : c.args.number < length blocks = omega (arith, c.requires.number, c.args.blocks.now.ok.0) in
    let inside : c.args.place < length (ranges_of block) = subst (λ (b : Block). c.args.place < length (ranges_of b)) (sym value) (c.requires.place block) in
    out_of_read blocks (flat (set blocks c.args.number changed)) (ranges_of changed) c.args.number c.args.place c.args.range block d within value inside
    (flat_set blocks c.args.number changed within) (sym (append-nil (ranges_of changed)) ∙ c.in_default.ensures.ranges d)
