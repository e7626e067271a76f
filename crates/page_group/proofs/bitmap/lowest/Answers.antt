use Rattle.std.proofs.Common.{refl}
use Rattle.page_group.proofs.WordBits.{none_set, least_bit, lowest_bit}
use Rattle.page_group.proofs.bitmap.lowest.Goals as goal

pub returns-then-word-ne0-clause-least : goal.returns-then-word-ne0-clause-least
returns-then-word-ne0-clause-least c =
    let at = c.loop-index in
    λ k t. least_bit c.args.words.now at.index _ refl c.if-word-ne0.true (c.type_inv.words at.index) at.invariant k t

pub returns-then-word-ne0-clause-one : goal.returns-then-word-ne0-clause-one
returns-then-word-ne0-clause-one c =
    let at = c.loop-index in
    λ k t. lowest_bit c.args.words.now at.index _ refl c.if-word-ne0.true (c.type_inv.words at.index)

pub returns-clause-one : goal.returns-clause-one
returns-clause-one c =
    let at = c.loop-index in
    λ k t. absurd (none_set c.args.words.now at.index c.loop-index-test.false at.invariant k t)
