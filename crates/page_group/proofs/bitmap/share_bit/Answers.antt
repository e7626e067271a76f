use Rattle.std.proofs.Common.{refl, arith}
use Rattle.std.proofs.lemmas.Bool.{false≢true}
use Rattle.page_group.proofs.WordBits.{common_bit, no_shared_bit}
use Rattle.page_group.proofs.bitmap.share_bit.Goals as goal

pub returns-then-words-index-ne0 : goal.returns-then-words-index-ne0
returns-then-words-index-ne0 c =
    let index = c.loop-index.index in
    let shared = common_bit c.args.words.now c.args.others.now index _ refl c.if-words-index-ne0.true (c.type_inv.words index) in
    (λ _. shared, λ _. refl)

pub returns : goal.returns
returns c =
    let none = no_shared_bit c.args.words.now c.args.others.now c.args.first c.args.end c.requires.among
    (λ k l m. c.loop-index.invariant k l (let n = c.loop-index-test.false in omega arith)) in
    (λ e. absurd (false≢true e), λ m. absurd (none m))
