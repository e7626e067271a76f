use Rattle.page_group.proofs.WordBits.{joined_bits}
use Rattle.page_group.proofs.bitmap.join.Goals as goal

pub returns : goal.returns
returns c =
    let at = c.loop-place in
    joined_bits at.words c.args.words.now c.args.others.now at.place c.loop-place-test.false c.requires at.auto.words at.invariant.joined
