use Rattle.address_space.proofs.MarkedWords.{marked_by_fill}
use Rattle.address_space.proofs.marks.mark_words.Goals as goal

pub returns-clause-marked : goal.returns-clause-marked
returns-clause-marked c = marked_by_fill c.args.words.now _ c.args.first c.args.end c.requires.ordered c.requires.within (c.fill.ensures.after (λ y h. h))
