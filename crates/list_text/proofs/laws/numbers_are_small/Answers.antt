use Rattle.list_text.proofs.ListGrammar.{numbers_are_small}
use Rattle.list_text.proofs.laws.numbers_are_small.Goals as goal

pub returns : goal.returns
returns c = numbers_are_small
