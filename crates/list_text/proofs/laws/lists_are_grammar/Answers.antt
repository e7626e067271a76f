use Rattle.list_text.proofs.ListGrammar.{lists_are_grammar}
use Rattle.list_text.proofs.laws.lists_are_grammar.Goals as goal

pub returns : goal.returns
returns c = lists_are_grammar
