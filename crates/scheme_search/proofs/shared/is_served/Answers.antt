use Rattle.scheme_search.proofs.UnservedValues.{as_fit, of_fit}
use Rattle.scheme_search.proofs.shared.is_served.Goals as goal

pub returns-in-None-clause-no : goal.returns-in-None-clause-no
returns-in-None-clause-no c = λ e t f. c.in-None.ensures t (as_fit c.args.space.now.taken c.args.way c.args.x t f)

pub returns-in-Some-clause-yes : goal.returns-in-Some-clause-yes
returns-in-Some-clause-yes c = λ e. (_, of_fit c.args.space.now.taken c.args.way c.args.x _ c.in-Some.ensures.good)
