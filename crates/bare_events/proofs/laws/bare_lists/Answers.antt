use Rattle.bare_events.proofs.CountLists.{counts_bare, registers_bare}
use Rattle.bare_events.proofs.WhenLists.{whens_bare}
use Rattle.bare_events.proofs.laws.bare_lists.Goals as goal

pub returns-clause-counts : goal.returns-clause-counts
returns-clause-counts c = counts_bare

pub returns-clause-registers : goal.returns-clause-registers
returns-clause-registers c = registers_bare

pub returns-clause-whens : goal.returns-clause-whens
returns-clause-whens c = whens_bare
