use Rattle.scheme_search.proofs.TargetBands.{way_low, few_values}
use Rattle.scheme_search.proofs.shared.next_value.Goals as goal

pub next_stepped-requires-clause-few : goal.next_stepped-requires-clause-few
next_stepped-requires-clause-few c = few_values c.args.way c.args.to c.if-way-eq1-2.true c.requires.way

pub next_stepped-requires-clause-way : goal.next_stepped-requires-clause-way
next_stepped-requires-clause-way c = way_low c.args.way c.args.to c.requires.way
