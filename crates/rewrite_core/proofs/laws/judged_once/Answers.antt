use Rattle.rewrite_core.proofs.OneVerdict.{judged_in_turn, planned_once, judged_once}
use Rattle.rewrite_core.proofs.laws.judged_once.Goals as goal

pub returns-clause-in_turn : goal.returns-clause-in_turn
returns-clause-in_turn c = judged_in_turn

pub returns-clause-planned : goal.returns-clause-planned
returns-clause-planned c = planned_once

pub returns-clause-judged : goal.returns-clause-judged
returns-clause-judged c = judged_once
