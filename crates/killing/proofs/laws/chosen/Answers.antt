use Rattle.killing.proofs.Choosing.{chooses, one_register}
use Rattle.killing.proofs.laws.chosen.Goals as goal

pub returns-clause-places : goal.returns-clause-places
returns-clause-places c = chooses

pub returns-clause-one : goal.returns-clause-one
returns-clause-one c = one_register
