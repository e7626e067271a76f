use Rattle.cpu_alu.proofs.DifferenceFlags.{compared}
use Rattle.cpu_alu.proofs.laws.compared.Goals as goal

pub returns : goal.returns
returns c = compared
