use Rattle.cpu_alu.proofs.DifferenceFlags.{cleared}
use Rattle.cpu_alu.proofs.laws.cleared.Goals as goal

pub returns : goal.returns
returns c = cleared
