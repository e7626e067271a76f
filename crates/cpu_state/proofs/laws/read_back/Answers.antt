use Rattle.cpu_state.proofs.Readback.{read_back}
use Rattle.cpu_state.proofs.laws.read_back.Goals as goal

pub returns : goal.returns
returns c = read_back
