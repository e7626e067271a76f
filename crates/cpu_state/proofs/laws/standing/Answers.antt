use Rattle.cpu_state.proofs.StandingBytes.{in_parts, alike}
use Rattle.cpu_state.proofs.laws.standing.Goals as goal

pub returns-clause-parts : goal.returns-clause-parts
returns-clause-parts c = in_parts

pub returns-clause-alike : goal.returns-clause-alike
returns-clause-alike c = alike
