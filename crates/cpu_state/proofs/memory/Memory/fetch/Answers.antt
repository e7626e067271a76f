use Rattle.std.proofs.Common.{◌∙◌}
use Rattle.cpu_state.proofs.memory.Memory.fetch.Goals as goal

pub returns-in-Some : goal.returns-in-Some
returns-in-Some c = c.from_slice.ensures ∙ c.in-Some.ensures
