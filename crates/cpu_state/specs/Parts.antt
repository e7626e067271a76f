-- A state apart from memory and the instruction pointer. Theorems cite it.
use Rattle.cpu_state.specs.declared.state.Core.{Core}
use Rattle.cpu_state.specs.declared.state.State.{State}

-- registers, flags and bases of a state
abbrev pub core_of : State → Core
core_of s = record { regs = s.regs; flags = s.flags; fs = s.fs; gs = s.gs }
