use Rattle.std.proofs.Common.{◌≡◌, ◌-◌}
use Rattle.cpu_state.specs.Bytes.{lacking}
use Rattle.cpu_state.specs.Regions.{cell_at}
use Rattle.cpu_state.proofs.regions.first_lacking.Given as goal

abbrev pub invariant-loop-k : goal.invariant-loop-k
invariant-loop-k l = lacking l.perm (cell_at l.regions) l.addr l.count ≡ lacking l.perm (cell_at l.regions) l.at (l.count - l._k)
