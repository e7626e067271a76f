use Rattle.std.proofs.Common.{ℕ, ◌<◌, get_or}
use Rattle.page_group.specs.declared.offsets.Offsets.{Offsets}
use Rattle.page_group.specs.Occupancy.{ShareOffset}
use Rattle.page_group.proofs.joining.first_open.Given as goal

abbrev pub invariant-loop-group : goal.invariant-loop-group
invariant-loop-group l = (other : ℕ) (d : Offsets) → other < l.group → ShareOffset (get_or l.groups other d) l.offsets
