use Rattle.std.proofs.Common.{◌≡◌, take}
use Rattle.page_group.specs.Joining.{bound_of}
use Rattle.page_group.proofs.joining.count_groups.Given as goal

abbrev pub invariant-loop-group : goal.invariant-loop-group
invariant-loop-group l = l.count ≡ bound_of (take l.group-index l.groups)
