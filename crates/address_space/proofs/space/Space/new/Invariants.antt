use Rattle.std.proofs.Common.{◌≡◌, take, map}
use Rattle.address_space.specs.Free.{whole_pages}
use Rattle.address_space.proofs.space.Space.new.Given as goal

abbrev pub invariant-loop-range : goal.invariant-loop-range
invariant-loop-range l = l.extents.items ≡ map whole_pages (take l.range-index l.taken)
