use Rattle.std.proofs.Common.{◌≡◌, ◌++◌, take}
use Rattle.site_turns.proofs.copying.push_writes.Given as goal

abbrev pub invariant-loop-write : goal.invariant-loop-write
invariant-loop-write l = l.writes.items ≡ l.initial.writes.items ++ take l.write-index l.more
