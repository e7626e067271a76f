use Rattle.std.proofs.Common.{◌≡◌, ◌+◌, drop}
use Rattle.unpatch.specs.Refusals.{least_from}
use Rattle.unpatch.specs.Undone.{addressed}
use Rattle.unpatch.proofs.missing.missing_in.Given as goal

abbrev pub invariant-loop-i : goal.invariant-loop-i
invariant-loop-i l =
    least_from l.patched.bytes (addressed (l.first + l.i) (drop l.i l.bytes)) l.least
    ≡ least_from l.patched.bytes (addressed l.first l.bytes) l.fn.best
