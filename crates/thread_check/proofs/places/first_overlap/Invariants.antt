use Rattle.std.proofs.Common.{◌≡◌, length}
use Rattle.thread_check.specs.LineParts.{first_overlap}
use Rattle.thread_check.proofs.places.first_overlap.Given as goal

abbrev pub invariant-loop-code : goal.invariant-loop-code
invariant-loop-code l = first_overlap l.reached l.left ≡ first_overlap 0 l.codes

abbrev pub decreases-loop-code : goal.decreases-loop-code
decreases-loop-code l = length l.left
