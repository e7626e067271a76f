use Rattle.std.proofs.Common.{◌≡◌, ◌≤◌, ◌-◌, ℕ, List, length, take, Some, Ok}
use Rattle.pun_base.specs.Desk.{Puts}
use Rattle.pun_base.proofs.pieces.put_all.Given as goal

abbrev pub invariant-loop-at : goal.invariant-loop-at
invariant-loop-at g l =
    (l.at ≤ length l.bytes) × ((name : List ℕ) → (g.D.Desk.seen l.fn.desk).writing ≡ Some name → Puts name (take l.at l.bytes) (g.D.Desk.seen l.fn.desk) (g.D.Desk.seen l.desk) (Ok tt))

abbrev pub decreases-loop-at : goal.decreases-loop-at
decreases-loop-at g l = length l.bytes - l.at
