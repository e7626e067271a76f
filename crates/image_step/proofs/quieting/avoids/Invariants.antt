use Rattle.std.proofs.Common.{◌≡◌, ◌-◌}
use Rattle.cpu_state.specs.Bytes.{avoids}
use Rattle.image_runs.specs.Listed.{is_listed_byte}
use Rattle.image_step.proofs.quieting.avoids.Given as goal

abbrev pub invariant-loop-turn : goal.invariant-loop-turn
invariant-loop-turn l = avoids (is_listed_byte l.starts) l.at (l.count - l._turn) ≡ avoids (is_listed_byte l.starts) l.addr l.count
