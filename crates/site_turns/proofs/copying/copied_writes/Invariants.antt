use Rattle.std.proofs.Common.{◌≡◌, take}
use Rattle.site_turns.specs.PlanLaws.{writes_of}
use Rattle.site_turns.proofs.copying.copied_writes.Given as goal

abbrev pub invariant-loop-row : goal.invariant-loop-row
invariant-loop-row l = l.writes.items ≡ writes_of (take l.row-index l.rows)
