use Rattle.std.proofs.Common.{◌≡◌}
use Rattle.start_list.specs.TurnViews.{memory_now}
use Rattle.start_list.specs.Turning.{view_of}
use Rattle.start_list.specs.Plans.{bytes_from}
use Rattle.scheme_search.proofs.standing.standing_bytes.Given as goal

abbrev pub invariant-loop-k : goal.invariant-loop-k
invariant-loop-k l = l.bytes.items ≡ bytes_from (memory_now (view_of l.turn)) l.addr l.k
