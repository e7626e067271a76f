use Rattle.std.proofs.Common.{◌+◌, ◌≤◌, arith}
use Rattle.scheme_search.proofs.NeighbourEntries.{entry_low}
use Rattle.scheme_search.proofs.victim.entry_end.Goals as goal

-- The instruction ends below 0x7fff0000.
end_low : (c : goal.After-from) → c.args.entry.now.addr + c.from.result ≤ 0x7fff0000
end_low c = let low = entry_low c.args.here.now c.args.entry.now c.requires in omega (arith, low, c.from.ensures)

pub overflow_add-result : goal.overflow_add-result
overflow_add-result c = omega (arith, end_low c)

pub returns-clause-low : goal.returns-clause-low
returns-clause-low c = end_low c
