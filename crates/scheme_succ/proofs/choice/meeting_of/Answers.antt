use Rattle.std.proofs.Common.{arith}
use Rattle.scheme_search.proofs.NeighbourEntries.{entry_low}
use Rattle.scheme_succ.proofs.choice.meeting_of.Goals as goal

pub overflow_add-result : goal.overflow_add-result
overflow_add-result c = let low =
    entry_low c.args.here.now c.args.victim.now c.requires.beside.victim.listed in
    let b = c.requires.beside.behind in omega (arith, low, b, c.from.ensures, c.requires.pads)

pub overflow_add-result-2 : goal.overflow_add-result-2
overflow_add-result-2 c = let low =
    entry_low c.args.here.now c.args.victim.now c.requires.beside.victim.listed in
    let b = c.requires.beside.behind in omega (arith, low, b, c.from.ensures, c.from-2.ensures, c.requires.pads)

pub overflow_add-result-3 : goal.overflow_add-result-3
overflow_add-result-3 c = let low =
    entry_low c.args.here.now c.args.victim.now c.requires.beside.victim.listed in
    omega (arith, low, c.from-3.ensures, c.requires.victim_pads.0)

pub overflow_add-result-4 : goal.overflow_add-result-4
overflow_add-result-4 c = let low =
    entry_low c.args.here.now c.args.victim.now c.requires.beside.victim.listed in
    omega (arith, low, c.from-3.ensures, c.from-4.ensures, c.requires.victim_pads.0)
