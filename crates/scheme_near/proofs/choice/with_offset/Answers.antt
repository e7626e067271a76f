use Rattle.std.proofs.Common.{sym, ◌∙◌, arith, true≢false}
use Rattle.scheme_search.proofs.NeighbourEntries.{is_entry}
use Rattle.scheme_near.proofs.ChosenPlans.{good_open}
use Rattle.scheme_near.proofs.choice.with_offset.Goals as goal

pub overflow_add-place : goal.overflow_add-place
overflow_add-place c = let low =
    (is_entry c.args.here.now c.args.victim.now c.requires.beside.victim.listed).low in
    omega (arith, low, c.from.ensures, c.requires.inside.1)

pub returns-else-is_open : goal.returns-else-is_open
returns-else-is_open c = λ d h.
    let o = good_open c.args.here.now c.args.victim.now c.requires.beside c.requires.room
    c.args.offset d h in
    true≢false (sym (c.is_open.ensures.1 o) ∙ c.if-is_open.false)
