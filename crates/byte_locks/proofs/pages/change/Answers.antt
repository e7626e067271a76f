use Rattle.std.proofs.Common.{ap, ◌∙◌}
use Rattle.byte_locks.specs.declared.lock.Lock.TheVariants.{Changed}
use Rattle.byte_locks.specs.Pages.{lock_among}
use Rattle.byte_locks.proofs.PageUpdates.{page_written, written_ascending}
use Rattle.byte_locks.proofs.pages.change.Goals as goal

pub returns-clause-locks : goal.returns-clause-locks
returns-clause-locks c =
    let at = c.place_page-place in
    page_written at.new.pages.items at.result c.index_mut.result.now c.change.new.self c.args.addr (Changed c.args.value)
    (lock_among c.args.pages.now.items)
    at.ensures.ascending at.ensures.place c.index_mut.ensures.value c.change.ensures.number c.change.ensures.locks at.ensures.locks

pub returns-clause-ascending : goal.returns-clause-ascending
returns-clause-ascending c =
    let at = c.place_page-place in
    written_ascending 0 at.result at.new.pages.items c.index_mut.result.now c.change.new.self at.ensures.ascending at.ensures.place.0
    (c.change.ensures.number ∙ ap (λ p. p.number) c.index_mut.ensures.value)
