use Rattle.std.proofs.Common.{◌≡◌, ◌%◌, ap, sym, ◌∙◌, subst}
use Rattle.byte_locks.specs.declared.lock.Lock.{Lock}
use Rattle.byte_locks.specs.Locking.{punned}
use Rattle.byte_locks.specs.Pages.{lock_in, lock_among}
use Rattle.byte_locks.proofs.LockLookups.{found}
use Rattle.byte_locks.proofs.PageUpdates.{IsWritten, page_written, written_ascending}
use Rattle.byte_locks.proofs.pages.pun.Goals as goal

pub returns-clause-locks : goal.returns-clause-locks
returns-clause-locks c =
    let at = c.place_page-place in
    let old = c.index_mut.result.now in
    let locks = lock_among c.args.pages.now.items in
    let before : lock_in old (c.args.addr % 4096) ≡ locks c.args.addr =
    ap (λ p. lock_in p (c.args.addr % 4096)) c.index_mut.ensures.value
    ∙ sym (found 0 at.result at.new.pages.items old old c.args.addr at.ensures.ascending at.ensures.place.0 (at.ensures.place.1 old))
    ∙ at.ensures.locks c.args.addr in
    page_written at.new.pages.items at.result old c.pun.new.self c.args.addr (punned (locks c.args.addr)) locks
    at.ensures.ascending at.ensures.place c.index_mut.ensures.value c.pun.ensures.number
    (subst (λ (l : Lock). IsWritten old c.pun.new.self (c.args.addr % 4096) (punned l)) before c.pun.ensures.locks) at.ensures.locks

pub returns-clause-ascending : goal.returns-clause-ascending
returns-clause-ascending c =
    let at = c.place_page-place in
    written_ascending 0 at.result at.new.pages.items c.index_mut.result.now c.pun.new.self at.ensures.ascending at.ensures.place.0
    (c.pun.ensures.number ∙ ap (λ p. p.number) c.index_mut.ensures.value)
