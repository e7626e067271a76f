use Rattle.std.proofs.Common.{vec_len, ap, sym, ◌∙◌, cond, ◌==◌}
use Rattle.byte_locks.specs.Locking.{punned, lock_at}
use Rattle.byte_locks.specs.Pages.{lock_among}
use Rattle.byte_locks.proofs.LockEntries.{shown, lock_at-shown, with_lock-shown}
use Rattle.byte_locks.proofs.locks.Locks.pun.Goals as goal

pub returns-clause-locks : goal.returns-clause-locks
returns-clause-locks c =
    let old = c.self.inside in
    let new = c.pun.new in
    let same = lock_at-shown old.pages.items (vec_len old.blank) c.args.addr c.self.invariant.0 in
    rw (← c.self.view_is)
    (with_lock-shown old.pages.items new.pages.items (vec_len new.blank) (vec_len old.blank) c.args.addr
    (punned (lock_at (shown old.pages.items (vec_len old.blank)) c.args.addr))
    c.self.invariant.0 c.pun.ensures.ascending
    (λ a. c.pun.ensures.locks a ∙ ap (λ l. cond (a == c.args.addr) (punned l) (lock_among old.pages.items a)) (sym same)))
