use Rattle.std.proofs.Common.{vec_len}
use Rattle.byte_locks.specs.declared.lock.Lock.TheVariants.{Changed}
use Rattle.byte_locks.proofs.LockEntries.{with_lock-shown}
use Rattle.byte_locks.proofs.locks.Locks.change.Goals as goal

pub returns-clause-locks : goal.returns-clause-locks
returns-clause-locks c =
    let old = c.self.inside in
    let new = c.change.new in
    rw (← c.self.view_is)
    (with_lock-shown old.pages.items new.pages.items (vec_len new.blank) (vec_len old.blank) c.args.addr (Changed c.args.value)
    c.self.invariant.0 c.change.ensures.ascending c.change.ensures.locks)
