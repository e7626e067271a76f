use Rattle.std.proofs.Common.{[]}
use Rattle.byte_locks.proofs.LockEntries.{lock_at-shown}
use Rattle.byte_locks.proofs.locks.Locks.new.Goals as goal

pub returns : goal.returns
returns c = λ a. rw c.new.ensures.items (lock_at-shown [] c.new-2.result.len a tt)
