use Rattle.std.proofs.Common.{length, drop}
use Rattle.byte_locks.specs.Locking.{lock_at}
use Rattle.site_turns.specs.LockedRuns.{changed_from}
use Rattle.site_turns.proofs.RunLocks.{IsChanging}
use Rattle.site_turns.proofs.locking.change_bytes.Given as goal

abbrev pub invariant-loop-value : goal.invariant-loop-value
invariant-loop-value l =
    IsChanging (changed_from l.fn.addr l.fn.values (lock_at l.initial.locks)) l.initial.locks.spare (length l.fn.values)
    (lock_at l.locks) l.locks.spare l.next (drop l.value-index l.values)
