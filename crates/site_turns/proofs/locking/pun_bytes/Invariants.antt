use Rattle.std.proofs.Common.{length, drop}
use Rattle.byte_locks.specs.Locking.{lock_at}
use Rattle.site_turns.specs.LockedRuns.{punned_from}
use Rattle.site_turns.proofs.RunLocks.{IsPunning}
use Rattle.site_turns.proofs.locking.pun_bytes.Given as goal

abbrev pub invariant-loop-byte : goal.invariant-loop-byte
invariant-loop-byte l =
    IsPunning (punned_from l.fn.addr l.fn.bytes (lock_at l.initial.locks)) l.initial.locks.spare (length l.fn.bytes)
    (lock_at l.locks) l.locks.spare l.next (drop l._byte-index l.bytes)
