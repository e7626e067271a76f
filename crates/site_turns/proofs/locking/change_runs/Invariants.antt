use Rattle.std.proofs.Common.{◌*◌, length, drop}
use Rattle.byte_locks.specs.Locking.{lock_at}
use Rattle.site_turns.specs.LockedRuns.{runs_changed}
use Rattle.site_turns.proofs.RunLocks.{IsChangingRuns}
use Rattle.site_turns.proofs.locking.change_runs.Given as goal

abbrev pub invariant-loop-write : goal.invariant-loop-write
invariant-loop-write l =
    IsChangingRuns (runs_changed l.fn.writes (lock_at l.initial.locks)) l.initial.locks.spare (16 * length l.fn.writes)
    (lock_at l.locks) l.locks.spare (drop l.write-index l.writes)
