use Rattle.std.proofs.Common.{◌*◌, length, drop}
use Rattle.byte_locks.specs.Locking.{lock_at}
use Rattle.site_turns.specs.LockedRuns.{runs_punned}
use Rattle.site_turns.proofs.RunLocks.{IsPunningRuns}
use Rattle.site_turns.proofs.locking.pun_runs.Given as goal

abbrev pub invariant-loop-pun : goal.invariant-loop-pun
invariant-loop-pun l =
    IsPunningRuns (runs_punned l.fn.puns (lock_at l.initial.locks)) l.initial.locks.spare (16 * length l.fn.puns)
    (lock_at l.locks) l.locks.spare (drop l.pun-index l.puns)
