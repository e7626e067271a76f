use Rattle.std.proofs.Common.{ℕ, ◌+◌, ◌*◌, List, length, drop, ap, ◌∙◌, arith}
use Rattle.byte_locks.specs.Locking.{lock_at}
use Rattle.site_turns.specs.LockedRuns.{changed_from, runs_changed}
use Rattle.site_turns.proofs.JoinedLists.{left_at}
use Rattle.site_turns.proofs.RunLocks.{can_change, changing_runs_next}
use Rattle.site_turns.proofs.locking.change_runs.Goals as goal

pub change_bytes-requires-clause-low : goal.change_bytes-requires-clause-low
change_bytes-requires-clause-low c =
    let ws = c.args.writes.now in
    let i = c.loop-write.write-index in
    let w = c.write-item.result in
    let e = c.as_slice.ensures.value in
    let k = can_change (runs_changed ws (lock_at c.args.locks.now)) c.args.locks.now.spare (16 * length ws)
    (lock_at c.loop-write.locks) c.loop-write.locks.spare (drop i ws) (drop (i + 1) ws) w
    (left_at ws i w c.loop-write-test.true c.write-item.is) c.loop-write.invariant in
    let low = k.low in
    omega (arith, low, ap length e)

pub loop-write-preserved : goal.loop-write-preserved
loop-write-preserved c =
    let ws = c.args.writes.now in
    let i = c.loop-write.write-index in
    let w = c.write-item.result in
    let e = c.as_slice.ensures.value in
    let paid = c.change_bytes.ensures.spare in
    changing_runs_next (runs_changed ws (lock_at c.args.locks.now)) c.args.locks.now.spare (16 * length ws)
    (lock_at c.loop-write.locks) (lock_at c.change_bytes.new.locks) c.loop-write.locks.spare c.change_bytes.new.locks.spare
    (drop i ws) (drop (i + 1) ws) w (left_at ws i w c.loop-write-test.true c.write-item.is) c.loop-write.invariant
    (c.change_bytes.ensures.locks ∙ ap (λ (vs : List ℕ). changed_from w.addr vs (lock_at c.loop-write.locks)) e)
    (omega (arith, paid, ap length e))
