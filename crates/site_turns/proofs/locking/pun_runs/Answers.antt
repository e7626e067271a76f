use Rattle.std.proofs.Common.{ℕ, ◌+◌, ◌*◌, List, length, drop, ap, ◌∙◌, arith}
use Rattle.byte_locks.specs.Locking.{lock_at}
use Rattle.site_turns.specs.LockedRuns.{punned_from, runs_punned}
use Rattle.site_turns.proofs.JoinedLists.{left_at}
use Rattle.site_turns.proofs.RunLocks.{can_pun, punning_runs_next}
use Rattle.site_turns.proofs.locking.pun_runs.Goals as goal

pub pun_bytes-requires-clause-low : goal.pun_bytes-requires-clause-low
pun_bytes-requires-clause-low c =
    let ps = c.args.puns.now in
    let i = c.loop-pun.pun-index in
    let p = c.pun-item.result in
    let e = c.as_slice.ensures.value in
    let fits = c.as_slice.ensures.fits in
    let k = can_pun (runs_punned ps (lock_at c.args.locks.now)) c.args.locks.now.spare (16 * length ps)
    (lock_at c.loop-pun.locks) c.loop-pun.locks.spare (drop i ps) (drop (i + 1) ps) p
    (left_at ps i p c.loop-pun-test.true c.pun-item.is) (omega (arith, fits, ap length e)) c.loop-pun.invariant in
    let low = k.low in
    omega (arith, low, ap length e)

pub loop-pun-preserved : goal.loop-pun-preserved
loop-pun-preserved c =
    let ps = c.args.puns.now in
    let i = c.loop-pun.pun-index in
    let p = c.pun-item.result in
    let e = c.as_slice.ensures.value in
    let fits = c.as_slice.ensures.fits in
    let paid = c.pun_bytes.ensures.spare in
    punning_runs_next (runs_punned ps (lock_at c.args.locks.now)) c.args.locks.now.spare (16 * length ps)
    (lock_at c.loop-pun.locks) (lock_at c.pun_bytes.new.locks) c.loop-pun.locks.spare c.pun_bytes.new.locks.spare
    (drop i ps) (drop (i + 1) ps) p (left_at ps i p c.loop-pun-test.true c.pun-item.is) (omega (arith, fits, ap length e))
    c.loop-pun.invariant (c.pun_bytes.ensures.locks ∙ ap (λ (vs : List ℕ). punned_from p.addr vs (lock_at c.loop-pun.locks)) e)
    (omega (arith, paid, ap length e))
