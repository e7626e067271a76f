use Rattle.std.proofs.Common.{◌≡◌, ◌+◌, length, drop, ap, ◌∙◌, arith, length-drop}
use Rattle.std.proofs.lemmas.List.{drop_more}
use Rattle.byte_locks.specs.Locking.{lock_at}
use Rattle.site_turns.specs.LockedRuns.{changed_from}
use Rattle.site_turns.proofs.RunLocks.{changing_next}
use Rattle.site_turns.proofs.locking.change_bytes.Goals as goal

pub change-requires-clause-free : goal.change-requires-clause-free
change-requires-clause-free c =
    let vs = c.args.values.now in
    let i = c.loop-value.value-index in
    let lock = lock_at c.loop-value.locks in
    let at : c.loop-value.next ≡ c.loop-value.next + 0 = omega arith in
    ap lock at ∙ c.loop-value.invariant.free 0 (omega (arith, c.loop-value-test.true, length-drop i vs))

pub loop-value-preserved : goal.loop-value-preserved
loop-value-preserved c =
    let vs = c.args.values.now in
    let i = c.loop-value.value-index in
    changing_next (changed_from c.args.addr vs (lock_at c.args.locks.now)) c.args.locks.now.spare (length vs)
    (lock_at c.loop-value.locks) (lock_at c.change.new.self) c.loop-value.locks.spare c.change.new.self.spare
    c.loop-value.next (drop i vs) (drop (i + 1) vs) _ (drop_more vs i 0 c.loop-value-test.true)
    c.loop-value.invariant c.change.ensures.locks c.change.ensures.spare
