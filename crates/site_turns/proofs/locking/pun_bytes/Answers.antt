use Rattle.std.proofs.Common.{◌+◌, length, drop}
use Rattle.std.proofs.lemmas.List.{drop_more}
use Rattle.byte_locks.specs.Locking.{lock_at}
use Rattle.site_turns.specs.LockedRuns.{punned_from}
use Rattle.site_turns.proofs.RunLocks.{punning_next}
use Rattle.site_turns.proofs.locking.pun_bytes.Goals as goal

pub loop-byte-preserved : goal.loop-byte-preserved
loop-byte-preserved c =
    let bs = c.args.bytes.now in
    let i = c.loop-byte._byte-index in
    punning_next (punned_from c.args.addr bs (lock_at c.args.locks.now)) c.args.locks.now.spare (length bs)
    (lock_at c.loop-byte.locks) (lock_at c.pun.new.self) c.loop-byte.locks.spare c.pun.new.self.spare
    c.loop-byte.next (drop i bs) (drop (i + 1) bs) _ (drop_more bs i 0 c.loop-byte-test.true)
    c.loop-byte.invariant c.pun.ensures.locks c.pun.ensures.spare
