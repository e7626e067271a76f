use Rattle.std.proofs.Common.{◌≡◌, ℕ, ◌+◌, ◌<◌}
use Rattle.byte_locks.specs.Locking.{lock_at}
use Rattle.byte_locks.specs.declared.lock.Lock.TheVariants.{Free}
use Rattle.scheme_search.proofs.victim.are_free.Given as goal

abbrev pub invariant-loop-k : goal.invariant-loop-k
invariant-loop-k l = (j : ℕ) → j < l.k → lock_at l.turn.locks.now (l.addr + j) ≡ Free
