use Rattle.std.proofs.Common.{◌≡◌, ℕ, ◌<◌, ◌≤◌}
use Rattle.byte_locks.specs.Locking.{lock_at}
use Rattle.byte_locks.specs.declared.lock.Lock.TheVariants.{Free}
use Rattle.turn_tests.proofs.schemes.answers.is_free.Given as goal

-- The bytes before the one that is looked at are free.
abbrev pub invariant-loop-addr : goal.invariant-loop-addr
invariant-loop-addr l = (a : ℕ) → l.site.addr ≤ a → a < l.addr → lock_at l.locks a ≡ Free
