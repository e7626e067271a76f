-- Locks of bytes: a finite map from an address to what was done with its byte. Theorems cite it.
-- That is Punned or Changed. The others are Free.
use Rattle.std.specs.Prelude.{ℕ, unwrap_or, ◌==◌, if◌then◌else◌, refl}
use Rattle.std.specs.Ordering.{nat_cmp}
use Rattle.std.specs.FinMap.{FinMap, get, code}
use Rattle.std.specs.Coded.{Coded, code_by, coded×, coded_ℕ}
use Rattle.byte_locks.specs.contracts.lock.Lock as lock
use Rattle.byte_locks.specs.declared.lock.Lock.{Lock}
use Rattle.byte_locks.specs.declared.lock.Lock.TheVariants.{Free, Punned, Changed}

-- The bytes that are locked, and how many more locks may be set before more memory is taken.
pub record LocksState : Type 0 where
  pub locked : FinMap nat_cmp Lock
  pub spare : ℕ

-- The lock of the byte at an address.
abbrev pub lock_at : LocksState → ℕ → Lock
lock_at locks addr = unwrap_or (get locks.locked addr) Free

-- All locks as before but that of one address.
abbrev pub with_lock : (ℕ → Lock) → ℕ → Lock → ℕ → Lock
with_lock locks addr lock a = if a == addr then lock else locks a

-- Punning leaves a byte that isn't free.
abbrev pub punned : Lock → Lock
punned Free = Punned
punned Punned = Punned
punned (Changed value) = Changed value

-- How a state is coded: by its map and its number.
abbrev pub state_code : Coded LocksState
state_code =
    code_by (FinMap nat_cmp Lock × ℕ) (coded× (code coded_ℕ lock.the_row.coded) coded_ℕ) (λ s. (s.locked, s.spare)) (λ p. record { locked = p.0; spare = p.1 }) (λ _. refl)
