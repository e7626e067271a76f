-- Locks after the writes of a plan: a byte that was locked keeps its lock and its value.
use Rattle.std.proofs.Common.{◌≡◌, ℕ, ◌+◌, ◌-◌, ◌<◌, ◌≤◌, Bool, true, false, leb, ltb, Option, Some, None, refl, sym, ap, ◌∙◌, arith}
use Rattle.std.specs.Option.{is_some}
use Rattle.std.proofs.lemmas.Bool.{and_from, le-leb, lt-ltb, false≢true, true≢false}
use Rattle.pun_base.specs.Memory.{Cell}
use Rattle.pun_base.specs.Ranges.{is_within}
use Rattle.byte_locks.specs.declared.lock.Lock.{Lock}
use Rattle.byte_locks.specs.declared.lock.Lock.TheVariants.{Free, Punned, Changed}
use Rattle.start_list.specs.TurnViews.{cell_by}
use Rattle.site_turns.specs.States.{relocked}
use Rattle.site_turns.specs.Folded.{is_locked}

-- a locked byte that isn't written keeps its lock
pub kept_lock : (o : Option ℕ) (b : Bool) (k : Lock) → is_some o ≡ false → is_locked k ≡ true → relocked o b k ≡ k
kept_lock (Some v) b k e h = absurd (true≢false e)
kept_lock None false k e h = refl
kept_lock None true Free e h = absurd (false≢true h)
kept_lock None true Punned e h = refl
kept_lock None true (Changed v) e h = refl

-- a byte that isn't written keeps its value
pub kept_value : (o : Option ℕ) (b : Bool) (k : Lock) (c : Option Cell) → is_some o ≡ false → cell_by (relocked o b k) c ≡ cell_by k c
kept_value (Some v) b k c e = absurd (true≢false e)
kept_value None false k c e = refl
kept_value None true Free c e = refl
kept_value None true Punned c e = refl
kept_value None true (Changed v) c e = refl

-- a written byte is locked
pub written_locked : (o : Option ℕ) (b : Bool) (k : Lock) → is_some o ≡ true → is_locked (relocked o b k) ≡ true
written_locked (Some v) b k e = refl
written_locked None b k e = absurd (false≢true e)

-- a punned byte is locked
pub punned_locked : (o : Option ℕ) (k : Lock) → is_locked (relocked o true k) ≡ true
punned_locked (Some v) k = refl
punned_locked None Free = refl
punned_locked None Punned = refl
punned_locked None (Changed v) = refl

-- a free byte isn't locked
pub free_unlocked : (k : Lock) → k ≡ Free → is_locked k ≡ true → ⊥
free_unlocked k e h = false≢true (sym (ap is_locked e) ∙ h)

-- an address from another one on, below its end, is within the range
pub within : (lo n x : ℕ) → lo ≤ x → x < lo + n → is_within lo n x ≡ true
within lo n x a b = and_from (leb lo x) (ltb (x - lo) n) (le-leb lo x a) (lt-ltb (x - lo) n (omega arith))
