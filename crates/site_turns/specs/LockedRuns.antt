-- The locks after runs of bytes are changed or punned, one after the other. Contracts of private functions alone cite it.
use Rattle.std.specs.Prelude.{ℕ, ◌+◌, Bool, List, [], ◌∷◌}
use Rattle.std.specs.List.{list_any}
use Rattle.pun_base.specs.Ranges.{is_within}
use Rattle.pun_base.specs.declared.plan.Write.{Write}
use Rattle.pun_base.specs.declared.pun.Pun.{Pun}
use Rattle.byte_locks.specs.declared.lock.Lock.{Lock}
use Rattle.byte_locks.specs.declared.lock.Lock.TheVariants.{Changed}
use Rattle.byte_locks.specs.Locking.{with_lock, punned}
use Rattle.start_list.specs.Plans.{Run}

-- An address is in one of the runs.
abbrev pub is_in_runs : List Run → ℕ → Bool
is_in_runs runs a = list_any (λ r. is_within r.addr r.size a) runs

-- The bytes from an address on become Changed, with these values.
abbrev pub changed_from : ℕ → List ℕ → (ℕ → Lock) → ℕ → Lock
changed_from addr [] lock = lock
changed_from addr (v ∷ vs) lock = changed_from (addr + 1) vs (with_lock lock addr (Changed v))

-- As many bytes from an address on as these are become Punned where they are Free.
abbrev pub punned_from : ℕ → List ℕ → (ℕ → Lock) → ℕ → Lock
punned_from addr [] lock = lock
punned_from addr (b ∷ bs) lock = punned_from (addr + 1) bs (with_lock lock addr (punned (lock
    addr)))

-- The bytes of runs become Changed, with their new values.
abbrev pub runs_changed : List Write → (ℕ → Lock) → ℕ → Lock
runs_changed [] lock = lock
runs_changed (w ∷ ws) lock = runs_changed ws (changed_from w.addr w.now lock)

-- The bytes of puns become Punned where they are Free.
abbrev pub runs_punned : List Pun → (ℕ → Lock) → ℕ → Lock
runs_punned [] lock = lock
runs_punned (p ∷ ps) lock = runs_punned ps (punned_from p.addr p.bytes lock)
