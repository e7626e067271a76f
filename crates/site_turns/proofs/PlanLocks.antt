-- The locks after a plan's bytes are locked are those that the rules give.
use Rattle.std.proofs.Common.{◌≡◌, ◌⊎◌, inl, inr, ℕ, zero, suc, ◌+◌, ◌<◌, ◌≤◌, Bool, true, false, not, ◌&&◌, ◌||◌, eqb, List, [], ◌∷◌, map, length, Option, Some, None, refl, sym, ap, ◌∙◌, arith}
use Rattle.std.specs.Option.{is_some}
use Rattle.std.specs.List.{AllByRecursion}
use Rattle.std.proofs.Math.Path.{fun_ext}
use Rattle.std.proofs.lemmas.Bool.{cases_Bool, cases_lt, or_cases, cond-true, eq-eqb, false≢true, true≢false}
use Rattle.pun_base.specs.Memory.{Cell, Bytes}
use Rattle.pun_base.specs.Ranges.{is_within}
use Rattle.pun_base.specs.declared.plan.Write.{Write}
use Rattle.pun_base.specs.declared.pun.Pun.{Pun}
use Rattle.cpu_state.specs.Bytes.{allows, byte_of, with_byte}
use Rattle.byte_locks.specs.declared.lock.Lock.{Lock}
use Rattle.byte_locks.specs.declared.lock.Lock.TheVariants.{Free, Punned, Changed}
use Rattle.byte_locks.specs.Locking.{with_lock, punned}
use Rattle.start_list.specs.PlanJumps.{Jump, written, is_written, is_spanned, is_punned, cell_with, after_writes}
use Rattle.start_list.specs.Plans.{AreRuns, write_run, pun_run, bytes_from, TellsWrite}
use Rattle.scheme_search.proofs.OneJumpBytes.{within_true, within_parts}
use Rattle.site_turns.specs.LockedRuns.{is_in_runs, changed_from, punned_from, runs_changed, runs_punned}
use Rattle.site_turns.specs.States.{relocked, lock_after}
use Rattle.site_turns.proofs.RunLocks.{other_lock, changed_other}

-- the byte whose lock is set has the new lock
this_lock : (lock : ℕ → Lock) (addr a : ℕ) (k : Lock) → a ≡ addr → with_lock lock addr k a ≡ k
this_lock lock addr a k e = cond-true (eqb a addr) k (lock a) (eq-eqb a addr e)

-- an address that isn't in a range is below or above it
beside_of : (addr n a : ℕ) → is_within addr n a ≡ false → (a < addr) ⊎ (addr + n ≤ a)
beside_of addr n a e = elim (cases_lt a addr) [
  | inl l ↦ inl l
  | inr l ↦ elim (cases_lt a (addr + n)) [
    | inl m ↦ absurd (true≢false (sym (within_true addr n a l m) ∙ e))
    | inr m ↦ inr m
  ]
]

-- where a disjunction is false, both its sides are
or_none : (b c : Bool) → (b || c) ≡ false → (b ≡ false) × (c ≡ false)
or_none true c e = absurd (true≢false e)
or_none false c e = (refl, e)

-- a changed byte has the value that memory has after the writes
value_at : (m : Bytes) (addr n : ℕ) (lock : ℕ → Lock) (a : ℕ) → addr ≤ a → a < addr + n
    → changed_from addr (bytes_from m addr n) lock a ≡ Changed (byte_of (m a))
value_at m addr zero lock a l h = absurd (omega (arith, l, h))
value_at m addr (suc n) lock a l h = elim (cases_lt a (addr + 1)) [
  | inl k ↦ (let e : a ≡ addr = omega (arith, k, l) in
      changed_other (addr + 1) (bytes_from m (addr + 1) n) (with_lock lock addr (Changed (byte_of (m addr)))) a (inl k)
      ∙ this_lock lock addr a (Changed (byte_of (m addr))) e ∙ ap (λ x. Changed (byte_of (m x))) (sym e))
  | inr k ↦ value_at m (addr + 1) n (with_lock lock addr (Changed (byte_of (m addr)))) a k (omega (arith, h))
]

-- in runs of written bytes, and beside them
changed_out : (ws : List Write) (lock : ℕ → Lock) (a : ℕ) → is_in_runs (map write_run ws) a ≡ false → runs_changed ws lock a ≡ lock a
changed_out [] lock a e = refl
changed_out (w ∷ ws) lock a e =
    let q = or_none (is_within w.addr (length w.was) a) (is_in_runs (map write_run ws) a) e in
    let equal = w.equal in
    changed_out ws (changed_from w.addr w.now lock) a q.1
    ∙ changed_other w.addr w.now lock a (same_end (beside_of w.addr (length w.was) a q.0))
  where
    same_end : (a < w.addr) ⊎ (w.addr + length w.was ≤ a) → (a < w.addr) ⊎ (w.addr + length w.now ≤ a)
    same_end (inl l) = inl l
    same_end (inr l) = let equal = w.equal in inr (omega (arith, l, equal))

-- a byte in the runs of writes becomes Changed, to what the written memory holds there
changed_in : (before m : Bytes) (ws : List Write) (lock : ℕ → Lock) (a : ℕ) → AllByRecursion (TellsWrite before m) ws
    → is_in_runs (map write_run ws) a ≡ true → runs_changed ws lock a ≡ Changed (byte_of (m a))
changed_in before m [] lock a t e = absurd (false≢true e)
changed_in before m (w ∷ ws) lock a t e = elim (cases_Bool (is_in_runs (map write_run ws) a)) [
  | inl i ↦ changed_in before m ws (changed_from w.addr w.now lock) a t.1 i
  | inr i ↦ elim (or_cases (is_within w.addr (length w.was) a) (is_in_runs (map write_run ws) a) e) [
    | inl k ↦ (let q = within_parts w.addr (length w.was) a k in
        changed_out ws (changed_from w.addr w.now lock) a i
        ∙ ap (λ (vs : List ℕ). changed_from w.addr vs lock a) t.0.1
        ∙ value_at m w.addr (length w.was) lock a q.0 q.1)
    | inr k ↦ absurd (true≢false (sym k ∙ i))
  ]
]

-- bytes beside punned ones keep their locks
punned_other : (addr : ℕ) (bs : List ℕ) (lock : ℕ → Lock) (a : ℕ) → (a < addr) ⊎ (addr + length bs ≤ a)
    → punned_from addr bs lock a ≡ lock a
punned_other addr [] lock a h = refl
punned_other addr (b ∷ bs) lock a h =
    punned_other (addr + 1) bs (with_lock lock addr (punned (lock addr))) a (beside h)
    ∙ other_lock lock addr a (punned (lock addr)) (λ e. away e h)
  where
    beside : (a < addr) ⊎ (addr + length (b ∷ bs) ≤ a) → (a < addr + 1) ⊎ (addr + 1 + length bs ≤ a)
    beside (inl l) = inl (omega (arith, l))
    beside (inr l) = inr (omega (arith, l))

    away : a ≡ addr → (a < addr) ⊎ (addr + length (b ∷ bs) ≤ a) → ⊥
    away e (inl l) = absurd (omega (arith, e, l))
    away e (inr l) = absurd (omega (arith, e, l))

-- a byte among those that are punned from an address on gets the lock of a punned byte
punned_at : (addr : ℕ) (bs : List ℕ) (lock : ℕ → Lock) (a : ℕ) → addr ≤ a → a < addr + length bs
    → punned_from addr bs lock a ≡ punned (lock a)
punned_at addr [] lock a l h = absurd (omega (arith, l, h))
punned_at addr (b ∷ bs) lock a l h = elim (cases_lt a (addr + 1)) [
  | inl k ↦ (let e : a ≡ addr = omega (arith, k, l) in
      punned_other (addr + 1) bs (with_lock lock addr (punned (lock addr))) a (inl k)
      ∙ this_lock lock addr a (punned (lock addr)) e ∙ ap (λ x. punned (lock x)) (sym e))
  | inr k ↦ (punned_at (addr + 1) bs (with_lock lock addr (punned (lock addr))) a k (omega (arith, h))
      ∙ ap punned (other_lock lock addr a (punned (lock addr)) (λ e. absurd (omega (arith, e, k)))))
]

-- punning a lock twice is punning it once
punned_twice : (k : Lock) → punned (punned k) ≡ punned k
punned_twice Free = refl
punned_twice Punned = refl
punned_twice (Changed v) = refl

-- a byte in no pun keeps its lock
pun_out : (ps : List Pun) (lock : ℕ → Lock) (a : ℕ) → is_in_runs (map pun_run ps) a ≡ false → runs_punned ps lock a ≡ lock a
pun_out [] lock a e = refl
pun_out (p ∷ ps) lock a e =
    let q = or_none (is_within p.addr (length p.bytes) a) (is_in_runs (map pun_run ps) a) e in
    pun_out ps (punned_from p.addr p.bytes lock) a q.1
    ∙ punned_other p.addr p.bytes lock a (beside_of p.addr (length p.bytes) a q.0)

-- a byte in a pun gets the lock of a punned byte
pun_in : (ps : List Pun) (lock : ℕ → Lock) (a : ℕ) → is_in_runs (map pun_run ps) a ≡ true → runs_punned ps lock a ≡ punned (lock a)
pun_in [] lock a e = absurd (false≢true e)
pun_in (p ∷ ps) lock a e = elim (cases_Bool (is_in_runs (map pun_run ps) a)) [
  | inl i ↦ elim (cases_Bool (is_within p.addr (length p.bytes) a)) [
    | inl k ↦ (let q = within_parts p.addr (length p.bytes) a k in
        pun_in ps (punned_from p.addr p.bytes lock) a i ∙ ap punned (punned_at p.addr p.bytes lock a q.0 q.1) ∙ punned_twice (lock a))
    | inr k ↦ (pun_in ps (punned_from p.addr p.bytes lock) a i
        ∙ ap punned (punned_other p.addr p.bytes lock a (beside_of p.addr (length p.bytes) a k)))
  ]
  | inr i ↦ elim (or_cases (is_within p.addr (length p.bytes) a) (is_in_runs (map pun_run ps) a) e) [
    | inl k ↦ (let q = within_parts p.addr (length p.bytes) a k in
        pun_out ps (punned_from p.addr p.bytes lock) a i ∙ punned_at p.addr p.bytes lock a q.0 q.1)
    | inr k ↦ absurd (true≢false (sym k ∙ i))
  ]
]

-- a byte that is written over one that is held
byte_with : (b : ℕ) (c : Option Cell) → allows 1 c ≡ true → byte_of (with_byte b c) ≡ b
byte_with b None h = absurd (false≢true h)
byte_with b (Some d) h = refl

-- a byte that is written isn't punned
not_punned : (s : Bool) (o : Option ℕ) (b : ℕ) → o ≡ Some b → (s && not (is_some o)) ≡ false
not_punned true o b e = ap (λ z. not (is_some z)) e
not_punned false o b e = refl

-- the locks that a plan's runs leave are those after its jumps
pub locks_after : (m : Bytes) (js : List Jump) (writes : List Write) (puns : List Pun) (lock : ℕ → Lock)
    → AreRuns (is_written js) (map write_run writes) → AllByRecursion (TellsWrite m (after_writes m js)) writes
    → AreRuns (is_punned js) (map pun_run puns) → ((a : ℕ) → is_written js a ≡ true → allows 1 (m a) ≡ true)
    → runs_punned puns (runs_changed writes lock) ≡ lock_after lock js
locks_after m js writes puns lock w t p held = fun_ext (λ a. by_cases a (written js a) refl (is_punned js a) refl)
  where
    by_cases : (a : ℕ) (o : Option ℕ) → written js a ≡ o → (b : Bool) → is_punned js a ≡ b
        → runs_punned puns (runs_changed writes lock) a ≡ relocked (written js a) (is_punned js a) (lock a)
    by_cases a (Some v) e b f =
        let is : is_written js a ≡ true = ap is_some e in
        let none : is_punned js a ≡ false = not_punned (is_spanned js a) (written js a) v e in
        pun_out puns (runs_changed writes lock) a (p.told a ∙ none)
        ∙ changed_in m (after_writes m js) writes lock a t (w.told a ∙ is)
        ∙ ap (λ (z : Option ℕ). Changed (byte_of (cell_with z (m a)))) e
        ∙ ap Changed (byte_with v (m a) (held a is))
        ∙ (λ i. relocked (sym e i) (sym none i) (lock a))
    by_cases a None e true f =
        pun_in puns (runs_changed writes lock) a (p.told a ∙ f)
        ∙ ap punned (changed_out writes lock a (w.told a ∙ ap is_some e))
        ∙ (λ i. relocked (sym e i) (sym f i) (lock a))
    by_cases a None e false f =
        pun_out puns (runs_changed writes lock) a (p.told a ∙ f)
        ∙ changed_out writes lock a (w.told a ∙ ap is_some e)
        ∙ (λ i. relocked (sym e i) (sym f i) (lock a))
