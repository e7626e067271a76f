-- Runs of bytes that become Changed or Punned, one byte after the other: what is left to be locked.
use Rattle.std.proofs.Common.{◌≡◌, ◌⊎◌, inl, inr, ℕ, suc, ◌+◌, ◌*◌, ◌-◌, ◌^◌, ◌<◌, ◌≤◌, true, false, eqb, List, [], ◌∷◌, map, length, refl, ap, ◌∙◌, subst, arith}
use Rattle.std.specs.List.{AllByRecursion}
use Rattle.std.proofs.Math.Path.{fun_ext}
use Rattle.std.proofs.lemmas.Bool.{or_cases, or_left, or_right, cond-false, ne_eqb}
use Rattle.pun_base.specs.Ranges.{is_within}
use Rattle.pun_base.specs.declared.plan.Write.{Write}
use Rattle.pun_base.specs.declared.pun.Pun.{Pun}
use Rattle.byte_locks.specs.declared.lock.Lock.{Lock}
use Rattle.byte_locks.specs.declared.lock.Lock.TheVariants.{Free, Changed}
use Rattle.byte_locks.specs.Locking.{with_lock, punned}
use Rattle.start_list.specs.Plans.{Run, Ascend, write_run, pun_run}
use Rattle.scheme_search.proofs.OneJumpBytes.{within_true, within_parts}
use Rattle.site_turns.specs.LockedRuns.{is_in_runs, changed_from, punned_from, runs_changed, runs_punned}

-- what is left of locking bytes: the rest over what stands is the whole, and so many locks may be set
pub record IsLeft (whole rest : ℕ → Lock) (old all spare left : ℕ) : Type 0 where
  pub is : rest ≡ whole
  pub enough : left ≤ spare
  pub paid : old + left ≤ spare + all

-- bytes from an address on that are free
abbrev pub AreFree : (ℕ → Lock) → ℕ → ℕ → Type 0
AreFree lock addr n = (k : ℕ) → k < n → lock (addr + k) ≡ Free

-- bytes are still to be changed, from an address on: they are free, and end below 2^32
pub record IsChanging (whole : ℕ → Lock) (old all : ℕ) (lock : ℕ → Lock) (spare next : ℕ) (left : List ℕ) : Type 0 where
  pub part : IsLeft whole (changed_from next left lock) old all spare (length left)
  pub free : AreFree lock next (length left)
  pub low : next + length left < 2 ^ 32

-- a byte keeps its lock where another one's is set
pub other_lock : (lock : ℕ → Lock) (addr a : ℕ) (k : Lock) → (a ≡ addr → ⊥) → with_lock lock addr k a ≡ lock a
other_lock lock addr a k n = cond-false (eqb a addr) k (lock a) (ne_eqb a addr n)

-- the bytes that are left are still to be changed once the next one is
pub changing_next : (whole : ℕ → Lock) (old all : ℕ) (lock lock' : ℕ → Lock) (spare spare' next : ℕ) (left after : List ℕ) (v : ℕ)
    → left ≡ v ∷ after → IsChanging whole old all lock spare next left
    → ((a : ℕ) → lock' a ≡ with_lock lock next (Changed v) a) → spare ≤ spare' + 1
    → IsChanging whole old all lock' spare' (next + 1) after
changing_next whole old all lock lock' spare spare' next left after v e h new paid =
    let k : IsChanging whole old all lock spare next (v ∷ after) = subst (λ (xs : List ℕ). IsChanging whole old all lock spare next xs) e h
    in
    let same : lock' ≡ with_lock lock next (Changed v) = fun_ext new in
    let s = k.part.enough in
    let p = k.part.paid in
    let low = k.low in
    let free = k.free in
    record {
      part = record {
        is = ap (changed_from (next + 1) after) same ∙ k.part.is;
        enough = omega (arith, s, paid);
        paid = omega (arith, p, paid);
      };
      free = λ i l.
          let at : next + 1 + i ≡ next + suc i = omega arith in
          new (next + 1 + i) ∙ other_lock lock next (next + 1 + i) (Changed v) (λ q. absurd (omega (arith, q)))
          ∙ ap lock at ∙ free (suc i) (omega arith);
      low = omega (arith, low);
    }

-- bytes are still to be punned, from an address on: they end below 2^32
pub record IsPunning (whole : ℕ → Lock) (old all : ℕ) (lock : ℕ → Lock) (spare next : ℕ) (left : List ℕ) : Type 0 where
  pub part : IsLeft whole (punned_from next left lock) old all spare (length left)
  pub low : next + length left < 2 ^ 32

-- the bytes that are left are still to be punned once the next one is
pub punning_next : (whole : ℕ → Lock) (old all : ℕ) (lock lock' : ℕ → Lock) (spare spare' next : ℕ) (left after : List ℕ) (v : ℕ)
    → left ≡ v ∷ after → IsPunning whole old all lock spare next left
    → ((a : ℕ) → lock' a ≡ with_lock lock next (punned (lock next)) a) → spare ≤ spare' + 1
    → IsPunning whole old all lock' spare' (next + 1) after
punning_next whole old all lock lock' spare spare' next left after v e h new paid =
    let k : IsPunning whole old all lock spare next (v ∷ after) = subst (λ (xs : List ℕ). IsPunning whole old all lock spare next xs) e h in
    let same : lock' ≡ with_lock lock next (punned (lock next)) = fun_ext new in
    let s = k.part.enough in
    let p = k.part.paid in
    let low = k.low in
    record {
      part = record {
        is = ap (punned_from (next + 1) after) same ∙ k.part.is;
        enough = omega (arith, s, paid);
        paid = omega (arith, p, paid);
      };
      low = omega (arith, low);
    }

-- bytes beside those that become Changed keep their locks
pub changed_other : (addr : ℕ) (vs : List ℕ) (lock : ℕ → Lock) (a : ℕ) → (a < addr) ⊎ (addr + length vs ≤ a)
    → changed_from addr vs lock a ≡ lock a
changed_other addr [] lock a h = refl
changed_other addr (v ∷ vs) lock a h =
    changed_other (addr + 1) vs (with_lock lock addr (Changed v)) a (beside h)
    ∙ other_lock lock addr a (Changed v) (λ e. away e h)
  where
    beside : (a < addr) ⊎ (addr + length (v ∷ vs) ≤ a) → (a < addr + 1) ⊎ (addr + 1 + length vs ≤ a)
    beside (inl l) = inl (omega (arith, l))
    beside (inr l) = inr (omega (arith, l))

    away : a ≡ addr → (a < addr) ⊎ (addr + length (v ∷ vs) ≤ a) → ⊥
    away e (inl l) = absurd (omega (arith, e, l))
    away e (inr l) = absurd (omega (arith, e, l))

-- an address in runs that begin above a bound is above it
in_above : (rs : List Run) (bound a : ℕ) → AllByRecursion (λ (r : Run). bound < r.addr) rs → is_in_runs rs a ≡ true → bound < a
in_above [] bound a h e = absurd (let q : false ≡ true = e in cc)
in_above (r ∷ rs) bound a h e = elim (or_cases (is_within r.addr r.size a) (is_in_runs rs a) e) [
  | inl i ↦ (let k = within_parts r.addr r.size a i in let b : bound < r.addr = h.0 in omega (arith, b, k.0))
  | inr i ↦ in_above rs bound a h.1 i
]

-- an address of the first of runs
in_first : (r : Run) (rs : List Run) (k : ℕ) → k < r.size → is_in_runs (r ∷ rs) (r.addr + k) ≡ true
in_first r rs k l = or_left (is_within r.addr r.size (r.addr + k)) (is_in_runs rs (r.addr + k)) (within_true r.addr r.size (r.addr + k)
    (omega arith) (omega arith))

-- what is left of changing runs
pub record IsChangingRuns (whole : ℕ → Lock) (old all : ℕ) (lock : ℕ → Lock) (spare : ℕ) (left : List Write) : Type 0 where
  pub part : IsLeft whole (runs_changed left lock) old all spare (16 * length left)
  pub ascend : Ascend (map write_run left)
  pub free : (a : ℕ) → is_in_runs (map write_run left) a ≡ true → lock a ≡ Free
  pub low : (a : ℕ) → is_in_runs (map write_run left) a ≡ true → a < 2 ^ 31

-- the first of runs can be changed
pub record CanChange (lock : ℕ → Lock) (spare : ℕ) (w : Write) : Type 0 where
  pub free : AreFree lock w.addr (length w.now)
  pub low : w.addr + length w.now < 2 ^ 32
  pub enough : length w.now ≤ spare

-- of the runs that are still to be changed the first can be
pub can_change : (whole : ℕ → Lock) (old all : ℕ) (lock : ℕ → Lock) (spare : ℕ) (left after : List Write) (w : Write)
    → left ≡ w ∷ after → IsChangingRuns whole old all lock spare left → CanChange lock spare w
can_change whole old all lock spare left after w e h =
    let k : IsChangingRuns whole old all lock spare (w ∷ after) = subst (λ (xs : List Write). IsChangingRuns whole old all lock spare xs) e
    h in
    let s = k.part.enough in
    let equal = w.equal in
    let some = w.some in
    let fits = w.fits in
    let last = k.low (w.addr + (length w.was - 1)) (in_first (write_run w) (map write_run after) (length w.was - 1) (omega (
      arith,
      equal,
      some,
    ))) in
    record {
      free = λ i l. k.free (w.addr + i) (in_first (write_run w) (map write_run after) i (omega (arith, equal, l)));
      low = omega (arith, last, equal, some);
      enough = omega (arith, s, fits);
    }

-- the runs that are left are still to be changed once the first one is
pub changing_runs_next : (whole : ℕ → Lock) (old all : ℕ) (lock lock' : ℕ → Lock) (spare spare' : ℕ) (left after : List Write) (w : Write)
    → left ≡ w ∷ after → IsChangingRuns whole old all lock spare left
    → lock' ≡ changed_from w.addr w.now lock → spare ≤ spare' + length w.now
    → IsChangingRuns whole old all lock' spare' after
changing_runs_next whole old all lock lock' spare spare' left after w e h new paid =
    let k : IsChangingRuns whole old all lock spare (w ∷ after) = subst (λ (xs : List Write). IsChangingRuns whole old all lock spare xs) e
    h in
    let s = k.part.enough in
    let p = k.part.paid in
    let equal = w.equal in
    let fits = w.fits in
    record {
      part = record {
        is = ap (runs_changed after) new ∙ k.part.is;
        enough = omega (arith, s, paid, fits);
        paid = omega (arith, p, paid, fits);
      };
      ascend = k.ascend.2;
      free = λ a i.
          let above = in_above (map write_run after) (w.addr + length w.was) a k.ascend.1 i in
          ap (λ (f : ℕ → Lock). f a) new ∙ changed_other w.addr w.now lock a (inr (omega (arith, above, equal)))
          ∙ k.free a (or_right (is_within w.addr (length w.was) a) (is_in_runs (map write_run after) a) i);
      low = λ a i. k.low a (or_right (is_within w.addr (length w.was) a) (is_in_runs (map write_run after) a) i);
    }

-- what is left of punning runs
pub record IsPunningRuns (whole : ℕ → Lock) (old all : ℕ) (lock : ℕ → Lock) (spare : ℕ) (left : List Pun) : Type 0 where
  pub part : IsLeft whole (runs_punned left lock) old all spare (16 * length left)
  pub ascend : Ascend (map pun_run left)
  pub low : (a : ℕ) → is_in_runs (map pun_run left) a ≡ true → a < 2 ^ 31

-- the first of runs can be punned
pub record CanPun (spare : ℕ) (p : Pun) : Type 0 where
  pub low : p.addr + length p.bytes < 2 ^ 32
  pub enough : length p.bytes ≤ spare

-- of the runs that are still to be punned the first can be, where it has 16 bytes at most
pub can_pun : (whole : ℕ → Lock) (old all : ℕ) (lock : ℕ → Lock) (spare : ℕ) (left after : List Pun) (p : Pun)
    → left ≡ p ∷ after → length p.bytes ≤ 16 → IsPunningRuns whole old all lock spare left → CanPun spare p
can_pun whole old all lock spare left after p e fits h =
    let k : IsPunningRuns whole old all lock spare (p ∷ after) = subst (λ (xs : List Pun). IsPunningRuns whole old all lock spare xs) e h in
    let s = k.part.enough in
    let some : 0 < length p.bytes = k.ascend.0 in
    let last = k.low (p.addr + (length p.bytes - 1)) (in_first (pun_run p) (map pun_run after) (length p.bytes - 1) (omega (arith, some)))
    in
    record { low = omega (arith, last, some); enough = omega (arith, s, fits) }

-- the runs that are left are still to be punned once the first one is
pub punning_runs_next : (whole : ℕ → Lock) (old all : ℕ) (lock lock' : ℕ → Lock) (spare spare' : ℕ) (left after : List Pun) (p : Pun)
    → left ≡ p ∷ after → length p.bytes ≤ 16 → IsPunningRuns whole old all lock spare left
    → lock' ≡ punned_from p.addr p.bytes lock → spare ≤ spare' + length p.bytes
    → IsPunningRuns whole old all lock' spare' after
punning_runs_next whole old all lock lock' spare spare' left after p e fits h new paid =
    let k : IsPunningRuns whole old all lock spare (p ∷ after) = subst (λ (xs : List Pun). IsPunningRuns whole old all lock spare xs) e h in
    let s = k.part.enough in
    let q = k.part.paid in
    record {
      part = record {
        is = ap (runs_punned after) new ∙ k.part.is;
        enough = omega (arith, s, paid, fits);
        paid = omega (arith, q, paid, fits);
      };
      ascend = k.ascend.2;
      low = λ a i. k.low a (or_right (is_within p.addr (length p.bytes) a) (is_in_runs (map pun_run after) a) i);
    }
