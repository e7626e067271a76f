-- Bytes that a delivery may write, and that it fits where they all are such.
use Rattle.std.proofs.Common.{◌≡◌, inl, inr, ℕ, zero, suc, ◌+◌, ◌-◌, ◌%◌, ◌^◌, ◌<◌, Bool, true, false, not, cond, List, [], ◌∷◌, ◌++◌, length, get_or, drop, Option, Some, None, refl, ap, sym, ◌∙◌, arith, true≢false}
use Rattle.std.specs.Prelude.{is_some}
use Rattle.std.proofs.lemmas.Bool.{and_from, and_parts, cases_Bool, cond-false, cond-true}
use Rattle.pun_base.specs.Memory.{Bytes}
use Rattle.cpu_state.specs.declared.world.MemWrite.{MemWrite}
use Rattle.cpu_state.specs.Bytes.{advanced, allows, avoids, lacking}
use Rattle.cpu_state.specs.Processor.{IsProcessorCore}
use Rattle.insn_form.specs.Machine.{Machine, avoids_writes}
use Rattle.insn_form.specs.Plan.{lacking_writes, or_first}
use Rattle.start_entries.specs.declared.entry.StartEntry.{StartEntry}
use Rattle.image_runs.specs.declared.delivery.Delivery.{Delivery}
use Rattle.image_runs.specs.Deliveries.{}
use Rattle.image_step.specs.Fitting.{FitsWhereOpen, IsUnfit, addresses_from, first_refused, is_open, unfit_at, written}
use Rattle.image_runs.specs.Listed.{is_listed_byte, is_start}
use Rattle.image_step.proofs.Entries.{left_from}

-- The first of two lists is the first one's, or else the second one's.
pub first_append : (t : ℕ → Bool) (xs ys : List ℕ) → first_refused t (xs ++ ys) ≡ or_first (first_refused t xs) (first_refused t ys)
first_append t [] ys = refl
first_append t (x ∷ xs) ys = elim (cases_Bool (t x)) [
  | inl e ↦ rw e (first_append t xs ys)
  | inr e ↦ rw e refl
]

-- The first among the bytes of a write and those behind it.
at_write : (t : ℕ → Bool) (ws : List MemWrite) (i : ℕ) (w : MemWrite) (o whole : Option ℕ) → i < length ws → w ≡ get_or ws i w
    → o ≡ first_refused t (addresses_from w.addr (length w.bytes)) → first_refused t (written (drop i ws)) ≡ whole
    → or_first o (first_refused t (written (drop (i + 1) ws))) ≡ whole
at_write t ws i w o whole l e h k =
    let rest = first_refused t (written (drop (i + 1) ws)) in
    ap (λ (z : Option ℕ). or_first z rest) h ∙ (sym (first_append t (addresses_from w.addr (length w.bytes)) (written (drop (i + 1) ws)))
    ∙ (ap (λ (z : List MemWrite). first_refused t (written z)) (sym (left_from ws i w l e)) ∙ k))

pub write_passed : (t : ℕ → Bool) (ws : List MemWrite) (i : ℕ) (w : MemWrite) (o whole : Option ℕ) → i < length ws → w ≡ get_or ws i w
    → o ≡ first_refused t (addresses_from w.addr (length w.bytes)) → is_some o ≡ false → first_refused t (written (drop i ws)) ≡ whole
    → first_refused t (written (drop (i + 1) ws)) ≡ whole
write_passed t ws i w None whole l e h n k = at_write t ws i w None whole l e h k
write_passed t ws i w (Some a) whole l e h n k = absurd (true≢false n)

pub write_met : (t : ℕ → Bool) (ws : List MemWrite) (i : ℕ) (w : MemWrite) (o whole : Option ℕ) → i < length ws → w ≡ get_or ws i w
    → o ≡ first_refused t (addresses_from w.addr (length w.bytes)) → is_some o ≡ true → first_refused t (written (drop i ws)) ≡ whole → o ≡ whole
write_met t ws i w None whole l e h n k = absurd (true≢false (sym n))
write_met t ws i w (Some a) whole l e h n k = at_write t ws i w (Some a) whole l e h k

-- Where a test takes the address, the first one is among those behind it.
pub first_more : (t : ℕ → Bool) (at n k : ℕ) (whole : Option ℕ) → k < n → t at ≡ true → first_refused t (addresses_from at (n - k)) ≡ whole
    → first_refused t (addresses_from ((at + 1) % 2 ^ 64) (n - (k + 1))) ≡ whole
first_more t at n k whole h e a =
    let m : n - k ≡ suc (n - (k + 1)) = omega arith in
    let rest = first_refused t (addresses_from ((at + 1) % 2 ^ 64) (n - (k + 1))) in
    let one : first_refused t (addresses_from at (suc (n - (k + 1)))) ≡ rest = cond-true (t at) rest (Some at) e in
    sym one ∙ (ap (λ (j : ℕ). first_refused t (addresses_from at j)) (sym m) ∙ a)

-- Where it refuses it, it is the first.
pub first_here : (t : ℕ → Bool) (at n k : ℕ) (whole : Option ℕ) → k < n → t at ≡ false → first_refused t (addresses_from at (n - k)) ≡ whole → Some at ≡ whole
first_here t at n k whole h e a =
    let m : n - k ≡ suc (n - (k + 1)) = omega arith in
    let rest = first_refused t (addresses_from ((at + 1) % 2 ^ 64) (n - (k + 1))) in
    let one : first_refused t (addresses_from at (suc (n - (k + 1)))) ≡ Some at = cond-false (t at) rest (Some at) e in
    sym one ∙ (ap (λ (j : ℕ). first_refused t (addresses_from at j)) (sym m) ∙ a)

-- ---- a delivery fits exactly where none is refused

or_none : (a b : Option ℕ) → or_first a b ≡ None → (a ≡ None) × (b ≡ None)
or_none None b h = (refl, h)
or_none (Some x) b h = absurd cc

none_or : (a b : Option ℕ) → a ≡ None → b ≡ None → or_first a b ≡ None
none_or None b h k = k
none_or (Some x) b h k = absurd cc

none_first : (b : Bool) (o : Option ℕ) (a : ℕ) → cond b o (Some a) ≡ None → (b ≡ true) × (o ≡ None)
none_first true o a h = (refl, h)
none_first false o a h = absurd cc

module _ (listed : List StartEntry) (m : Bytes) where
  open_run : (a n : ℕ) → lacking 2 m a n ≡ None → avoids (is_listed_byte listed) a n ≡ true → first_refused (is_open listed m) (addresses_from a n) ≡ None
  open_run a zero h k = refl
  open_run a (suc n) h k =
      let l = none_first (allows 2 (m a)) (lacking 2 m (advanced a 1) n) a h in
      let p = and_parts (not (is_listed_byte listed a)) (avoids (is_listed_byte listed) (advanced a 1) n) k in
      let here : is_open listed m a ≡ true = and_from (allows 2 (m a)) (not (is_listed_byte listed a)) l.0 p.0 in
      cond-true (is_open listed m a) (first_refused (is_open listed m) (addresses_from (advanced a 1) n)) (Some a) here ∙ open_run (advanced a 1) n l.1 p.1

  run_open : (a n : ℕ) → first_refused (is_open listed m) (addresses_from a n) ≡ None → (lacking 2 m a n ≡ None) × (avoids (is_listed_byte listed) a n ≡ true)
  run_open a zero h = (refl, refl)
  run_open a (suc n) h =
      let f = none_first (is_open listed m a) (first_refused (is_open listed m) (addresses_from (advanced a 1) n)) a h in
      let p = and_parts (allows 2 (m a)) (not (is_listed_byte listed a)) f.0 in
      let r = run_open (advanced a 1) n f.1 in
      (cond-true (allows 2 (m a)) (lacking 2 m (advanced a 1) n) (Some a) p.0 ∙ r.0, and_from (not (is_listed_byte listed a)) (avoids (is_listed_byte listed) (advanced a 1) n) p.1 r.1)

  open_writes : (ws : List MemWrite) → lacking_writes m ws ≡ None → avoids_writes (is_listed_byte listed) ws ≡ true
      → first_refused (is_open listed m) (written ws) ≡ None
  open_writes [] h k = refl
  open_writes (w ∷ ws) h k =
      let l = or_none (lacking 2 m w.addr (length w.bytes)) (lacking_writes m ws) h in
      let p = and_parts (avoids (is_listed_byte listed) w.addr (length w.bytes)) (avoids_writes (is_listed_byte listed) ws) k in
      first_append (is_open listed m) (addresses_from w.addr (length w.bytes)) (written ws)
      ∙ none_or (first_refused (is_open listed m) (addresses_from w.addr (length w.bytes))) (first_refused (is_open listed m) (written ws))
      (open_run w.addr (length w.bytes) l.0 p.0) (open_writes ws l.1 p.1)

  writes_open : (ws : List MemWrite) → first_refused (is_open listed m) (written ws) ≡ None
      → (lacking_writes m ws ≡ None) × (avoids_writes (is_listed_byte listed) ws ≡ true)
  writes_open [] h = (refl, refl)
  writes_open (w ∷ ws) h =
      let parts = or_none (first_refused (is_open listed m) (addresses_from w.addr (length w.bytes))) (first_refused (is_open listed m) (written ws))
      (sym (first_append (is_open listed m) (addresses_from w.addr (length w.bytes)) (written ws)) ∙ h) in
      let here = run_open w.addr (length w.bytes) parts.0 in
      let rest = writes_open ws parts.1 in (
        none_or (lacking 2 m w.addr (length w.bytes)) (lacking_writes m ws) here.0 rest.0,
        and_from (avoids (is_listed_byte listed) w.addr (length w.bytes)) (avoids_writes (is_listed_byte listed) ws) here.1 rest.1,
      )

-- A delivery of a processor's registers fits exactly where no address is refused.
pub fits_where_open : FitsWhereOpen
fits_where_open listed s d core = (
  λ f. none_or (first_refused (is_start listed) (s.rip ∷ d.rip ∷ [])) (first_refused (is_open listed s.mem) (written d.writes))
      (cond-true (is_start listed s.rip) (first_refused (is_start listed) (d.rip ∷ [])) (Some s.rip) f.here
      ∙ cond-true (is_start listed d.rip) None (Some d.rip) f.there) (open_writes listed s.mem d.writes f.held f.apart),
  λ e. let parts = or_none (first_refused (is_start listed) (s.rip ∷ d.rip ∷ [])) (first_refused (is_open listed s.mem) (written d.writes)) e in
      let one = none_first (is_start listed s.rip) (first_refused (is_start listed) (d.rip ∷ [])) s.rip parts.0 in
      let two = none_first (is_start listed d.rip) None d.rip one.1 in
      let bytes = writes_open listed s.mem d.writes parts.1 in
      record { here = one.0; there = two.0; core = core; held = bytes.0; apart = bytes.1 },
)

-- Where one is, it doesn't fit.
pub unfit : (listed : List StartEntry) (s : Machine) (d : Delivery) (addr : ℕ) → IsProcessorCore d.core → unfit_at listed s d ≡ Some addr → IsUnfit listed s d addr
unfit listed s d addr core e =
    record {
      first = e;
      none = λ f. absurd (let n : Some addr ≡ None = sym e ∙ (fits_where_open listed s d core).0 f in cc);
    }
