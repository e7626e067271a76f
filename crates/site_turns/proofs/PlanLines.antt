-- The lines of a plan in a report, and how many there are.
use Rattle.std.proofs.Common.{◌≡◌, ℕ, zero, suc, ◌+◌, ◌-◌, ◌^◌, ◌<◌, ◌≤◌, Bool, true, eqb, leb, List, [], ◌∷◌, map, length, Some, refl, sym, ap, ◌∙◌, subst, arith}
use Rattle.std.specs.List.{AllByRecursion, list_any}
use Rattle.std.proofs.lemmas.Bool.{and_from, eq-eqb, le-leb, lt-ltb, false≢true}
use Rattle.hex.specs.Hex.{IsBytes}
use Rattle.pun_base.specs.Memory.{Bytes}
use Rattle.pun_base.specs.Ranges.{is_within}
use Rattle.pun_base.specs.declared.outcome.Plan.{Plan}
use Rattle.pun_base.specs.declared.plan.Write.{Write}
use Rattle.pun_base.specs.declared.pun.Pun.{Pun}
use Rattle.pun_base.specs.declared.scheme.Scheme.{Scheme}
use Rattle.pun_base.specs.declared.tramp.Tramp.{Tramp}
use Rattle.cpu_state.specs.Bytes.{byte_of}
use Rattle.cpu_state.specs.Fixed.{IsFixed}
use Rattle.elf_emit.proofs.WrittenTable.{all_mapped}
use Rattle.patch_report.specs.Values.{PlanValue, WriteValue, plan_value, write_value}
use Rattle.patch_report.specs.Grammar.{IsLine, high_end, is_field, tramp_count}
use Rattle.patch_report.specs.Spelling.{plan_lines}
use Rattle.patch_report.proofs.ListPlaces.{In, found, all_in, all_from, in_map, any_at}
use Rattle.start_entries.specs.declared.entry.StartEntry.{StartEntry}
use Rattle.start_entries.specs.Finding.{entry_at}
use Rattle.start_entries.specs.Standing.{AreEntries}
use Rattle.start_list.specs.TurnViews.{TurnView, cell_by, memory_now}
use Rattle.start_list.specs.PlanJumps.{Jump, written, is_written, is_spanned, is_punned, cell_with, after_writes}
use Rattle.start_list.specs.Forms.{Candidate, B1, B2, T1, T2, T3, Trampoline, scheme_of, jumps_of, trampolines_of}
use Rattle.start_list.specs.Admissible.{IsAdmissible}
use Rattle.start_list.specs.Plans.{Run, Ascend, IsPlanOf, bytes_from, write_run, pun_run, tramp_of, TellsWrite, TellsPun}
use Rattle.scheme_search.proofs.OneJumpBytes.{within_parts, within_true}
use Rattle.sound_images.proofs.SoundFacts.{none_unless}
use Rattle.site_turns.proofs.PlanForms.{Ground, ground}
use Rattle.site_turns.proofs.LeadingPlans.{placed_at, writes_on}
use Rattle.site_turns.proofs.PlansWithOneJump.{entry_listed}
use Rattle.site_turns.proofs.JumpBytes.{jumps_small, fixed_byte, written_spanned, punned_parts, window}
use Rattle.site_turns.proofs.WorkLengths.{size_least}

-- bytes that stand one after the other
from_small : (m : Bytes) (a n : ℕ) → ((k : ℕ) → k < n → byte_of (m (a + k)) < 256) → IsBytes (bytes_from m a n)
from_small m a zero h k = omega arith
from_small m a (suc n) h zero = let z : a + 0 ≡ a = omega arith in subst (λ (x : ℕ). byte_of (m x) < 256) z (h 0 (omega arith))
from_small m a (suc n) h (suc k) = from_small m (a + 1) n (λ i l. let e : a + suc i ≡ a + 1 + i = omega arith in
    subst (λ (x : ℕ). byte_of (m x) < 256) e (h (suc i) (omega arith))) k

-- runs have bytes
ascend_some : (rs : List Run) → Ascend rs → AllByRecursion (λ (r : Run). 0 < r.size) rs
ascend_some [] h = tt
ascend_some (r ∷ rs) h = (h.0, ascend_some rs h.2)

-- a scheme has so many trampolines
tramps_are : (site : StartEntry) (c : Candidate) → length (map tramp_of (trampolines_of site c)) ≡ tramp_count (scheme_of c)
tramps_are site (B1 t) = refl
tramps_are site (B2 t) = refl
tramps_are site (T1 p t) = refl
tramps_are site (T2 e p q pad x t u) = refl
tramps_are site (T3 e i x t u) = refl

-- the first trampoline is the site's
first_site : (site : StartEntry) (c : Candidate) → (u : Trampoline) × In (trampolines_of site c) u × (u.entry ≡ site)
first_site site (B1 t) = (_, (0, refl), refl)
first_site site (B2 t) = (_, (0, refl), refl)
first_site site (T1 p t) = (_, (0, refl), refl)
first_site site (T2 e p q pad x t u) = (_, (0, refl), refl)
first_site site (T3 e i x t u) = (_, (0, refl), refl)

-- the lines of a plan with one trampoline, one run of written bytes, one of punned ones
abbrev plan_with : Scheme → List Tramp → List WriteValue → List Pun → PlanValue
plan_with s ts ws ps = record { scheme = s; tramps = ts; writes = ws; puns = ps }

abbrev IsTrampLine : Scheme → Tramp → Type 0
IsTrampLine s u = AllByRecursion IsLine (plan_lines (plan_with s (u ∷ []) [] []))

abbrev IsWriteLine : Scheme → WriteValue → Type 0
IsWriteLine s w = AllByRecursion IsLine (plan_lines (plan_with s [] (w ∷ []) []))

abbrev IsPunLine : Scheme → Pun → Type 0
IsPunLine s p = AllByRecursion IsLine (plan_lines (plan_with s [] [] (p ∷ [])))

-- where the lines of each trampoline, write and pun are lines of a report, all lines of a plan are
all_lines : (s : Scheme) (ts : List Tramp) (ws : List WriteValue) (ps : List Pun) → AllByRecursion (IsTrampLine s) ts
    → AllByRecursion (IsWriteLine s) ws → AllByRecursion (IsPunLine s) ps → AllByRecursion IsLine (plan_lines (plan_with s ts ws ps))
all_lines s [] [] [] t w p = tt
all_lines s [] [] (x ∷ ps) t w p = (p.0.0, all_lines s [] [] ps t w p.1)
all_lines s [] (x ∷ ws) ps t w p = (w.0.0, all_lines s [] ws ps t w.1 p)
all_lines s (x ∷ ts) ws ps t w p = (t.0.0, all_lines s ts ws ps t.1 w p)

-- a list in which one passes has one
some_in : (ws : List Write) (p : Run → Bool) → list_any p (map write_run ws) ≡ true → 1 ≤ length (map write_value ws)
some_in [] p h = absurd (false≢true h)
some_in (w ∷ ws) p h = omega arith

module _ (v : TurnView) (site : StartEntry) (c : Candidate) (plan : Plan) (A : AreEntries v.image v.entries)
    (E : entry_at v.entries site.addr ≡ Some site) (B : (x : ℕ) → byte_of (v.image x) < 256) (a : IsAdmissible v site c)
    (o : IsPlanOf v site c plan) where
  abbrev js : List Jump
  js = jumps_of site c

  abbrev trs : List Trampoline
  trs = trampolines_of site c

  abbrev before : Bytes
  before = memory_now v

  abbrev after : Bytes
  after = after_writes (memory_now v) (jumps_of site c)

  -- the facts on which its fit stands
  q : Ground v.entries 0 (jumps_of site c) (trampolines_of site c)
  q = ground v site 0 A E a.site_may c a.allowed.form

  -- what a jump spans is a byte after the writes
  spanned_small : (x : ℕ) → is_spanned js x ≡ true → byte_of (after x) < 256
  spanned_small x h =
      let f = found (λ (j : Jump). is_within j.at (length j.bytes) x) js h in
      let j = f.is in
      let i : In js j = (f.place, f.at) in
      let w = within_parts j.at (length j.bytes) x f.passes in
      let low : j.at + length j.bytes < 2 ^ 64 = all_in (λ (j : Jump). j.at + length j.bytes < 2 ^ 64) js j q.low i in
      let fix = all_in (λ (j : Jump). IsFixed after j.at j.bytes) js j a.allowed.stands i in
      let k : j.at + (x - j.at) ≡ x = omega (arith, w.0) in
      let b = fixed_byte after j.at j.bytes (x - j.at) low fix (omega (arith, w.0, w.1)) in
      let s = all_in (λ (j : Jump). IsBytes j.bytes) js j (jumps_small v site c a.allowed.form) i (x - j.at) in
      subst (λ (z : ℕ). byte_of (after z) < 256) k (subst (λ (z : ℕ). z < 256) (sym b) s)

  -- what is written was a byte of the original
  was_small : (x : ℕ) → is_written js x ≡ true → byte_of (before x) < 256
  was_small x h = subst (λ z. byte_of (cell_by z (v.image x)) < 256) (sym (a.allowed.free x h)) (B x)

  -- what is punned is a jump's byte
  punned_small : (x : ℕ) → is_punned js x ≡ true → byte_of (before x) < 256
  punned_small x h =
      let p = punned_parts js x h in
      subst (λ z. byte_of (cell_with z (before x)) < 256) (none_unless (written js x) p.1) (spanned_small x p.0)

  -- a written run is written
  run_written : (w : Write) → In plan.writes w → (k : ℕ) → k < length w.was → is_written js (w.addr + k) ≡ true
  run_written w i k l =
      let x = w.addr + k in
      let m = in_map write_run plan.writes w i in
      sym (o.written.told x)
      ∙ any_at (λ (r : Run). is_within r.addr r.size x) (map write_run plan.writes) m.0 (write_run w) m.1
      (within_true w.addr (length w.was) x (omega arith) (omega (arith, l)))

  -- a punned run is punned
  run_punned : (p : Pun) → In plan.puns p → (k : ℕ) → k < length p.bytes → is_punned js (p.addr + k) ≡ true
  run_punned p i k l =
      let x = p.addr + k in
      let m = in_map pun_run plan.puns p i in
      sym (o.punned.told x)
      ∙ any_at (λ (r : Run). is_within r.addr r.size x) (map pun_run plan.puns) m.0 (pun_run p) m.1
      (within_true p.addr (length p.bytes) x (omega arith) (omega (arith, l)))

  -- written bytes lie low
  written_low : (x : ℕ) → is_written js x ≡ true → x < 0x7FFF0000
  written_low x h =
      let k = writes_on trs js x q.on h in
      let e = all_in (λ (u : Trampoline). entry_at v.entries u.entry.addr ≡ Some u.entry) trs k.tramp q.entries k.listed in
      let l = (A.each k.tramp.entry (entry_listed v.entries k.tramp.entry.addr k.tramp.entry e)).low in
      let high = k.high in
      omega (arith, l, high)

  -- a line of written bytes
  write_good : (w : Write) → In plan.writes w → IsWriteLine plan.scheme (write_value w)
  write_good w i =
      let t = all_in (TellsWrite before after) plan.writes w o.writes i in
      let n = length w.was in
      let equal = w.equal in
      let some = w.some in
      let most = w.fits in
      let first : is_written js w.addr ≡ true =
      (let z : w.addr + 0 ≡ w.addr = omega arith in subst (λ (x : ℕ). is_written js x ≡ true) z
      (run_written w i 0 (omega (arith, equal, some)))) in
      let low = written_low w.addr first in (
        record {
          holds = and_from (is_field n) (eqb (length w.now) n)
              (and_from (leb 1 n) (leb n 16) (le-leb 1 n (omega (arith, equal, some))) (le-leb n 16 (omega (arith, equal, most))))
              (eq-eqb (length w.now) n (sym equal));
          fits = (
            omega (arith, low),
            subst IsBytes (sym t.0) (from_small before w.addr n (λ k l. was_small (w.addr + k) (run_written w i k l))),
            subst IsBytes (sym t.1) (from_small after w.addr n
                (λ k l. spanned_small (w.addr + k) (written_spanned js (w.addr + k) (run_written w i k l)))),
          );
        },
        tt,
      )

  -- a line of punned bytes
  pun_good : (p : Pun) → In plan.puns p → IsPunLine plan.scheme p
  pun_good p i =
      let t = all_in (TellsPun before) plan.puns p o.puns i in
      let n = length p.bytes in
      let m = in_map pun_run plan.puns p i in
      let some : 0 < n = all_in (λ (r : Run). 0 < r.size) (map pun_run plan.puns) (pun_run p)
      (ascend_some (map pun_run plan.puns) o.punned.ascend) m in
      let w = window v site c A E a.allowed.form in
      let first = w.within (p.addr + 0) (run_punned p i 0 some) in
      let last = w.within (p.addr + (n - 1)) (run_punned p i (n - 1) (omega (arith, some))) in
      let low = w.low in (
        record {
          holds = and_from (leb 1 n) (leb n 16) (le-leb 1 n (omega (arith, some))) (le-leb n 16 (omega (arith, first.0, last.1, some)));
          fits = (
            omega (arith, first.1, low),
            subst IsBytes (sym t) (from_small before p.addr n (λ k l. punned_small (p.addr + k) (run_punned p i k l))),
          );
        },
        tt,
      )

  -- a line of a trampoline
  tramp_good : (u : Trampoline) → In trs u → IsTrampLine plan.scheme (tramp_of u)
  tramp_good u i =
      let p = placed_at v trs u a.placed i in
      let e = all_in (λ (u : Trampoline). entry_at v.entries u.entry.addr ≡ Some u.entry) trs u q.entries i in
      let is = A.each u.entry (entry_listed v.entries u.entry.addr u.entry e) in
      let n = size_least v u p.0 p.1 is.some in
      let below = p.2.below in
      let low = is.low in (
        record {
          holds = lt-ltb u.place high_end (omega (arith, n, below));
          fits = (omega (arith, n, below), omega (arith, low));
        },
        tt,
      )

  -- the lines of a plan are a report's
  pub lines_good : AllByRecursion IsLine (plan_lines (plan_value plan))
  lines_good = all_lines plan.scheme plan.tramps (map write_value plan.writes) plan.puns
      (subst (AllByRecursion (IsTrampLine plan.scheme)) (sym o.tramps)
      (all_mapped (IsTrampLine plan.scheme) tramp_of trs (all_from (λ u. IsTrampLine plan.scheme (tramp_of u)) trs tramp_good)))
      (all_mapped (IsWriteLine plan.scheme) write_value plan.writes
      (all_from (λ w. IsWriteLine plan.scheme (write_value w)) plan.writes write_good))
      (all_from (IsPunLine plan.scheme) plan.puns pun_good)

  -- a plan has as many trampolines as its scheme says
  pub tramps_counted : length plan.tramps ≡ tramp_count plan.scheme
  tramps_counted = ap length o.tramps ∙ tramps_are site c ∙ sym (ap tramp_count o.scheme)

  -- a plan writes a run at least
  pub writes_some : 1 ≤ length (map write_value plan.writes)
  writes_some =
      let u = first_site site c in
      let b : is_written js site.addr ≡ true = ap (λ (e : StartEntry). is_written js e.addr) (sym u.2)
      ∙ all_in (λ (u : Trampoline). is_written js u.entry.addr ≡ true) trs u.0 q.begun u.1 in
      some_in plan.writes (λ (r : Run). is_within r.addr r.size site.addr) (o.written.told site.addr ∙ b)
