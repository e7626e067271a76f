-- A plan whose jumps lead fits what was done.
use Rattle.std.proofs.Common.{◌≡◌, ◌⊎◌, inl, inr, ℕ, zero, suc, ◌+◌, ◌-◌, ◌^◌, ◌<◌, ◌≤◌, Bool, true, false, not, cond, ◌&&◌, ◌||◌, eqb, leb, ltb, min, List, [], ◌∷◌, map, length, slice_index, Option, Some, None, refl, sym, ap, ◌∙◌, subst, arith}
use Rattle.std.specs.Prelude.{unwrap_or, Contains}
use Rattle.std.specs.Option.{is_some, option_map, option_or}
use Rattle.std.specs.List.{All, AllByRecursion, list_any, count_by}
use Rattle.std.proofs.lemmas.Bool.{and_from, and_parts, cases_Bool, eq-eqb, le-leb, lt-ltb, leb-true, ltb-true, false_from_ne_true, false≢true}
use Rattle.std.proofs.lemmas.List.Sums.{count_by-le-length}
use Rattle.std.proofs.lemmas.List.Elements.{All-head, All-tail}
use Rattle.pun_base.specs.Memory.{Cell}
use Rattle.pun_base.specs.Ranges.{is_within}
use Rattle.pun_base.specs.declared.plan.Write.{Write}
use Rattle.cpu_state.specs.Bytes.{allows, byte_of}
use Rattle.cpu_state.specs.Fixed.{IsFixed}
use Rattle.insn_form.specs.declared.form.Insn.{Insn}
use Rattle.insn_form.specs.Displacing as displacing
use Rattle.byte_locks.specs.declared.lock.Lock.{Lock}
use Rattle.byte_locks.specs.declared.lock.Lock.TheVariants.{Free, Punned, Changed}
use Rattle.address_space.specs.declared.extent.Extent.{Extent}
use Rattle.address_space.specs.Free.{Misses}
use Rattle.elf_emit.proofs.WrittenTable.{all_mapped}
use Rattle.patch_report.specs.Values.{write_value}
use Rattle.patch_report.proofs.ListPlaces.{found, finds, contains_at, all_from, in_map, from_map, In, all_in, any_at, some_is}
use Rattle.start_entries.specs.declared.entry.StartEntry.{StartEntry}
use Rattle.start_entries.specs.Finding.{entry_at}
use Rattle.start_entries.specs.Standing.{AreEntries}
use Rattle.start_list.specs.TurnViews.{TurnView, cell_by, memory_now}
use Rattle.start_list.specs.PlanJumps.{Jump, written_by, written, is_written, is_spanned, is_punned, cell_with, after_writes}
use Rattle.start_list.specs.Forms.{Trampoline, work_by, work_length, MayBeSite}
use Rattle.start_list.specs.Admissible.{size_of, IsPlaced, AreApart, ArePlaced}
use Rattle.start_list.specs.Plans.{AreRuns, write_run, tramp_of, TellsWrite}
use Rattle.sound_images.specs.Reports.{Line, in_run}
use Rattle.sound_images.specs.Rules.{holds_byte, displaced_by, displaced_from, displaced_at}
use Rattle.sound_images.proofs.LoadedCode.{fixed_at}
use Rattle.scheme_search.proofs.ConsecutiveBytes.{length-bytes_from}
use Rattle.scheme_search.proofs.OneJumpBytes.{within_parts}
use Rattle.site_turns.specs.States.{Scene, State, view_at, relocked, lock_after, extent_for, is_in, is_taken}
use Rattle.site_turns.specs.Folded.{Done, done_by, is_locked, memory_in, starts_at, size_from, code_size, in_code, LeadBy, IsHeld, IsLed, Tells, IsOwned}
use Rattle.site_turns.specs.Adding.{Addition, done_after, IsRoom, Fits}
use Rattle.site_turns.proofs.JoinedLists.{one_of_both}
use Rattle.site_turns.proofs.KeptLocks.{kept_value, written_locked, punned_locked, within}
use Rattle.site_turns.proofs.PlanRuns.{any_one, same_runs, runs_apart, holds_own, run_in, tells_at, all_told}

-- a cell with what is written there is the cell by the lock that it then has
pub after_cell : (o : Option ℕ) (b : Bool) (k : Lock) (c : Option Cell) → cell_with o (cell_by k c) ≡ cell_by (relocked o b k) c
after_cell None b k c = sym (kept_value None b k c refl)
after_cell (Some v) b Free c = refl
after_cell (Some v) b Punned c = refl
after_cell (Some v) b (Changed w) None = refl
after_cell (Some v) b (Changed w) (Some c) = refl

-- locks leave permissions
pub same_perms : (k : Lock) (c : Option Cell) → allows 1 (cell_by k c) ≡ allows 1 c
same_perms Free c = refl
same_perms Punned c = refl
same_perms (Changed v) None = refl
same_perms (Changed v) (Some c) = refl

-- a byte that is spanned is written or punned, and so locked
pub spanned_locked : (o : Option ℕ) (s : Bool) (k : Lock) → s ≡ true → is_locked (relocked o (s && not (is_some o)) k) ≡ true
spanned_locked (Some v) s k e = refl
spanned_locked None true k e = punned_locked None k
spanned_locked None false k e = absurd (false≢true e)

-- an option that a map makes something was something
pub mapped_some : (f : ℕ → ℕ) (o : Option ℕ) → is_some (option_map f o) ≡ true → is_some o ≡ true
mapped_some f None e = e
mapped_some f (Some n) e = refl

-- an instruction with code that does its work can be displaced
pub work_displaced : (o : Option Insn) (len a : ℕ) → is_some (work_by o len a) ≡ true → is_some (displaced_by o len a) ≡ true
work_displaced None len a e = e
work_displaced (Some i) len a e =
    mapped_some (λ n. n + cond (displacing.falls i) 5 0) (displacing.displaced_len i len a) e

-- what is free isn't taken
pub free_untaken : (taken : List Extent) (t n x : ℕ) → All (Misses t n) taken → t ≤ x → x < t + n → is_taken taken x ≡ true → ⊥
free_untaken [] t n x h l u e = false≢true e
free_untaken (r ∷ rs) t n x h l u e = elim (cases_Bool (is_in r x)) [
  | inl i ↦ (let k = and_parts (leb r.lo x) (ltb x r.hi) i in
      let lo = leb-true r.lo x k.0 in let hi = ltb-true x r.hi k.1 in
      elim (All-head (Misses t n) r rs h) [
        | inl m ↦ omega (arith, m, lo)
        | inr m ↦ omega (arith, m, hi)
      ])
  | inr i ↦ free_untaken rs t n x (All-tail (Misses t n) r rs h) l u (sym (ap (λ b. b || is_taken rs x) i) ∙ e)
]

-- one option, or else another, is something only where one of both is
pub or_some : (o q : Option ℕ) → is_some (option_or o q) ≡ true → (is_some o ≡ true) ⊎ (is_some q ≡ true)
or_some None q h = inr h
or_some (Some v) q h = inl refl

-- one option, or else another, is something where the first is
pub some_or : (o q : Option ℕ) → is_some o ≡ true → is_some (option_or o q) ≡ true
some_or None q h = absurd (false≢true h)
some_or (Some v) q h = refl

-- one option, or else another, is something where the second is
pub or_other : (o q : Option ℕ) → is_some q ≡ true → is_some (option_or o q) ≡ true
or_other None q h = h
or_other (Some v) q h = refl

-- a value under a test is something exactly where the test passes
pub some_if : (b : Bool) (v : ℕ) → is_some (cond b (Some v) None) ≡ b
some_if true v = refl
some_if false v = refl

-- a jump writes its first byte
pub begins : (js : List Jump) (j : Jump) → In js j → 0 < j.room → 0 < length j.bytes → is_written js j.at ≡ true
begins [] j c r l = let e = c.1 in absurd cc
begins (i ∷ js) j (zero, e) r l =
    let k : i ≡ j = some_is i j e in
    some_or (written_by i j.at) (written js j.at) (subst (λ (z : Jump). is_some (written_by z j.at) ≡ true) (sym k)
    (some_if (is_within j.at (min j.room (length j.bytes)) j.at) (slice_index j.bytes (j.at - j.at))
    ∙ within j.at (min j.room (length j.bytes)) j.at (omega arith) (omega (arith, r, l))))
begins (i ∷ js) j (suc n, e) r l = or_other (written_by i j.at) (written js j.at) (begins js j (n, e) r l)

-- a trampoline of a list in whose instruction a jump stands
pub record StandsOn (trs : List Trampoline) (j : Jump) : Type 0 where
  pub tramp : Trampoline
  pub listed : In trs tramp
  pub low : tramp.entry.addr ≤ j.at
  pub high : j.at + j.room ≤ tramp.entry.addr + tramp.entry.len

-- a trampoline of a list whose instruction has a byte
pub record WritesOn (trs : List Trampoline) (x : ℕ) : Type 0 where
  pub tramp : Trampoline
  pub listed : In trs tramp
  pub low : tramp.entry.addr ≤ x
  pub high : x < tramp.entry.addr + tramp.entry.len

-- where each jump stands in the instruction of a trampoline of the list, so does each byte that they write
pub writes_on : (trs : List Trampoline) (js : List Jump) (x : ℕ) → AllByRecursion (StandsOn trs) js → is_written js x ≡ true → WritesOn trs x
writes_on trs [] x h w = absurd (false≢true w)
writes_on trs (j ∷ js) x h w = elim (or_some (written_by j x) (written js x) w) [
  | inl i ↦ (let k = within_parts j.at (min j.room (length j.bytes)) x
      (sym (some_if (is_within j.at (min j.room (length j.bytes)) x) (slice_index j.bytes (x - j.at))) ∙ i) in
      let s = h.0 in let lo = s.low in let hi = s.high in
      record { tramp = s.tramp; listed = s.listed; low = omega (arith, lo, k.0); high = omega (arith, hi, k.1) })
  | inr i ↦ writes_on trs js x h.1 i
]

-- where a plan's trampolines are placed, each of them is
pub placed_at : (v : TurnView) (trs : List Trampoline) (u : Trampoline) → ArePlaced v trs → In trs u → IsPlaced v u
placed_at v [] u p c = let e = c.1 in absurd cc
placed_at v (w ∷ trs) u p (zero, e) = subst (IsPlaced v) (some_is w u e) p.0
placed_at v (w ∷ trs) u p (suc i, e) = placed_at v trs u p.2 (i, e)

-- what fixes a plan: its jumps, its trampolines, and what is asked of each
module _ (g : Scene) (t : State) (number : ℕ) (js : List Jump) (trs : List Trampoline) (writes : List Write) where
  abbrev pub v : TurnView
  v = view_at g t

  abbrev pub line_of : Trampoline → Line
  line_of u = record { number = number; tramp = tramp_of u }

  abbrev pub add : Addition
  add = record {
    jumps = js;
    lines = map line_of trs;
    runs = map write_value writes;
    ranges = map (extent_for v) trs;
  }

  abbrev pub d : Done
  d = done_after (done_by t) add

  -- memory after the writes is memory as it stands then
  after_is : (x : ℕ) → after_writes (memory_now v) js x ≡ memory_in g d x
  after_is x = after_cell (written js x) (is_punned js x) (t.lock x) (g.image x)

  module _ (A : AreEntries g.image g.entries) (E : AllByRecursion (λ (u : Trampoline). entry_at g.entries u.entry.addr ≡ Some u.entry) trs)
      (free : (x : ℕ) → is_written js x ≡ true → t.lock x ≡ Free)
      (stands : AllByRecursion (λ (j : Jump). IsFixed (after_writes (memory_now v) js) j.at j.bytes) js)
      (low : AllByRecursion (λ (j : Jump). j.at + length j.bytes < 2 ^ 64) js) (room : ArePlaced v trs)
      (runs : AreRuns (is_written js) (map write_run writes))
      (tell : AllByRecursion (TellsWrite (memory_now v) (after_writes (memory_now v) js)) writes)
      (on : AllByRecursion (StandsOn trs) js)
      (begun : AllByRecursion (λ (u : Trampoline). is_written js u.entry.addr ≡ true) trs)
      (leads : AllByRecursion (λ (u : Trampoline). LeadBy g.entries js u.entry.addr u.place) trs)
      (once : (x : ℕ) → count_by (starts_at x) (map line_of trs) ≤ 1)
      (may : AllByRecursion (λ (u : Trampoline). MayBeSite u.entry) trs) where
    -- the entry of each trampoline is found at its address
    entry_of : (u : Trampoline) → In trs u → entry_at g.entries u.entry.addr ≡ Some u.entry
    entry_of u c = all_in (λ (u : Trampoline). entry_at g.entries u.entry.addr ≡ Some u.entry) trs u E c

    -- the entry of each trampoline is listed
    listed : (u : Trampoline) → In trs u → Contains g.entries u.entry
    listed u c =
        let q = finds (λ (e : StartEntry). eqb e.addr u.entry.addr) g.entries u.entry (entry_of u c) in
        contains_at g.entries q.place u.entry q.at

    -- bytes that the jumps write can be executed
    executed : (x : ℕ) → is_written js x ≡ true → allows 1 (g.image x) ≡ true
    executed x h = let k = writes_on trs js x on h in ((A.each k.tramp.entry (listed k.tramp k.listed)).executed x k.low k.high).0

    -- the plan's writes have exactly the bytes that the jumps write
    told : (x : ℕ) → list_any (in_run x) (map write_value writes) ≡ is_written js x
    told x = same_runs writes x ∙ runs.told x

    -- a run tells old and new bytes
    tells : (w : Write) → In writes w → (x : ℕ) → in_run x (write_value w) ≡ true → Tells g d (write_value w) x
    tells w c x h =
        let k = and_parts (leb w.addr x) (ltb x (w.addr + length w.was)) h in
        let lo = leb-true w.addr x k.0 in
        let hi = ltb-true x (w.addr + length w.was) k.1 in
        let q = all_in (TellsWrite (memory_now v) (after_writes (memory_now v) js)) writes w tell c in
        let is : is_written js x ≡ true = sym (told x) ∙ run_in writes w x c h in
        let f : t.lock x ≡ Free = free x is in
        let old : memory_now v x ≡ g.image x = ap (λ z. cell_by z (g.image x)) f in
        let ex = executed x is in
        let was = tells_at (memory_now v) w.was w.addr (length w.was) x q.0 lo hi ∙ ap byte_of old in
        let now = tells_at (after_writes (memory_now v) js) w.now w.addr (length w.was) x q.1 lo hi ∙ ap byte_of (after_is x) in
        record {
          was = ap (λ z. holds_byte (g.image x) z) was ∙ holds_own (g.image x) ex;
          now = ap (λ z. holds_byte (memory_in g d x) z) now
              ∙ holds_own (memory_in g d x) (same_perms (lock_after t.lock js x) (g.image x) ∙ ex);
        }

    -- a run has as many new bytes as old ones
    even : (w : Write) → In writes w → length w.now ≡ length w.was
    even w c =
        let q = all_in (TellsWrite (memory_now v) (after_writes (memory_now v) js)) writes w tell c in
        ap length q.1 ∙ length-bytes_from (after_writes (memory_now v) js) w.addr (length w.was)

    -- written bytes are of instructions that get trampolines
    of_plan : (x : ℕ) → is_written js x ≡ true → IsOwned g add.lines x
    of_plan x h =
        let k = writes_on trs js x on h in
        let q = in_map line_of trs k.tramp k.listed in
        record {
          entry = k.tramp.entry;
          listed = listed k.tramp k.listed;
          low = k.low;
          high = k.high;
          alone = A.alone k.tramp.entry (listed k.tramp k.listed)
              (all_in (λ (u : Trampoline). MayBeSite u.entry) trs k.tramp may k.listed) x k.low k.high;
          starts = any_at (starts_at k.tramp.entry.addr) (map line_of trs) q.0 (line_of k.tramp) q.1
              (eq-eqb k.tramp.entry.addr k.tramp.entry.addr refl);
        }

    -- the jumps are held
    held_at : (j : Jump) → In js j → IsHeld g d j
    held_at j c =
        let l : j.at + length j.bytes < 2 ^ 64 = all_in (λ (j : Jump). j.at + length j.bytes < 2 ^ 64) js j low c in
        record {
          low = l;
          stands = fixed_at (after_writes (memory_now v) js) (memory_in g d) j.at j.bytes l (λ x lo hi. sym (after_is x))
              (all_in (λ (j : Jump). IsFixed (after_writes (memory_now v) js) j.at j.bytes) js j stands c);
          locked = λ x h. spanned_locked (written js x) (is_spanned js x) (t.lock x)
              (any_at (λ (i : Jump). is_within i.at (length i.bytes) x) js c.0 j c.1 h);
        }

    -- the instruction of a trampoline can be displaced
    work : (u : Trampoline) → In trs u → is_some (work_length u.entry) ≡ true
    work u c = let r = placed_at v trs u room c in mapped_some (λ n. cond u.event v.event_size 0 + n) (work_length u.entry) (ap is_some r.1)

    -- the instruction of each trampoline can be displaced
    displaced : (u : Trampoline) → In trs u → is_some (displaced_at g.entries u.entry.addr) ≡ true
    displaced u c = ap (λ o. is_some (displaced_from o)) (entry_of u c) ∙ work_displaced u.entry.form u.entry.len u.entry.addr (work u c)

    -- the start of each trampoline leads to it
    led : (u : Trampoline) → In trs u → IsLed g d (line_of u)
    led u c = record {
      jumps = js;
      held = all_from (IsHeld g d) js held_at;
      leads = all_in (λ (u : Trampoline). LeadBy g.entries js u.entry.addr u.place) trs u leads c;
      begun = written_locked (written js u.entry.addr) (is_punned js u.entry.addr) (t.lock u.entry.addr)
          (all_in (λ (u : Trampoline). is_written js u.entry.addr ≡ true) trs u begun c);
      displaced = displaced u c;
    }

    -- code has the length for which there is room
    size : (u : Trampoline) → In trs u → code_size g (line_of u) ≡ size_of v u
    size u c = ap (size_from g.event_size u.event) (entry_of u c)

    -- there is room for the code of each trampoline
    in_place : (u : Trampoline) → In trs u → (x : ℕ) → in_code g x (line_of u) ≡ true → IsRoom (done_by t) add x
    in_place u c x h =
        let r = placed_at v trs u room c in
        let k = within_parts u.place r.0 x (ap (λ o. is_within u.place (unwrap_or o 0) x) (sym (size u c ∙ r.1)) ∙ h) in
        let f = r.2 in
        let above = f.above in
        let below = f.below in
        let end : u.place + unwrap_or (size_of v u) 0 ≡ u.place + r.0 = ap (λ o. u.place + unwrap_or o 0) r.1 in
        let q = in_map (extent_for v) trs u c in
        record {
          free = false_from_ne_true (is_taken t.taken x) (free_untaken t.taken u.place r.0 x f.misses k.0 k.1);
          taken = any_at (λ e. is_in e x) (map (extent_for v) trs) q.0 (extent_for v u) q.1
              (and_from (leb u.place x) (ltb x (u.place + unwrap_or (size_of v u) 0)) (le-leb u.place x k.0)
              (lt-ltb x (u.place + unwrap_or (size_of v u) 0) (omega (arith, end, k.1))));
          low = omega (arith, above, k.0);
          high = omega (arith, below, k.1);
        }

    -- codes of a list whose places are apart don't meet
    codes_apart : (us : List Trampoline) → ((u : Trampoline) → In us u → In trs u) → ArePlaced v us → (x : ℕ)
        → count_by (in_code g x) (map line_of us) ≤ 1
    codes_apart [] i p x = omega arith
    codes_apart (u ∷ us) i p x = one_of_both (in_code g x) (line_of u ∷ []) (map line_of us) (count_by-le-length (in_code g x) (line_of u ∷ []))
        (codes_apart us (λ w c. i w (suc c.0, c.1)) p.2 x) (λ a b.
        let q = found (in_code g x) (map line_of us) b in
        let w = from_map line_of us q.is (q.place, q.at) in
        let first = any_one (in_code g x (line_of u)) a in
        let other : in_code g x (line_of w.0) ≡ true = ap (in_code g x) w.2 ∙ q.passes in
        meet u w.0 (i u (zero, refl)) (i w.0 (suc w.1.0, w.1.1)) x (all_in (AreApart v u) us w.0 p.1 w.1) first other)
      where
        meet : (u w : Trampoline) → In trs u → In trs w → (x : ℕ) → AreApart v u w → in_code g x (line_of u) ≡ true
            → in_code g x (line_of w) ≡ true → ⊥
        meet u w c e x p h k =
            let r = placed_at v trs u room c in
            let s = placed_at v trs w room e in
            let a = within_parts u.place r.0 x (ap (λ o. is_within u.place (unwrap_or o 0) x) (sym (size u c ∙ r.1)) ∙ h) in
            let b = within_parts w.place s.0 x (ap (λ o. is_within w.place (unwrap_or o 0) x) (sym (size w e ∙ s.1)) ∙ k) in
            elim (p r.0 s.0 r.1 s.1) [
              | inl m ↦ omega (arith, m, a.1, b.0)
              | inr m ↦ omega (arith, m, a.0, b.1)
            ]

    -- what the plan adds fits what was done
    pub plan_fits : Fits g (done_by t) add
    plan_fits = record {
      free = free;
      told = told;
      tells = all_told (λ w. (x : ℕ) → in_run x w ≡ true → Tells g d w x) writes tells;
      even = all_told (λ w. length w.now ≡ length w.was) writes even;
      apart = λ x. runs_apart writes x runs.ascend;
      owned = of_plan;
      led = all_mapped (IsLed g d) line_of trs (all_from (λ u. IsLed g d (line_of u)) trs led);
      begun = all_mapped (λ l. is_written js l.tramp.start ≡ true) line_of trs begun;
      once = once;
      room = all_mapped (λ l. (x : ℕ) → in_code g x l ≡ true → IsRoom (done_by t) add x) line_of trs
          (all_from (λ u. (x : ℕ) → in_code g x (line_of u) ≡ true → IsRoom (done_by t) add x) trs in_place);
      alone = codes_apart trs (λ u c. c) room;
    }
