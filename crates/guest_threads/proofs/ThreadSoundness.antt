-- What the turns have done, loaded with the code of threads, is sound for threads.
use Rattle.std.proofs.Common.{◌≡◌, ◌⊎◌, inl, inr, ℕ, ◌+◌, ◌-◌, ◌^◌, ◌<◌, ◌≤◌, Bool, true, false, not, ◌&&◌, eqb, leb, ltb, List, [], ◌∷◌, length, Option, Some, None, refl, sym, ap, ap₂, ◌∙◌, subst, arith}
use Rattle.std.specs.Prelude.{Contains, count_by, slice_get}
use Rattle.std.specs.Option.{is_some}
use Rattle.std.specs.List.{list_any, AllByRecursion}
use Rattle.std.proofs.lemmas.Bool.{cases_eq, cases_order, eqb-true, eq-eqb, false_from_ne_true, true≢false}
use Rattle.pun_base.specs.Memory.{Cell, Bytes}
use Rattle.pun_base.specs.Actions.{IsAction}
use Rattle.length_decode.specs.Spelling.{spelling}
use Rattle.cpu_state.specs.Bytes.{Stands}
use Rattle.cpu_state.specs.Fixed.{IsFixed}
use Rattle.relocate_insn.proofs.FixedCode.{SameCode, fixed_on}
use Rattle.start_entries.specs.declared.entry.StartEntry.{StartEntry}
use Rattle.start_entries.specs.Finding.{entry_at}
use Rattle.start_entries.specs.Leading.{JumpsTo, Leads}
use Rattle.start_entries.specs.Standing.{AreEntries}
use Rattle.start_entries.proofs.ExecutedEntries.{spelling_some}
use Rattle.patch_report.proofs.ListPlaces.{In, found, counted_twice, all_in}
use Rattle.sound_images.specs.Reports.{Line}
use Rattle.sound_images.proofs.FoundElements.{any_found}
use Rattle.sound_images.proofs.LoadedCode.{loaded_fixed}
use Rattle.site_turns.specs.States.{Scene, State, memory_at}
use Rattle.site_turns.specs.Folded.{Done, done_by, in_runs, starts_at, in_code, IsKept, IsFolded}
use Rattle.site_turns.specs.Laws.{EventsAreNumbered}
use Rattle.site_turns.specs.Loaded.{AreShown}
use Rattle.site_turns.proofs.CellsAndRows.{held_by}
use Rattle.site_turns.proofs.PlanForms.{entry_here}
use Rattle.site_turns.specs.Modes.{IsShared}
use Rattle.thread_runs.specs.Building.{kind_of}
use Rattle.thread_runs.specs.ThreadCode.{Kind, slot_at, code_if}
use Rattle.thread_runs.specs.Threading.{ThreadSite, Threading, next_of, is_new, ring_of, ByTwoJumps, IsThreadSite, is_code_of, IsRingSound, IsThreadSound}
use Rattle.guest_threads.specs.FromTurns.{IsForThreads, site_with, threading_of, IsThreadLine, HaveRoom, IsThreadLoaded, FoldedIsThreadSound}
use Rattle.site_turns.proofs.CodeEnds.{line_fits}
use Rattle.site_turns.proofs.CodeSizes.{one_standing}
use Rattle.guest_threads.proofs.SitesOfLines.{mark_in, Of, of_site, one_line, once, numbers, kinds, kind_is, room_of, owned_in}
use Rattle.guest_threads.proofs.ThreadConditions.{action_few, keeps_of, ring_shared, ring_always}
use Rattle.guest_threads.proofs.LineSize.{Known as KnownLine, instruction as line_instruction, code_with as line_code, size_is as line_size, in_line as line_in, one as line_one}

module _ (g : Scene) (t : State) (patched : Bytes) (start : ℕ) (A : AreEntries g.image g.entries) (asked : IsAction g.action) (S : IsShared g.action) (F : IsFolded g t) (T : IsForThreads g)
    (J : AllByRecursion (IsThreadLine g t) (done_by t).lines) (N : EventsAreNumbered (done_by t).lines) (W : IsThreadLoaded g t patched) where
  abbrev R : Threading
  R = threading_of g t patched start

  abbrev d : Done
  d = done_by t

  abbrev K : IsKept g d
  K = F.kept

  -- bytes of code are loaded as they stand
  same_code : SameCode (memory_at g t) patched
  same_code x h n = W.originals x (held_by 1 (t.lock x) (g.image x) h)

  module _ (l : Line) (i : In d.lines l) (e : StartEntry) (at : entry_at g.entries l.tramp.start ≡ Some e) (listed : Contains g.entries e) (addr : e.addr ≡ l.tramp.start) where
    abbrev Known : Type 0
    Known = KnownLine g t A T J l i e at listed addr

    abbrev instruction : Known
    instruction = line_instruction g t A T J l i e at listed addr

    abbrev code_with : Known → List ℕ
    code_with k = line_code g t A T J l i e at listed addr k

    -- an address of a line's code is one of those that its turn took
    in_line : (k : Known) (x : ℕ) → l.tramp.place ≤ x → x < l.tramp.place + length (code_with k) → in_code g x l ≡ true
    in_line = line_in g t A T J l i e at listed addr

    -- one jump or two lead to the line's place
    one : IsThreadLine g t l
    one = line_one g t A T J l i e at listed addr

    -- the line's code is loaded, R-X
    shown : (k : Known) → AreShown patched l.tramp.place (code_with k)
    shown k = all_in _ d.lines l W.code i k.fields (e.addr + e.len) k.spelled (subst (λ (z : ℕ). Stands g.image z (spelling k.fields)) addr k.stands) (ap₂ (λ x y. x + y) addr (sym k.len))

    -- each byte of the line's code is loaded
    byte_shown : (k : Known) (x : ℕ) → l.tramp.place ≤ x → x < l.tramp.place + length (code_with k) → is_some (patched x) ≡ true
    byte_shown k x a b =
        let z : l.tramp.place + (x - l.tramp.place) ≡ x = omega (arith, a) in
        ap (λ y. is_some (patched y)) (sym z) ∙ ap is_some (shown k (x - l.tramp.place) (omega (arith, a, b)))

    -- the line's code ends low enough
    low : (k : Known) → l.tramp.place + length (code_with k) ≤ 0x7FFF1000
    low k =
        let h = (line_fits g d A l (all_in _ d.lines l K.taken i) (length (code_with k)) (line_size g t A T J l i e at listed addr k)).1 in omega (arith, h)

    -- a jump that stands in memory is loaded
    moved : (a target : ℕ) → JumpsTo (memory_at g t) a target → JumpsTo patched a target
    moved a target j = record { fields = j.fields; spelled = j.spelled; stands = fixed_on (memory_at g t) patched a (spelling j.fields) same_code j.stands; rel = j.rel; jump = j.jump; leads = j.leads }

    -- an address where a jump stands is no new one
    old_at : (a target : ℕ) → JumpsTo (memory_at g t) a target → is_new R a ≡ false
    old_at a target j = by_bytes (spelling j.fields) (spelling_some j.fields) j.stands
      where
        not_new : (q o : Bool) → o ≡ true → (q && not o) ≡ false
        not_new true o h = ap not h
        not_new false o h = refl

        by_bytes : (bs : List ℕ) → 1 ≤ length bs → IsFixed (memory_at g t) a bs → is_new R a ≡ false
        by_bytes [] some s = absurd (omega (arith, some))
        by_bytes (b ∷ bs) some s = not_new (is_some (patched a)) (is_some (g.image a)) (held_by 1 (t.lock a) (g.image a) s.0)

    -- one jump leads from the instruction to the place, or two, of which the second stands at no listed start and at no new address
    jumps : Leads (memory_at g t) g.entries e.addr l.tramp.place → JumpsTo patched e.addr l.tramp.place ⊎ ByTwoJumps R e.addr l.tramp.place
    jumps (inl j) = inl (moved e.addr l.tramp.place j)
    jumps (inr (mid, a, none, b)) = inr (record {
      second = mid;
      there = moved e.addr mid a;
      unlisted = any_found (λ (e : StartEntry). eqb e.addr mid) g.entries ∙ none;
      old = old_at mid l.tramp.place b;
      on = moved mid l.tramp.place b;
    })

    -- the line's site is a patched one
    site_sound : IsThreadSite R (site_with g.action l e)
    site_sound =
        let k = instruction in record {
          listed = listed;
          alone = one.alone e at;
          fields = k.fields;
          spelled = k.spelled;
          stands = k.stands;
          len = k.len;
          form = k.form;
          size = k.size;
          displaced = k.displaced;
          jump = jumps (subst (λ (z : ℕ). Leads (memory_at g t) g.entries z l.tramp.place) (sym addr) one.leads);
          few = action_few g.action l.tramp.event asked;
          code = loaded_fixed patched l.tramp.place (code_with k) (let h = low k in omega (arith, h)) (shown k);
          new = λ x a b. new_if (patched x) (g.image x) (byte_shown k x a b) (all_in _ d.lines l W.fresh i x (in_line k x a b));
          low = low k;
        }
      where
        new_if : (o q : Option Cell) → is_some o ≡ true → q ≡ None → (is_some o && not (is_some q)) ≡ true
        new_if o q e f = ap₂ (λ x (y : Option Cell). x && not (is_some y)) e f

  -- each site is a patched one
  sites : (s : ThreadSite) → Contains R.sites s → IsThreadSite R s
  sites s c = let o = of_site g.action g.entries d.lines s c in subst (λ (z : ThreadSite). IsThreadSite R z) o.is (site_sound o.line o.in_lines o.entry o.at o.listed o.addr)

  -- where one line at most passes a test, two that pass have one index
  twice : (f : Line → Bool) (o p : ℕ) (l m : Line) → count_by f d.lines ≤ 1 → slice_get d.lines o ≡ Some l → slice_get d.lines p ≡ Some m → f l ≡ true → f m ≡ true → o ≡ p
  twice f o p l m few a b x y = elim (cases_order o p) [
    | inl e ↦ e
    | inr (inl k) ↦ absurd (omega (arith, few, counted_twice f d.lines o p l m k a x b y))
    | inr (inr k) ↦ absurd (omega (arith, few, counted_twice f d.lines p o m l k b y a x))
  ]

  -- lines with one start have one index
  started_once : (i j : ℕ) (l m : Line) → slice_get d.lines i ≡ Some l → slice_get d.lines j ≡ Some m → l.tramp.start ≡ m.tramp.start → i ≡ j
  started_once i j l m a b e =
      let x = m.tramp.start in
      twice (starts_at x) i j l m (K.once x) a b (eq-eqb l.tramp.start x e) (eq-eqb m.tramp.start x refl)

  -- so do lines with an event and one number
  numbered_once : (i j : ℕ) (l m : Line) → slice_get d.lines i ≡ Some l → slice_get d.lines j ≡ Some m → l.tramp.event ≡ true → m.tramp.event ≡ true
      → l.number ≡ m.number → i ≡ j
  numbered_once i j l m a b u v e = elim (cases_eq i j) [
    | inl z ↦ z
    | inr n ↦ absurd (N i j l m n a b u v e)
  ]

  -- an address of a site's code is one of its line's
  of_line : (s : ThreadSite) (o : Of g.action g.entries d.lines s) (h : IsThreadSite R s) (x : ℕ) → is_code_of R s h x → in_code g x o.line ≡ true
  of_line s o h x q =
      let k = instruction o.line o.in_lines o.entry o.at o.listed o.addr in
      let same : h.fields ≡ k.fields = one_standing g.image o.entry.addr h.fields k.fields h.spelled k.spelled
      (subst (λ (z : ThreadSite). Stands g.image z.entry.addr (spelling h.fields)) (sym o.is) h.stands) k.stands in
      let e : code_if s.event s.when g.private.lo s.number h.fields (next_of s) s.place ≡ code_with o.line o.in_lines o.entry o.at o.listed o.addr k =
      λ i. code_if (sym o.is i).event (sym o.is i).when g.private.lo (sym o.is i).number (same i) (next_of (sym o.is i)) (sym o.is i).place in
      let p : s.place ≡ o.line.tramp.place = ap (λ (z : ThreadSite). z.place) (sym o.is) in
      let n = ap length e in
      in_line o.line o.in_lines o.entry o.at o.listed o.addr k x (omega (arith, q.0, p)) (omega (arith, q.1, p, n))

  -- an address of a site's code is one of its line's
  of_code : (s : ThreadSite) (c : Contains R.sites s) (x : ℕ) → is_code_of R s (sites s c) x → in_code g x (of_site g.action g.entries d.lines s c).line ≡ true
  of_code s c x h = of_line s (of_site g.action g.entries d.lines s c) (sites s c) x h

  -- codes of sites don't meet
  apart : (s t : ThreadSite) (h : Contains R.sites s) (k : Contains R.sites t) (x : ℕ) → is_code_of R s (sites s h) x → is_code_of R t (sites t k) x → s ≡ t
  apart s t h k x a b =
      let o = of_site g.action g.entries d.lines s h in
      let p = of_site g.action g.entries d.lines t k in
      one_line g.action g.entries d.lines s t o p (twice (in_code g x) o.in_lines.0 p.in_lines.0 o.line p.line (K.alone x) o.in_lines.1 p.in_lines.1 (of_code s h x a) (of_code t k x b))

  -- what is in no site's instruction stays
  stays : (x : ℕ) → is_some (g.image x) ≡ true → list_any (λ (s : ThreadSite). leb s.entry.addr x && ltb x (s.entry.addr + s.entry.len)) R.sites ≡ false → patched x ≡ g.image x
  stays x h n = W.originals x h ∙ K.others x (false_from_ne_true (in_runs d x) (λ w. true≢false (sym (owned w) ∙ n)))
    where
      owned : in_runs d x ≡ true → list_any (λ (s : ThreadSite). leb s.entry.addr x && ltb x (s.entry.addr + s.entry.len)) R.sites ≡ true
      owned w =
          let o = K.owned x w in
          let f = found (starts_at o.entry.addr) d.lines o.starts in
          let e : f.is.tramp.start ≡ o.entry.addr = eqb-true f.is.tramp.start o.entry.addr f.passes in
          let at : entry_at g.entries f.is.tramp.start ≡ Some o.entry = ap (entry_at g.entries) e ∙ entry_here g.image g.entries o.entry A o.listed in
          owned_in g.action g.entries d.lines f.is o.entry x (f.place, f.at) at o.low o.high

  -- a ring lies in the private range, and one more than each number fits a slot
  ring_sound : (n : ℕ) → R.ring ≡ Some n → IsRingSound R n
  ring_sound n v =
      let keeps = keeps_of (kind_of g.action) n v in
      let room : slot_at g.private.lo n ≤ g.private.hi = subst (λ (k : Kind). HaveRoom k g.private.lo g.private.hi d.lines) keeps W.room in
      let high = W.high in record {
        size = ring_shared g.action n S keeps;
        zeros = λ x a b. W.zeros x (omega (arith, a)) (omega (arith, b, room));
        low = omega (arith, room, high);
        numbers = λ s c u. let o = of_site g.action g.entries d.lines s c in
            subst (λ (z : ThreadSite). z.number + 1 < 2 ^ 31) o.is (all_in (IsThreadLine g t) d.lines o.line J o.in_lines).number;
        always = λ s c u. let o = of_site g.action g.entries d.lines s c in sym (ap (λ (z : ThreadSite). z.when) o.is) ∙ ring_always g.action o.line.tramp.event n keeps;
      }

  -- the patched memory is sound for threads
  pub sound : IsThreadSound R
  sound = record {
    stays = stays;
    sites = sites;
    once = once g.action g.entries d.lines started_once;
    numbers = numbers g.action g.entries d.lines numbered_once;
    apart = apart;
    kinds = kinds g.action g.entries d.lines;
    rings = λ s c k v. ap ring_of (kind_is g.action g.entries d.lines s c k v);
    marks = λ s c z v x a b. let k = room_of g.action g.entries d.lines g.private.lo g.private.hi W.room s c z v in let h = mark_in z g.private.lo s.number in W.zeros x (omega (arith, a, h)) (omega (arith, b, k));
    low = λ s c z v. let k = room_of g.action g.entries d.lines g.private.lo g.private.hi W.room s c z v in let h = W.high in omega (arith, k, h);
    ring = ring_sound;
  }

-- what the turns have done, loaded with the code of threads, is sound for threads
pub folded_is_thread_sound : FoldedIsThreadSound
folded_is_thread_sound g t patched entry A asked S F T J N W = sound g t patched entry A asked S F T J N W
