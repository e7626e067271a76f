-- A step of one thread keeps the relation between the watched guest and the original's.
use Rattle.std.proofs.Common.{◌≡◌, ◌⊎◌, inl, inr, ℕ, ◌+◌, ◌-◌, ◌^◌, Bool, true, false, List, [], ◌∷◌, ◌++◌, map, Option, Some, None, refl, sym, ap, ap₂, ◌∙◌, subst, arith}
use Rattle.std.specs.Prelude.{Contains, count_by, slice_get, slice_set}
use Rattle.std.proofs.lemmas.Bool.{cond-true, cond-false, cases_eq, and_parts, true≢false, false≢true}
use Rattle.pun_base.specs.Memory.{Bytes}
use Rattle.pun_base.specs.declared.action.Base.{Base}
use Rattle.pun_base.specs.declared.action.Base.TheVariants.{Cover, Count}
use Rattle.pun_base.specs.declared.action.Comparison.{Comparison}
use Rattle.length_decode.specs.Spelling.{Fields}
use Rattle.cpu_state.specs.declared.state.Core.{Core}
use Rattle.cpu_state.specs.Bytes.{advanced, lacking}
use Rattle.insn_form.specs.Machine.{Machine}
use Rattle.insn_form.specs.Operands.{reg, rsp}
use Rattle.insn_form.specs.Step.{next_after}
use Rattle.insn_form.specs.Touched.{reads_none, writes_none}
use Rattle.insn_form.specs.Laws.{Keeps as KeepsBytes}
use Rattle.insn_form.proofs.TouchedMemory.{read_and_write}
use Rattle.event_steps.proofs.Acting.{acting_unwritten}
use Rattle.event_steps.specs.ThreadSteps.{is_locked_xadd, thread_task, ThreadStepsBy}
use Rattle.relocate_insn.proofs.FixedCode.{SameCode}
use Rattle.start_entries.specs.declared.entry.StartEntry.{StartEntry}
use Rattle.thread_runs.specs.Guest.{Thread, Guest, machine_of, thread_of, Moves, last_guest}
use Rattle.thread_runs.specs.GuestDeliveries.{GuestItem, Goes, LeadsBy, IsInterleavedWith}
use Rattle.thread_runs.specs.WatchedDeliveries.{made_after}
use Rattle.thread_runs.specs.ThreadCode.{Kind, Marks, Keeps, position_at, slot_at, slot, flag_slot, saved_from, saved_len}
use Rattle.thread_runs.specs.ThreadLists.{eight_below, thread_ring_list}
use Rattle.trampoline.specs.EventLists.{mark_at, mark_len, marked_datum, cover_event}
use Rattle.thread_runs.specs.Relation.{AtEnds, IsAmid}
use Rattle.thread_runs.specs.Work.{Tail, InTail}
use Rattle.thread_runs.specs.Work.Tail.{Out, Back, Jump, Ecx}
use Rattle.thread_runs.specs.Threading.Part.{Saved}
use Rattle.thread_runs.specs.Threading.{ThreadSite, Threading, is_part, has_saved, is_saved_by, IsThreadSound, is_hidden}
use Rattle.event_steps.specs.DoneSteps.{is_one_of}
use Rattle.event_steps.specs.declared.step.Datum.{Datum}
use Rattle.event_steps.specs.declared.step.EventStep.{EventStep}
use Rattle.event_steps.specs.Interleaved.{is_own_place, IsOwn}
use Rattle.event_steps.proofs.InterleavedSteps.{stays_in}
use Rattle.thread_runs.specs.Watching.{Watched, Watch, EffectStep, is_effect, projection, watched_after}
use Rattle.thread_runs.specs.Premises.{touches_none, LeavesSaved}
use Rattle.thread_runs.specs.SiteEvents.{event_list}
use Rattle.thread_runs.specs.Theorem.{is_recorded, has_marked}
use Rattle.insn_form.specs.Alike.{AreAlike}
use Rattle.image_runs.specs.Listed.{is_start}
use Rattle.patch_report.proofs.ListPlaces.{some_is, any_at, place_of}
use Rattle.event_steps.proofs.ByteRanges.{range_first, range_rest}
use Rattle.thread_runs.proofs.SavedBytes.{flags_then_rax}
use Rattle.thread_runs.proofs.ListUpdates.{set_here, set_away, map_set, map_same, get_map, count_set, count_more}
use Rattle.thread_runs.proofs.WatchedRelation.{ThreadKept, HasRoom, shown_after, marked, HasRing, RingKept, Related, Changes, Made, stale_next}
use Rattle.event_steps.proofs.ThreadSteps.{keeps_code, keeps_perms, lacking_on}

-- runs that grow at the end
pub run_more : (listed : List StartEntry) (is : List GuestItem) (g : Guest) (gs : List Guest) (i : GuestItem) (h : Guest) → IsInterleavedWith listed is g gs
    → LeadsBy listed i (last_guest g gs) h → IsInterleavedWith listed (is ++ i ∷ []) g (gs ++ h ∷ [])
run_more listed [] g [] i h r m = (m, tt)
run_more listed [] g (x ∷ xs) i h r m = absurd r
run_more listed (j ∷ is) g [] i h r m = absurd r
run_more listed (j ∷ is) g (x ∷ xs) i h r m = (r.0, run_more listed is x xs i h r.1 m)

-- a run with one more guest ends in that guest
pub last_more : (g : Guest) (gs : List Guest) (h : Guest) → last_guest g (gs ++ h ∷ []) ≡ h
last_more g [] h = refl
last_more g (x ∷ xs) h = last_more x xs h

-- so it is after a step
pub lacking_after : (p a n : ℕ) (f : Fields) (s t : Machine) → ThreadStepsBy f s t → lacking p t.mem a n ≡ lacking p s.mem a n
lacking_after p a n f s t st = lacking_on p s.mem t.mem a n (keeps_perms f s t st)

-- bytes that can be read and written still can after a step
pub keeps_room : (a n : ℕ) (f : Fields) (s t : Machine) → ThreadStepsBy f s t → HasRoom s.mem a n → HasRoom t.mem a n
keeps_room a n f s t st h = record { read = lacking_after 4 a n f s t st ∙ h.read; written = lacking_after 2 a n f s t st ∙ h.written }

-- so can a ring's position and slots
pub keeps_ring : (r : Threading) (n : ℕ) (f : Fields) (s t : Machine) → ThreadStepsBy f s t → HasRing r n s.mem → HasRing r n t.mem
keeps_ring r n f s t st h = record {
  position = keeps_room (position_at r.private) 4 f s t st h.position;
  slots = λ j l. keeps_room (slot_at r.private j) 4 f s t st (h.slots j l);
}

-- what a step touches none of stays
pub untouched : (set : ℕ → Bool) (f : Fields) (s t : Machine) → ThreadStepsBy f s t → touches_none set f s ≡ true → KeepsBytes set s t
untouched set f s t st h =
    let task = thread_task f (next_after s.rip f) in
    let next = next_after s.rip f in
    let e = sym (read_and_write set task next s) ∙ h in
    acting_unwritten (is_locked_xadd f) task next s t st.acts set (and_parts (reads_none set task next s) (writes_none set task next s) e).1

-- after the effect step where a thread stands doesn't depend on memory
pub tail_on : (m w : Bytes) (t : Thread) (f : Fields) (next to : ℕ) (k : Tail) (c : Core) (rip : ℕ) → InTail f next to k c rip (machine_of m t) → InTail f next to k c rip (machine_of w t)
tail_on m w t f next to Out c rip h = h
tail_on m w t f next to Back c rip h = h
tail_on m w t f next to Jump c rip h = h
tail_on m w t f next to Ecx c rip h = h

-- the eight bytes of rax are saved bytes, with a ring and without one
pub rax_saved : (o : Option ℕ) (c : Core) (x : ℕ) → is_one_of (slot c) 8 x ≡ true → is_one_of (saved_from o c) (saved_len o) x ≡ true
rax_saved None c x h = h
rax_saved (Some n) c x h = range_rest (flag_slot c) 8 8 x (omega arith) (ap (λ z. is_one_of z 8 x) (flags_then_rax c) ∙ h)

-- where events keep a ring, so are those of the flags
pub flags_saved : (o : Option ℕ) (n : ℕ) (c : Core) (x : ℕ) → o ≡ Some n → is_one_of (flag_slot c) 8 x ≡ true → is_one_of (saved_from o c) (saved_len o) x ≡ true
flags_saved None n c x e h = absurd cc
flags_saved (Some m) n c x e h = range_first (flag_slot c) 8 8 x h

-- with the same rsp they are the same
pub same_saved : (o : Option ℕ) (l d c : Core) → d ≡ l → reg l rsp ≡ reg c rsp → saved_from o d ≡ saved_from o c
same_saved None l d c e h = ap slot e ∙ ap (λ z. advanced z (2 ^ 64 - 136)) h
same_saved (Some n) l d c e h = ap flag_slot e ∙ ap (λ z. advanced z (2 ^ 64 - 144)) h

-- what a site's event saves in are saved bytes
own_saved : (r : Threading) (S : IsThreadSound r) (s : ThreadSite) → Contains r.sites s → (c : Core) (x : ℕ) → IsOwn (event_list s.event s.when r.private s.number).uses c x → is_one_of (saved_from r.ring c) (saved_len r.ring) x ≡ true
own_saved r S s listed c x = by_event s.event s.when refl
  where
    of_rax : (d : Datum) → is_own_place d.place ≡ false → IsOwn (eight_below 136 ∷ d ∷ []) c x → is_one_of (saved_from r.ring c) (saved_len r.ring) x ≡ true
    of_rax d e (inl h) = rax_saved r.ring c x h.1
    of_rax d e (inr (inl h)) = absurd (true≢false (sym h.0 ∙ e))
    of_rax d e (inr (inr h)) = absurd h

    of_ring : (n : ℕ) → r.ring ≡ Some n → IsOwn (thread_ring_list n r.private s.number).uses c x → is_one_of (saved_from r.ring c) (saved_len r.ring) x ≡ true
    of_ring n e (inl h) = rax_saved r.ring c x h.1
    of_ring n e (inr (inl h)) = flags_saved r.ring n c x e h.1
    of_ring n e (inr (inr (inl h))) = absurd (false≢true h.0)
    of_ring n e (inr (inr (inr (inl h)))) = absurd (false≢true h.0)
    of_ring n e (inr (inr (inr (inr h)))) = absurd h

    of_cover : IsOwn (cover_event r.private s.number).uses c x → is_one_of (saved_from r.ring c) (saved_len r.ring) x ≡ true
    of_cover (inl h) = absurd (false≢true h.0)
    of_cover (inr h) = absurd h

    by_event : (o : Option Kind) (cs : List Comparison) → s.event ≡ o → IsOwn (event_list o cs r.private s.number).uses c x → is_one_of (saved_from r.ring c) (saved_len r.ring) x ≡ true
    by_event None cs e h = absurd h
    by_event (Some (Keeps n)) cs e h = of_ring n (S.rings s listed (Keeps n) e) h
    by_event (Some (Marks Cover)) [] e h = of_cover h
    by_event (Some (Marks Cover)) (k ∷ cs) e h = of_rax (marked_datum Cover r.private s.number) refl h
    by_event (Some (Marks Count)) cs e h = of_rax (marked_datum Count r.private s.number) refl h

module _ (r : Threading) (S : IsThreadSound r) where
  -- where the bytes that another thread has saved stay, as code does, so does all that is kept of it
  pub other_kept : (m w : Bytes) (one : Watched) → SameCode m w → (has_saved r one.now.rip ≡ true → (x : ℕ) → is_saved_by r one.now.core x ≡ true → w x ≡ m x) → ThreadKept r S m one → ThreadKept r S w one
  other_kept m w one code h k = record {
    processor = k.processor;
    words = k.words;
    start = k.start;
    phase = elim k.phase [
      | inl q ↦ inl q
      | inr (inl q) ↦ inr (inl q)
      | inr (inr (inl q)) ↦ inr (inr (inl (record { site = q.site; listed = q.listed; rest = q.rest; here = q.here; there = q.there; world = q.world; stands = still q.site q.listed q.rest q.stands })))
      | inr (inr (inr q)) ↦ inr (inr (inr (record { site = q.site; listed = q.listed; tail = q.tail; more = q.more; there = tail_on m w one.now (S.sites q.site q.listed).fields _ _ q.tail _ _ q.there; world = q.world })))
    ];
  }
    where
      still : (s : ThreadSite) → Contains r.sites s → (rest : List EventStep) → AtEnds r s rest one.now one.projected ⊎ IsAmid r m s rest one.now one.projected → AtEnds r s rest one.now one.projected ⊎ IsAmid r w s rest one.now one.projected
      still s c rest (inl e) = inl e
      still s c rest (inr a) =
          let i = place_of r.sites s c in
          let there : has_saved r one.now.rip ≡ true = any_at (is_part Saved one.now.rip) r.sites i.0 s i.1 a.saved in
          let same = same_saved r.ring (a.is).now.core one.now.core one.projected.core a.is.beside.core a.is.beside.stack in
          inr (record {
            is = stays_in (event_list s.event s.when r.private s.number) s.place one.projected.core rest (machine_of m one.now) (machine_of w one.now) a.is refl refl code
                (λ x o. h there x (ap (λ z. is_one_of z (saved_len r.ring) x) same ∙ own_saved r S s c one.projected.core x o));
            saved = a.saved;
            old = a.old;
          })

  -- the whole relation after a step
  module _ (a : Guest) (made : List GuestItem) (w : Watch) (k : ℕ) (one : Watched) (there : slice_get w.threads k ≡ Some one) (f : Fields) (to : Machine)
      (steps : ThreadStepsBy f (machine_of w.mem one.now) to) (R : Related r S a made w) where
    -- the thread after the step
    abbrev one' : Watched
    one' = record { now = thread_of to; projected = projection r one w.mem to }

    abbrev v : Watch
    v = watched_after r k w one f to

    -- each thread of v
    each_after : (m' : Bytes) → LeavesSaved r w k f (machine_of w.mem one.now) → ThreadKept r S to.mem one' → (j : ℕ) (other : Watched) → slice_get v.threads j ≡ Some other → ThreadKept r S to.mem other
    each_after m' free kept j other e = elim (cases_eq j k) [
      | inl same ↦ subst (λ (z : Watched). ThreadKept r S to.mem z)
          (some_is one' other (sym (set_here w.threads k one one' there) ∙ subst (λ (z : ℕ). slice_get v.threads z ≡ Some other) same e)) kept
      | inr n ↦ (let g = sym (set_away w.threads k j one' n) ∙ e in
          other_kept w.mem to.mem other (keeps_code w.mem f (machine_of w.mem one.now) to steps (λ x i j. refl)) (λ h. untouched (is_saved_by r other.now.core) f (machine_of w.mem one.now) to steps (free j other n g h)) (R.each j other g))
    ]

    -- what each event marks in v
    marks_after : (e : Bool) → is_effect r one.now.rip ≡ e → (s : ThreadSite) → Contains r.sites s → (b : Base) → s.event ≡ Some (Marks b)
        → Changes r e b s w.mem to.mem one.projected one'.projected one.now.rip to.rip
        → marked r b s to.mem ≡ shown_after b (count_by (is_recorded s) v.log + count_by (has_marked s) v.threads)
    marks_after true e s c b i q =
        let log : v.log ≡ w.log ++ record { thread = k; at = one.projected.rip; core = one.projected.core } ∷ [] = cond-true (is_effect r one.now.rip) _ _ e in
        let n1 = ap (λ (z : List EffectStep). count_by (is_recorded s) z) log ∙ count_more (is_recorded s) w.log (record { thread = k; at = one.projected.rip; core = one.projected.core }) in
        let n2 = count_set (has_marked s) w.threads k one one' there in
        let n3 : count_by (is_recorded s) w.log + count_by (has_marked s) w.threads + q.more
        ≡ count_by (is_recorded s) v.log + count_by (has_marked s) v.threads = omega (arith, q.even, n1, n2) in
        q.number (count_by (is_recorded s) w.log + count_by (has_marked s) w.threads) (R.marks s c b i) ∙ ap (shown_after b) n3
    marks_after false e s c b i q =
        let log : v.log ≡ w.log = cond-false (is_effect r one.now.rip) _ _ e in
        let n1 = ap (λ (z : List EffectStep). count_by (is_recorded s) z) log in
        let n2 = count_set (has_marked s) w.threads k one one' there in
        let n3 : count_by (is_recorded s) w.log + count_by (has_marked s) w.threads + q.more
        ≡ count_by (is_recorded s) v.log + count_by (has_marked s) v.threads = omega (arith, q.even, n1, n2) in
        q.number (count_by (is_recorded s) w.log + count_by (has_marked s) w.threads) (R.marks s c b i) ∙ ap (shown_after b) n3

    -- a step that leaves what is due and touches none of the bytes that others saved keeps the relation, if its projection is at a start
    pub kept_by : (m' : Bytes) → LeavesSaved r w k f (machine_of w.mem one.now) → ((n : ℕ) → r.ring ≡ Some n → RingKept r n v) → is_start r.listed one'.projected.rip ≡ true
        → Made r S (stale_next r w one f) R.end.mem m' one w.mem to → Related r S a (made_after r k one made) v
    kept_by m' free rings start M = elim M.went [
      | inl q ↦ related R.states R.end
          (subst (λ (z : List GuestItem). IsInterleavedWith r.listed z a R.states) (sym (cond-false (is_effect r one.now.rip) _ _ q.0)) R.run)
          R.last (R.threads ∙ sym (map_same (λ (t : Watched). t.projected) w.threads k one one' there q.2))
          (subst (λ (z : Bytes). AreAlike (is_hidden r) v.stale z to.mem) q.1 M.alike) (subst (λ (z : Bytes). SameCode r.original z) q.1 M.own)
      | inr q ↦ (let h : Guest = record { threads = slice_set R.end.threads k (thread_of q.to); mem = q.to.mem } in
          let move : Moves k R.end h = record {
            thread = one.projected;
            there = ap (λ (l : List Thread). slice_get l k) R.threads ∙ get_map (λ (t : Watched). t.projected) w.threads k one there;
            to = q.to;
            steps = q.steps;
            after = refl;
          } in related (R.states ++ h ∷ []) h
          (subst (λ (z : List GuestItem). IsInterleavedWith r.listed z a (R.states ++ h ∷ [])) (sym (cond-true (is_effect r one.now.rip) _ _ q.is))
          (run_more r.listed made a R.states (Goes k) h R.run (subst (λ (z : Guest). Moves k z h) (sym R.last) move)))
          (last_more a R.states h) (ap₂ (λ (l : List Thread) t. slice_set l k t) R.threads (sym q.thread) ∙ sym (map_set (λ (t : Watched). t.projected) w.threads k one'))
          (subst (λ (z : Bytes). AreAlike (is_hidden r) v.stale z to.mem) q.mem M.alike) (subst (λ (z : Bytes). SameCode r.original z) q.mem M.own))
    ]
      where
        code : SameCode r.patched to.mem
        code = keeps_code r.patched f (machine_of w.mem one.now) to steps R.other

        room : (s : ThreadSite) → Contains r.sites s → (b : Base) → s.event ≡ Some (Marks b) → HasRoom to.mem (mark_at b r.private s.number) (mark_len b)
        room s c b i = keeps_room (mark_at b r.private s.number) (mark_len b) f (machine_of w.mem one.now) to steps (R.room s c b i)

        ring_room : (n : ℕ) → r.ring ≡ Some n → HasRing r n to.mem
        ring_room n e = keeps_ring r n f (machine_of w.mem one.now) to steps (R.ring_room n e)

        marks : (s : ThreadSite) → Contains r.sites s → (b : Base) → s.event ≡ Some (Marks b)
            → marked r b s to.mem ≡ shown_after b (count_by (is_recorded s) v.log + count_by (has_marked s) v.threads)
        marks s c b i = marks_after (is_effect r one.now.rip) refl s c b i (M.counted s c b i)

        each : (j : ℕ) (other : Watched) → slice_get v.threads j ≡ Some other → ThreadKept r S to.mem other
        each = each_after m' free (record { processor = M.processor; words = M.words; start = start; phase = M.phase })

        -- the relation, with a run of the original that ends so
        related : (states : List Guest) (end : Guest) → IsInterleavedWith r.listed (made_after r k one made) a states → last_guest a states ≡ end → end.threads ≡ map (λ (t : Watched). t.projected) v.threads
            → AreAlike (is_hidden r) v.stale end.mem to.mem → SameCode r.original end.mem → Related r S a (made_after r k one made) v
        related states end run last threads alike own = record {
          states = states;
          run = run;
          end = end;
          last = last;
          threads = threads;
          alike = alike;
          own = own;
          other = code;
          room = room;
          ring_room = ring_room;
          marks = marks;
          rings = rings;
          each = each;
        }
