-- Steps of threads outside the trampolines: at kept starts, and at displaced ones.
use Rattle.std.proofs.Common.{◌≡◌, ◌⊎◌, inl, inr, ℕ, ◌+◌, Bool, true, false, not, ◌&&◌, cond, eqb, List, [], ◌++◌, Option, Some, None, Ok, ℤ, refl, sym, ap, ap₂, ◌∙◌, subst, arith}
use Rattle.std.specs.Prelude.{Contains}
use Rattle.std.proofs.lemmas.Bool.{or_right, not_from_true, and_parts, and_left, and_right, cond-true, cond-false, ne_eqb, eq-eqb, true≢false, false≢true, not-true, false_from_ne_true}
use Rattle.pun_base.specs.Memory.{Bytes}
use Rattle.pun_base.specs.declared.action.Base.{Base}
use Rattle.length_decode.specs.Spelling.{Fields, spelling}
use Rattle.cpu_state.specs.Bytes.{advanced}
use Rattle.cpu_state.specs.Fixed.{IsFixed}
use Rattle.cpu_state.specs.Processor.{IsProcessorCore, GiveWords}
use Rattle.cpu_state.specs.declared.world.Entry.{Entry}
use Rattle.cpu_state.specs.declared.state.Core.{Core}
use Rattle.insn_form.specs.declared.form.Insn.{Insn}
use Rattle.insn_form.specs.declared.form.Insn.TheVariants.{Exact}
use Rattle.insn_form.specs.declared.form.Op.TheVariants.{Jmp}
use Rattle.insn_form.specs.declared.form.Target.TheVariants.{Rel}
use Rattle.insn_form.specs.Operands.{word_of}
use Rattle.insn_form.specs.Instruction.{insn_of}
use Rattle.insn_form.specs.Resolving.{resolved_insn}
use Rattle.insn_form.specs.Meaning.{effect}
use Rattle.insn_form.specs.Machine.{Machine, Task, first}
use Rattle.insn_form.specs.Step.{IsAt, next_after, task_of, question_of}
use Rattle.insn_form.specs.Touched.{reads_avoid, writes_none, writes_avoid}
use Rattle.insn_form.specs.Processor.{IsProcessorState}
use Rattle.event_steps.specs.ThreadSteps.{is_locked_xadd, thread_task, thread_act, ThreadStepsBy, ThreadStep}
use Rattle.thread_runs.specs.ThreadCode.{Kind, Marks, Keeps}
use Rattle.thread_runs.specs.Ring.{ringing_at, claimed_at}
use Rattle.insn_form.specs.Alike.{AreAlike, IsAlike, writes_at, still}
use Rattle.insn_form.proofs.UniqueSteps.{one_instruction, same_ok}
use Rattle.event_steps.proofs.Acting.{acting_keep, acting_after}
use Rattle.event_steps.proofs.ThreadSteps.{unlocked_task, plain_acts, keeps_code}
use Rattle.relocate_insn.proofs.FixedCode.{fixed_stands, fixed_on}
use Rattle.relocate_insn.proofs.PieceSteps.{gone_to}
use Rattle.start_entries.specs.Standing.{AreEntries}
use Rattle.image_runs.specs.Listed.{is_start, is_listed_byte}
use Rattle.thread_runs.specs.Guest.{Thread, machine_of, thread_of}
use Rattle.thread_runs.specs.Threading.Part.{Whole, Save, Marked, Unfilled}
use Rattle.thread_runs.specs.Threading.{ThreadSite, Threading, is_new, is_hidden, is_site, is_kept, in_event, saves, is_keeping, is_part, is_met_by, is_counted, is_unfilled, relocated_at, ByTwoJumps, IsThreadSound}
use Rattle.thread_runs.specs.Watching.{Watched, Watch, is_effect, behind, projection, stale_after}
use Rattle.thread_runs.specs.Premises.{IsQuietAt, reads_nothing_of}
use Rattle.thread_runs.specs.StepLaws.{StepLaws}
use Rattle.patch_report.proofs.ListPlaces.{any_at, place_of}
use Rattle.sound_images.proofs.LoadedCode.{jump_acts}
use Rattle.thread_runs.proofs.ThreadPlaces.{start_old, part_never, start_no_site, site_of, effect_kept, effect_never, old_uncounted, part_in, place_in, mark_late, part_is, part_only, part_low, claimed_here, old_unclaimed, old_unclaiming, old_unfilling, ringing_none}
use Rattle.thread_runs.proofs.StandingCode.{own_at, mark_kept, position_kept, slot_kept}
use Rattle.start_entries.specs.Leading.{JumpsTo}
use Rattle.thread_runs.specs.Relation.{Outside, AtSecond}
use Rattle.thread_runs.specs.SiteEvents.{event_list}
use Rattle.thread_runs.proofs.SiteEventSteps.{are_lists}
use Rattle.thread_runs.proofs.WatchedRelation.{Phase, ThreadKept, shown_after, marked, Ground, RingMoves, Made}

-- memories that are alike are so by each set that has the same stale bytes
pub alike_on : (hidden p q : ℕ → Bool) (m w : Bytes) → ((x : ℕ) → q x ≡ p x) → AreAlike hidden p m w → AreAlike hidden q m w
alike_on hidden p q m w e h = record { bytes = λ x a b. h.bytes x a (sym (e x) ∙ b); perms = h.perms }

-- a direct jump writes no byte of any set
pub jump_writes : (set : ℕ → Bool) (next : ℕ) (i : Insn) (rel : ℤ) (c : Core) (e : Option Entry) → i ≡ Exact (Jmp (Rel rel)) → writes_avoid set (resolved_insn next i) next c e ≡ true
unfolding effect
jump_writes set next i rel c e h = subst (λ (i : Insn). writes_avoid set (resolved_insn next i) next c e ≡ true) (sym h) refl

-- it reads none either
pub jump_reads : (set : ℕ → Bool) (next : ℕ) (i : Insn) (rel : ℤ) (c : Core) → i ≡ Exact (Jmp (Rel rel)) → reads_avoid set (resolved_insn next i) next c ≡ true
unfolding effect
jump_reads set next i rel c h = subst (λ (i : Insn). reads_avoid set (resolved_insn next i) next c ≡ true) (sym h) refl

-- a number that stays shows no event more
pub none_more : (b : Base) (n m : ℕ) → n ≡ m → (k : ℕ) → m ≡ shown_after b k → n ≡ shown_after b (k + 0)
none_more b n m e k h = let z : k ≡ k + 0 = omega arith in e ∙ h ∙ ap (shown_after b) z

-- tests that all fail count nothing before and after
pub all_zero : (b c d : Bool) → b ≡ false → c ≡ false → d ≡ false → ◌≡◌ {A = ℕ} (cond b 1 0 + cond c 1 0) (cond d 1 0 + 0)
all_zero b c d e f g = let x : ◌≡◌ {A = ℕ} (cond b 1 0) 0 = cond-false b 1 0 e in
    let y : ◌≡◌ {A = ℕ} (cond c 1 0) 0 = cond-false c 1 0 f in
    let z : ◌≡◌ {A = ℕ} (cond d 1 0) 0 = cond-false d 1 0 g in omega (arith, x, y, z)

-- where no mark stands, no thread has marked
pub uncounted : (s : ThreadSite) (x : ℕ) (c : Core) → is_part Marked x s ≡ false → is_counted s x c ≡ false
uncounted s x c e = and_right (is_met_by s c) (is_part Marked x s) e

-- a step between places at which nothing is counted, that is no effect step of the site, counts nothing
pub none_even : (s : ThreadSite) (effect : Bool) (p p' : Thread) (rip rip' : ℕ) → (effect && eqb p.rip s.entry.addr) ≡ false → is_part Marked rip' s ≡ false → is_part Marked rip s ≡ false
    → ◌≡◌ {A = ℕ} (cond (effect && (is_met_by s p.core && eqb p.rip s.entry.addr)) 1 0 + cond (is_counted s rip' p'.core) 1 0) (cond (is_counted s rip p.core) 1 0 + 0)
none_even s effect p p' rip rip' e a b =
    all_zero (effect && (is_met_by s p.core && eqb p.rip s.entry.addr)) (is_counted s rip' p'.core) (is_counted s rip p.core)
    (less effect (is_met_by s p.core) (eqb p.rip s.entry.addr) e) (uncounted s rip' p'.core a) (uncounted s rip p.core b)
  where
    less : (b m c : Bool) → (b && c) ≡ false → (b && (m && c)) ≡ false
    less true m c h = and_right m c h
    less false m c h = refl

-- a trampoline step leaves the projection
pub calm_projection : (r : Threading) (one : Watched) (m : Bytes) (to : Machine) → is_kept r one.now.rip ≡ false → relocated_at r.sites one.now.rip ≡ None → projection r one m to ≡ one.projected
calm_projection r one m to h e = cond-false (is_kept r one.now.rip) (thread_of to) (behind (relocated_at r.sites one.now.rip) one m to) h ∙ ap (λ o. behind o one m to) e

module _ (r : Threading) (A : AreEntries r.original r.listed) (S : IsThreadSound r) (L : StepLaws) where
  -- no start is where a thread is counted
  pub start_uncounted : (x : ℕ) (s : ThreadSite) → Contains r.sites s → is_start r.listed x ≡ true → is_part Marked x s ≡ false
  start_uncounted x s h e = old_uncounted r A S L.long x s h (start_old r A S L.long x e)

  -- nothing is counted at the first address of a trampoline
  pub place_uncounted : (x : ℕ) (site : ThreadSite) → Contains r.sites site → x ≡ site.place → (t : ThreadSite) → Contains r.sites t → is_part Marked x t ≡ false
  place_uncounted x site h e t k = false_from_ne_true (is_part Marked x t) (λ b.
      let v = part_is Marked x t b in
      let same : t ≡ site = S.apart t site k h x (part_in r A S L.long Marked t k x b) (place_in r A S L.long site h x e) in
      let p : t.place ≡ site.place = ap (λ (y : ThreadSite). y.place) same in
      let late = mark_late t.event t.when (omega (arith, v.1, e, p)) in
      omega (arith, v.0, e, p, late))

  -- nor is a slot claimed there
  pub place_unringing : (x : ℕ) (site : ThreadSite) → Contains r.sites site → x ≡ site.place → (is_unfilled r x ≡ false) × (claimed_at r.sites x ≡ [])
  place_unringing x site h e =
      let c = place_in r A S L.long site h x e in (
        part_only r A S L.long site h x Unfilled c ∙ part_low Unfilled x site (omega (arith, e)),
        claimed_here r A S L.long site h x c ∙ cond-false (is_keeping site.event && is_part Marked x site) _ _ (and_right (is_keeping site.event) (is_part Marked x site) (place_uncounted x site h e site h)),
      )

  -- a thread that comes to a site's trampoline, with its projection at the site, is in front of all steps of its event
  pub come : (site : ThreadSite) → Contains r.sites site → (m : Bytes) (now projected : Thread) → now.rip ≡ site.place → projected.rip ≡ site.entry.addr → now.core ≡ projected.core
      → now.world ≡ projected.world → Phase r S m now projected
  come site h m now projected here there core world =
      let l = (are_lists site.event site.when r.private site.number).len in
      inr (inr (inl (record {
        site = site;
        listed = h;
        rest = (event_list site.event site.when r.private site.number).steps;
        here = omega (arith, here, l);
        there = there;
        world = world;
        stands = inl (record { whole = inl refl; core = core });
      })))

  module _ (M : Bytes) (w : Watch) (one : Watched) (f : Fields) (to : Machine)
      (steps : ThreadStepsBy f (machine_of w.mem one.now) to) (R : Ground r S M w.stale w.mem one) (old : is_new r one.now.rip ≡ false) where
    abbrev s : Machine
    s = machine_of M one.now

    abbrev u : Machine
    u = machine_of w.mem one.now

    abbrev x0 : ℕ
    x0 = one.now.rip

    abbrev next : ℕ
    next = next_after x0 f

    abbrev stale' : ℕ → Bool
    stale' = stale_after r w.stale one f u

    -- at an address that isn't new staleness goes with what is written
    pub stale_is : (x : ℕ) → stale' x ≡ still w.stale (writes_at (thread_task f next) next s) x
    stale_is x = cond-false (saves r x0) _ _ (part_never r A S L.long x0 Save old)
        ∙ cond-false (in_event r x0) _ _ (part_never r A S L.long x0 Whole old)

    -- the thread's own relation to its projection holds before the step
    kept : ThreadKept r S w.mem one
    kept = R.kept

    -- a direct jump that stands at the thread's address is what the thread makes
    pub jumped : (target : ℕ) → JumpsTo r.patched x0 target → to ≡ gone_to u target
    jumped target j =
        let at_u : IsAt u j.fields = record { spelled = j.spelled; here = fixed_stands w.mem x0 (spelling j.fields) (fixed_on r.patched w.mem x0 (spelling j.fields) R.other j.stands) } in
        let g : j.fields ≡ f = one_instruction u j.fields f at_u steps.at in
        let i : insn_of f ≡ Exact (Jmp (Rel j.rel)) = subst (λ (z : Fields). insn_of z ≡ Exact (Jmp (Rel j.rel))) g j.jump in
        let leads : advanced next (word_of j.rel) ≡ target = ap (λ (h : Fields). advanced (next_after x0 h) (word_of j.rel)) (sym g) ∙ j.leads in
        let acts : thread_act f next u ≡ Ok (gone_to u target) = plain_acts f next u (L.not_locked f (Jmp (Rel j.rel)) i) ∙ jump_acts u next target (insn_of f) (question_of f next) j.rel i leads in
        same_ok to (gone_to u target) (sym steps.acts ∙ acts)

    -- a direct jump writes nothing
    jump_calm : (target : ℕ) → JumpsTo r.patched x0 target → (x : ℕ) → writes_at (thread_task f next) next s x ≡ false
    jump_calm target j x =
        let at_u : IsAt u j.fields = record { spelled = j.spelled; here = fixed_stands w.mem x0 (spelling j.fields) (fixed_on r.patched w.mem x0 (spelling j.fields) R.other j.stands) } in
        let g : j.fields ≡ f = one_instruction u j.fields f at_u steps.at in
        let i : insn_of f ≡ Exact (Jmp (Rel j.rel)) = subst (λ (z : Fields). insn_of z ≡ Exact (Jmp (Rel j.rel))) g j.jump in
        let task : thread_task f next ≡ task_of f next = unlocked_task f next (L.not_locked f (Jmp (Rel j.rel)) i) in
        not_from_true _ (ap (λ (t : Task). writes_none (λ y. eqb x y) t next s) task ∙ jump_writes (λ y. eqb x y) next (insn_of f) j.rel s.core (first s.world) i)

    -- a step outside the trampolines leaves a ring, where it leaves what is new, leads to no place between a claim and its fill or behind a claim, and its
    -- effect step, where it is one, is at no site
    pub ring_rests : ((x : ℕ) → is_new r x ≡ true → to.mem x ≡ w.mem x) → is_unfilled r to.rip ≡ false → claimed_at r.sites to.rip ≡ [] → cond (is_effect r x0) (ringing_at r.sites one.projected.rip) [] ≡ []
        → (n : ℕ) → r.ring ≡ Some n → RingMoves r n (is_effect r x0) one w.mem to
    ring_rests stays free' none even n e = inl (record {
      position = position_kept r A S n e w.mem to.mem stays;
      slots = slot_kept r A S n e w.mem to.mem stays;
      free = part_never r A S L.long x0 Unfilled old;
      free' = free';
      quiet = old_unclaiming r A S L.long x0 old;
      dry = old_unfilling r A S L.long x0 old;
      even = ap₂ (λ (l m : List ℕ). l ++ m) even none ∙ sym (old_unclaimed r A S L.long x0 old);
    })

    -- a step by a direct jump leaves what is due, in the phase that it leads to, where nothing is counted: the original makes no step
    made_jump : (target : ℕ) → JumpsTo r.patched x0 target → is_kept r x0 ≡ false → ((t : ThreadSite) → Contains r.sites t → is_part Marked target t ≡ false) → (is_unfilled r target ≡ false) × (claimed_at r.sites target ≡ [])
        → Phase r S to.mem (thread_of to) one.projected → Made r S stale' M M one w.mem to
    made_jump target j calm free ring phase =
        let end = jumped target j in
        let none = start_no_site r A S L.long x0 old in
        let p = calm_projection r one w.mem to calm none in
        let mem : to.mem ≡ w.mem = ap (λ (z : Machine). z.mem) end in
        let rip : to.rip ≡ target = ap (λ (z : Machine). z.rip) end in
        let eff = effect_never r A S L.long x0 calm none in
        record {
          went = inl (eff, refl, p);
          alike = subst (λ (z : Bytes). AreAlike (is_hidden r) stale' M z) (sym mem)
              (alike_on (is_hidden r) w.stale stale' M w.mem (λ x. stale_is x ∙ ap (λ b. w.stale x && not b) (jump_calm target j x) ∙ and_true (w.stale x)) R.alike);
          own = R.own;
          counted = λ t h b i. record {
            more = 0;
            number = none_more b (marked r b t to.mem) (marked r b t w.mem) (mark_kept r A S t h b i w.mem to.mem (λ x e. ap (λ (z : Bytes). z x) mem));
            even = none_even t (is_effect r x0) one.projected (projection r one w.mem to) x0 to.rip (and_left (is_effect r x0) (eqb one.projected.rip t.entry.addr) eff)
                (ap (λ x. is_part Marked x t) rip ∙ free t h) (old_uncounted r A S L.long x0 t h old);
          };
          ring = ring_rests (λ x e. ap (λ (z : Bytes). z x) mem) (ap (is_unfilled r) rip ∙ ring.0) (ap (claimed_at r.sites) rip ∙ ring.1) (cond-false (is_effect r x0) _ _ eff);
          processor = subst (λ (t : Thread). IsProcessorCore t.core) (sym p) kept.processor;
          words = subst (λ (t : Thread). GiveWords t.world) (sym p) kept.words;
          phase = subst (λ (t : Thread). Phase r S to.mem (thread_of to) t) (sym p) phase;
        }
      where
        and_true : (b : Bool) → (b && true) ≡ b
        and_true true = refl
        and_true false = refl

    -- a step at the second of two jumps, into the trampoline, leaves what is due: the original makes no step
    pub made_second : (q : AtSecond r one.now one.projected) → Made r S stale' M M one w.mem to
    made_second q =
        let j : JumpsTo r.patched x0 q.site.place = subst (λ (z : ℕ). JumpsTo r.patched z q.site.place) (sym q.here) q.jumps.on in
        let end = jumped q.site.place j in
        let calm : is_kept r x0 ≡ false = and_left (is_start r.listed x0) (not (is_site r x0)) (ap (is_start r.listed) q.here ∙ q.jumps.unlisted) in
        made_jump q.site.place j calm (λ t h. place_uncounted q.site.place q.site q.listed refl t h) (place_unringing q.site.place q.site q.listed refl)
        (come q.site q.listed to.mem (thread_of to) one.projected (ap (λ (z : Machine). z.rip) end) q.there (ap (λ (z : Machine). z.core) end ∙ q.core) (ap (λ (z : Machine). z.world) end ∙ q.world))

    -- a step at a kept start leaves what is due: the original makes the same step
    pub made_kept : (o : Outside r one.now one.projected) → is_kept r x0 ≡ true → IsQuietAt r (machine_of w.mem one.projected) → (in_event r x0 ≡ false → reads_nothing_of w.stale f u ≡ true)
        → is_start r.listed (projection r one w.mem to).rip ≡ true → (m' : Bytes) × Made r S stale' M m' one w.mem to
    made_kept o here quiet fresh stand =
        let q = subst (λ (t : Thread). IsQuietAt r (machine_of w.mem t)) (sym o.same) quiet in
        let own = own_at r A S x0 q.known here in
        let at_u : IsAt u own.fields = record { spelled = own.spelled; here = fixed_stands w.mem x0 (spelling own.fields) (fixed_on r.patched w.mem x0 (spelling own.fields) R.other own.patched) } in
        let g : own.fields ≡ f = one_instruction u own.fields f at_u steps.at in
        let there' = subst (λ (z : Fields). IsFixed r.original x0 (spelling z)) g own.original in
        let at_s : IsAt s f = record { spelled = steps.at.spelled; here = fixed_stands M x0 (spelling f) (fixed_on r.original M x0 (spelling f) R.own there') } in
        let quiet' = q.leaves f steps.at.spelled (fixed_stands r.original x0 (spelling f) there') in
        let reads = fresh (part_never r A S L.long x0 Whole old) in
        let both : IsAlike (is_hidden r) w.stale s u = record { core = refl; world = refl; mem = R.alike } in
        let X = (L.alike (is_hidden r) w.stale f s u both refl at_s steps.at quiet' reads).1 to steps in
        let p : projection r one w.mem to ≡ thread_of to = cond-true (is_kept r x0) (thread_of to) _ here in
        let e : thread_of X.0 ≡ thread_of to = λ i. record { core = X.1.alike.core i; rip = X.1.rip i; world = X.1.alike.world i } in
        let z : projection r one w.mem to ≡ thread_of X.0 = p ∙ sym e in
        let before : IsProcessorState s = record { core = subst (λ (t : Thread). IsProcessorCore t.core) (sym o.same) kept.processor; world = subst (λ (t : Thread). GiveWords t.world) (sym o.same) kept.words } in
        let P : IsProcessorState X.0 = acting_after (is_locked_xadd f) (thread_task f next) next s X.0 X.1.own.acts (omega arith) before in
        let go : is_start r.listed to.rip ≡ true = ap (λ (t : Thread). is_start r.listed t.rip) (sym p) ∙ stand in
        let still_new : (x : ℕ) → is_new r x ≡ true → to.mem x ≡ w.mem x = λ x n. acting_keep (is_locked_xadd f) (thread_task f next) next u to steps.acts (is_hidden r) quiet' x (new_hidden x n) in (
          X.0.mem,
          record {
            went = inr (record { is = effect_kept r A S L.long x0 here; to = X.0; steps = subst (λ (t : Thread). ThreadStep (machine_of M t) X.0) o.same (f, X.1.own); mem = refl; thread = z });
            alike = alike_on (is_hidden r) (still w.stale (writes_at (thread_task f next) next s)) stale' X.0.mem to.mem stale_is X.1.alike.mem;
            own = keeps_code r.original f s X.0 X.1.own R.own;
            counted = λ t h b i. record {
              more = 0;
              number = none_more b (marked r b t to.mem) (marked r b t w.mem) (mark_kept r A S t h b i w.mem to.mem still_new);
              even = none_even t (is_effect r x0) one.projected (projection r one w.mem to) x0 to.rip
                  (and_right (is_effect r x0) (eqb one.projected.rip t.entry.addr) (ne_eqb one.projected.rip t.entry.addr (λ same. no_site t h (ap (λ (y : Thread). y.rip) o.same ∙ same))))
                  (start_uncounted to.rip t h go) (start_uncounted x0 t h o.start);
            };
            ring = ring_rests still_new (part_never r A S L.long to.rip Unfilled (start_old r A S L.long to.rip go)) (old_unclaimed r A S L.long to.rip (start_old r A S L.long to.rip go))
                (ap (λ l. cond (is_effect r x0) l []) (ringing_none r A S L.long one.projected.rip (ap (λ (y : Thread). is_site r y.rip) (sym o.same) ∙ unpatched)) ∙ none (is_effect r x0));
            processor = subst (λ (t : Thread). IsProcessorCore t.core) (sym z) P.core;
            words = subst (λ (t : Thread). GiveWords t.world) (sym z) P.world;
            phase = inl (record { same = sym p; start = go });
          },
        )
      where
        unpatched : is_site r x0 ≡ false
        unpatched = not-true (is_site r x0) (and_parts (is_start r.listed x0) (not (is_site r x0)) here).1

        none : (b : Bool) → ◌≡◌ {A = List ℕ} (cond b [] []) []
        none true = refl
        none false = refl

        new_hidden : (x : ℕ) → is_new r x ≡ true → is_hidden r x ≡ true
        new_hidden x n = or_right (is_listed_byte r.listed x) (is_new r x) n

        no_site : (t : ThreadSite) → Contains r.sites t → x0 ≡ t.entry.addr → ⊥
        no_site t h e =
            let i = place_of r.sites t h in
            let b = and_parts (is_start r.listed x0) (not (is_site r x0)) here in
            true≢false (sym (any_at (λ (y : ThreadSite). eqb y.entry.addr x0) r.sites i.0 t i.1 (eq-eqb t.entry.addr x0 (sym e))) ∙ not-true (is_site r x0) b.1)

    -- a step at a patched site leaves what is due: it leads into the trampoline or to the second jump, and the original makes no step
    pub made_displaced : Outside r one.now one.projected → is_site r x0 ≡ true → Made r S stale' M M one w.mem to
    made_displaced o here = by_jump (S.sites q.0 q.1).jump
      where
        q : (site : ThreadSite) × Contains r.sites site × (site.entry.addr ≡ x0)
        q = site_of r A S L.long x0 here

        calm : is_kept r x0 ≡ false
        calm = and_right (is_start r.listed x0) (not (is_site r x0)) (not_from_true (is_site r x0) here)

        at : one.projected.rip ≡ q.0.entry.addr
        at = ap (λ (t : Thread). t.rip) (sym o.same) ∙ sym q.2

        by_jump : JumpsTo r.patched q.0.entry.addr q.0.place ⊎ ByTwoJumps r q.0.entry.addr q.0.place → Made r S stale' M M one w.mem to
        by_jump (inl k) =
            let j : JumpsTo r.patched x0 q.0.place = subst (λ (z : ℕ). JumpsTo r.patched z q.0.place) q.2 k in
            let end = jumped q.0.place j in
            made_jump q.0.place j calm (λ t h. place_uncounted q.0.place q.0 q.1 refl t h) (place_unringing q.0.place q.0 q.1 refl)
            (come q.0 q.1 to.mem (thread_of to) one.projected (ap (λ (z : Machine). z.rip) end) at (ap (λ (z : Machine). z.core) end ∙ ap (λ (t : Thread). t.core) o.same)
            (ap (λ (z : Machine). z.world) end ∙ ap (λ (t : Thread). t.world) o.same))
        by_jump (inr k) =
            let j : JumpsTo r.patched x0 k.second = subst (λ (z : ℕ). JumpsTo r.patched z k.second) q.2 k.there in
            let end = jumped k.second j in
            made_jump k.second j calm (λ t h. old_uncounted r A S L.long k.second t h k.old) (part_never r A S L.long k.second Unfilled k.old, old_unclaimed r A S L.long k.second k.old) (inr (inl (record {
              site = q.0;
              listed = q.1;
              jumps = k;
              here = ap (λ (z : Machine). z.rip) end;
              there = at;
              core = ap (λ (z : Machine). z.core) end ∙ ap (λ (t : Thread). t.core) o.same;
              world = ap (λ (z : Machine). z.world) end ∙ ap (λ (t : Thread). t.world) o.same;
            })))
