-- Scheduled alone, a thread gets through a trampoline.
use Rattle.std.proofs.Common.{◌≡◌, ◌⊎◌, inl, inr, ℕ, suc, ◌+◌, ◌*◌, ◌≤◌, Bool, true, false, not, ◌&&◌, cond, eqb, List, [], ◌∷◌, ◌++◌, length, Option, Some, None, Ok, refl, sym, ap, ap₂, ◌∙◌, subst, arith}
use Rattle.std.specs.Prelude.{Contains, slice_get, slice_set}
use Rattle.std.proofs.lemmas.Bool.{and_parts, and_from, and_left, and_right, not_from_false, not_from_true, cond-true, eq-eqb, false≢true, true≢false}
use Rattle.pun_base.specs.Memory.{Bytes}
use Rattle.pun_base.specs.declared.action.Base.TheVariants.{Cover}
use Rattle.pun_base.specs.declared.action.Comparison.{Comparison}
use Rattle.length_decode.specs.Spelling.{Fields, spelling}
use Rattle.cpu_state.specs.Bytes.{advanced, avoids, lacking, Stands}
use Rattle.cpu_state.specs.Fixed.{IsFixed}
use Rattle.insn_form.specs.declared.form.Op.TheVariants.{Jmp}
use Rattle.insn_form.specs.declared.form.Target.TheVariants.{Rel}
use Rattle.insn_form.specs.Operands.{word_of}
use Rattle.insn_form.specs.Instruction.{insn_of}
use Rattle.insn_form.specs.Machine.{Machine, Task, put_all}
use Rattle.insn_form.specs.Step.{IsAt, next_after, question_of}
use Rattle.insn_form.specs.Touched.{reads_none}
use Rattle.event_steps.specs.ThreadSteps.{thread_act, ThreadStepsBy, ThreadStep}
use Rattle.insn_form.specs.Alike.{IsAlike}
use Rattle.insn_form.proofs.UniqueSteps.{one_instruction}
use Rattle.event_steps.proofs.ThreadSteps.{made, unlocked_task, plain_acts, one_thread_next}
use Rattle.relocate_insn.proofs.FixedCode.{fixed_stands, fixed_on}
use Rattle.relocate_insn.proofs.PieceSteps.{gone_to}
use Rattle.start_entries.specs.declared.entry.StartEntry.{StartEntry}
use Rattle.start_entries.specs.Leading.{JumpsTo}
use Rattle.start_entries.specs.Standing.{AreEntries}
use Rattle.image_runs.specs.Listed.{is_start}
use Rattle.thread_runs.specs.Guest.{Thread, Guest, machine_of, thread_of}
use Rattle.thread_runs.specs.GuestDeliveries.{GuestItem, Goes, Takes, given, LeadsBy, IsInterleavedWith}
use Rattle.thread_runs.specs.ThreadCode.{Kind, Marks, Keeps, is_saving, saved_from, saved_len}
use Rattle.thread_runs.specs.Threading.Part.{Save}
use Rattle.thread_runs.specs.Threading.{ThreadSite, Threading, is_new, is_hidden, is_site, is_kept, is_keeping, work_at, saves_at, is_saved_by, ByTwoJumps, IsThreadSound}
use Rattle.thread_runs.specs.Watching.{Watched, Watch, projection, stale_after, watched_after, is_effect}
use Rattle.thread_runs.specs.Premises.{IsQuietAt, StandAtStarts, reads_nothing_of}
use Rattle.thread_runs.specs.Theorem.{when_at, further_at, CanGo, GetsOut}
use Rattle.thread_runs.specs.StepLaws.{StepLaws}
use Rattle.patch_report.proofs.ListPlaces.{some_is, any_at, contains_at, place_of, all_from}
use Rattle.sound_images.proofs.LoadedCode.{jump_acts}
use Rattle.thread_runs.proofs.ListUpdates.{set_here}
use Rattle.thread_runs.proofs.ThreadPlaces.{when_here, further_here, part_never, start_old, start_no_site, site_of, effect_kept, effect_never}
use Rattle.thread_runs.proofs.StandingCode.{fields_of, site_stands, own_at}
use Rattle.thread_runs.proofs.OutsideSteps.{jump_reads, calm_projection, stale_is, made_displaced, made_second}
use Rattle.thread_runs.proofs.WatchedSteps.{phase_outside}
use Rattle.thread_runs.specs.Relation.{Outside, AtEnds, IsAmid, AtEvent}
use Rattle.event_steps.specs.declared.step.EventStep.{EventStep}
use Rattle.event_steps.specs.EventSteps.{long}
use Rattle.thread_runs.specs.SiteEvents.{event_list}
use Rattle.thread_runs.proofs.SiteEventsGoOn.{drop_long, in_front}
use Rattle.thread_runs.proofs.SiteStands.{steps_few, site_comes, stands_done, stands_in}
use Rattle.thread_runs.proofs.WatchedRelation.{Ground, Related, base_of, Made, stale_next}
use Rattle.thread_runs.proofs.GoingOut.{GoesOut, one_more, wider, after_thread, watches, calm_watches}
use Rattle.thread_runs.proofs.EffectWayOut.{Leaving, log_out, IsOut, Before, Near, still_before, effect_out}
use Rattle.thread_runs.proofs.EventWayOut.{At, steps_out}

module _ (r : Threading) (A : AreEntries r.original r.listed) (S : IsThreadSound r) (L : StepLaws) (k : ℕ) where
  module _ (W : Leaving r A S) where
    -- how many steps there are from the first address of the trampoline on at most
    abbrev come_most : ℕ
    come_most = 10 + 2 * length W.site.when + cond (is_keeping W.site.event) 5 0

    -- from where it stands in the event
    event_out : (rest : List EventStep) (w : Watch) (one : Watched) → At W k rest w one → length rest ≤ length (event_list W.site.event W.site.when r.private W.site.number).steps → IsOut W k w come_most
    event_out rest w one P l =
        let z = steps_few W.site.event W.site.when r.private W.site.number in
        wider r k w _ _ _ (3 + length rest) come_most (omega (arith, l, z)) (steps_out r A S L k W (length rest) rest (omega arith) w one P)

    -- from the first address of the trampoline, with an event or without
    come_out : (w : Watch) (one : Watched) → Near W k W.site.place w one → IsOut W k w come_most
    come_out w one P = event_out (event_list W.site.event W.site.when r.private W.site.number).steps w one (record {
      before = P.before;
      is = site_comes r A S L.long W.site W.listed one.projected.core L.comes W.site.event refl (machine_of w.mem one.now) P.before.base.other P.here P.core;
    }) (omega arith)

    -- one direct jump outside the trampolines, and then the rest
    jump_out : (n x target : ℕ) → JumpsTo r.patched x target → is_new r x ≡ false → is_kept r x ≡ false → (w : Watch) (one : Watched) → Near W k x w one
        → ((f : Fields) (to : Machine) → ThreadStepsBy f (machine_of w.mem one.now) to → Made r S (stale_next r w one f) W.own W.own one w.mem to)
        → ((v : Watch) (one' : Watched) → Near W k target v one' → IsOut W k v n) → IsOut W k w (suc n)
    jump_out n x target j old kept w one P makes rest =
        let u : Machine = machine_of w.mem one.now in
        let B = P.before in
        let x0 = one.now.rip in
        let f = j.fields in
        let next = next_after x0 f in
        let to : Machine = gone_to u target in
        let at_u : IsAt u f = record {
          spelled = j.spelled;
          here = subst (λ (z : ℕ). Stands w.mem z (spelling f)) (sym P.here) (fixed_stands w.mem x (spelling f) (fixed_on r.patched w.mem x (spelling f) B.base.other j.stands));
        } in
        let unlocked = L.not_locked f (Jmp (Rel j.rel)) j.jump in
        let leads : advanced next (word_of j.rel) ≡ target = ap (λ z. advanced (next_after z f) (word_of j.rel)) P.here ∙ j.leads in
        let acts : thread_act f next u ≡ Ok to = plain_acts f next u unlocked ∙ jump_acts u next target (insn_of f) (question_of f next) j.rel j.jump leads in
        let st : ThreadStepsBy f u to = made f u to at_u acts in
        let old' : is_new r x0 ≡ false = ap (is_new r) P.here ∙ old in
        let calm : is_kept r x0 ≡ false = ap (is_kept r) P.here ∙ kept in
        let none = start_no_site r A S L.long x0 old' in
        let eff = effect_never r A S L.long x0 calm none in
        let q = calm_projection r one w.mem to calm none in
        let reads = ap (λ (t : Task). reads_none w.stale t next u) (unlocked_task f next unlocked) ∙ jump_reads w.stale next (insn_of f) j.rel u.core j.jump in
        one_more r k w (watched_after r k w one f to) (log_out W k) (thread_of W.to) W.to.mem n
        (calm_watches r A S L k W.own w one f to B.there st B.base (eff, q) (λ i. reads) (λ i. absurd (true≢false (sym i ∙ part_never r A S L.long x0 Save old'))))
        (rest (watched_after r k w one f to) (after_thread r w one to) (record {
          before = still_before r A S L k W w one B f to st (makes f to st) (eff, q) (λ x a b. stale_is r A S L W.own w one f to st B.base old' x ∙ and_left (w.stale x) _ a) refl;
          here = refl;
          core = P.core ∙ ap (λ (t : Thread). t.core) (sym q);
        }))

    -- the thread where it is
    here_before : slice_get W.watch.threads k ≡ Some W.one → Ground r S W.own W.watch.stale W.watch.mem W.one → W.one.projected.rip ≡ W.site.entry.addr → W.one.now.world ≡ W.one.projected.world → Before W k W.watch W.one
    here_before e B at world = record { there = e; base = B; log = refl; perms = λ x. refl; staler = λ x a b. a; projected = refl; at = at; world = world }

    -- a thread that stands in an event, or where relocated code begins, goes out
    pub event_goes : slice_get W.watch.threads k ≡ Some W.one → Ground r S W.own W.watch.stale W.watch.mem W.one → (rest : List EventStep) → W.one.now.rip + long rest ≡ work_at W.site → W.one.projected.rip ≡ W.site.entry.addr
        → W.one.now.world ≡ W.one.projected.world → AtEnds r W.site rest W.one.now W.one.projected ⊎ IsAmid r W.watch.mem W.site rest W.one.now W.one.projected
        → IsOut W k W.watch (12 + 2 * length W.site.when + cond (is_keeping W.site.event) 5 0)
    event_goes e B left here at world stands = wider r k W.watch _ _ _ come_most (12 + 2 * length W.site.when + cond (is_keeping W.site.event) 5 0) (omega arith) (by_left left refl)
      where
        q : AtEvent r W.watch.mem W.one.now W.one.projected
        q = record { site = W.site; listed = W.listed; rest = left; here = here; there = at; world = world; stands = stands }

        by_left : (rest : List EventStep) → left ≡ rest → IsOut W k W.watch come_most
        by_left [] e' =
            let d = stands_done r A S L.long W.watch.mem W.one.now W.one.projected q L.restores B.kept.processor e' in
            wider r k W.watch _ _ _ 3 come_most (omega arith) (effect_out r A S L k W W.watch W.one (record { before = here_before e B at world; here = d.0; core = d.1 }))
        by_left (s ∷ rest) e' =
            let is = stands_in r A S L.long W.watch.mem W.one.now W.one.projected q L.comes B.other s rest e' in
            let f = in_front W.site.event W.site.when r.private W.site.number W.site.place W.one.projected.core (s ∷ rest) (machine_of W.watch.mem W.one.now) is in
            let d = (drop_long f.passed (event_list W.site.event W.site.when r.private W.site.number).steps).1 in
            let z = ap length f.left in
            event_out (s ∷ rest) W.watch W.one (record { before = here_before e B at world; is = is }) (omega (arith, d, z))

    -- and one at the second of two jumps
    pub second_goes : slice_get W.watch.threads k ≡ Some W.one → Ground r S W.own W.watch.stale W.watch.mem W.one → (j : ByTwoJumps r W.site.entry.addr W.site.place) → W.one.now.rip ≡ j.second → W.one.projected.rip ≡ W.site.entry.addr
        → W.one.now.core ≡ W.one.projected.core → W.one.now.world ≡ W.one.projected.world
        → IsOut W k W.watch (12 + 2 * length W.site.when + cond (is_keeping W.site.event) 5 0)
    second_goes e B j here at core world = wider r k W.watch _ _ _ (suc come_most) (12 + 2 * length W.site.when + cond (is_keeping W.site.event) 5 0) (omega arith)
        (jump_out come_most j.second W.site.place j.on j.old (and_left (is_start r.listed j.second) (not (is_site r j.second)) j.unlisted) W.watch W.one (record { before = here_before e B at world; here = here; core = core })
        (λ f to st. made_second r A S L W.own W.watch W.one f to st B (ap (is_new r) here ∙ j.old) (record { site = W.site; listed = W.listed; jumps = j; here = here; there = at; core = core; world = world })) come_out)

    -- from the displaced start, by one jump or by two
    displaced_out : (same0 : W.one.now ≡ W.one.projected) → slice_get W.watch.threads k ≡ Some W.one → Ground r S W.own W.watch.stale W.watch.mem W.one → is_start r.listed W.one.now.rip ≡ true → W.site.entry.addr ≡ W.one.now.rip → is_site r W.one.now.rip ≡ true
        → IsOut W k W.watch (2 + come_most)
    displaced_out same0 e B start here is = by_jump (S.sites W.site W.listed).jump
      where
        old : is_new r W.one.now.rip ≡ false
        old = start_old r A S L.long W.one.now.rip start

        calm : is_kept r W.one.now.rip ≡ false
        calm = and_right (is_start r.listed W.one.now.rip) (not (is_site r W.one.now.rip)) (not_from_true (is_site r W.one.now.rip) is)

        near : Near W k W.one.now.rip W.watch W.one
        near = record {
          before = record {
            there = e;
            base = B;
            log = refl;
            perms = λ x. refl;
            staler = λ x a b. a;
            projected = refl;
            at = ap (λ (t : Thread). t.rip) (sym same0) ∙ sym here;
            world = ap (λ (t : Thread). t.world) same0;
          };
          here = refl;
          core = ap (λ (t : Thread). t.core) same0;
        }

        first : (f : Fields) (to : Machine) → ThreadStepsBy f (machine_of W.watch.mem W.one.now) to → Made r S (stale_after r W.watch.stale W.one f (machine_of W.watch.mem W.one.now)) W.own W.own W.one W.watch.mem to
        first f to st = made_displaced r A S L W.own W.watch W.one f to st B old (record { same = same0; start = start }) is

        by_jump : JumpsTo r.patched W.site.entry.addr W.site.place ⊎ ByTwoJumps r W.site.entry.addr W.site.place → IsOut W k W.watch (2 + come_most)
        by_jump (inl j) = wider r k W.watch _ _ _ (suc come_most) (2 + come_most) (omega arith)
            (jump_out come_most W.one.now.rip W.site.place (subst (λ (z : ℕ). JumpsTo r.patched z W.site.place) here j) old calm W.watch W.one near first come_out)
        by_jump (inr j) = wider r k W.watch _ _ _ (suc (suc come_most)) (2 + come_most) (omega arith)
            (jump_out (suc come_most) W.one.now.rip j.second (subst (λ (z : ℕ). JumpsTo r.patched z j.second) here j.there) old calm W.watch W.one near first (λ v one' P.
            jump_out come_most j.second W.site.place j.on j.old (and_left (is_start r.listed j.second) (not (is_site r j.second)) j.unlisted) v one' P (λ f to st.
            made_second r A S L W.own v one' f to st P.before.base (ap (is_new r) P.here ∙ j.old) (record { site = W.site; listed = W.listed; jumps = j; here = P.here; there = P.before.at; core = P.core; world = P.before.world })) come_out))

  -- at a kept start
  kept_out : (M : Bytes) (w : Watch) (one : Watched) (f : Fields) (to0 : Machine) → ThreadStepsBy f (machine_of M one.now) to0 → one.now ≡ one.projected → IsQuietAt r (machine_of M one.now)
      → is_start r.listed to0.rip ≡ true → reads_nothing_of w.stale f (machine_of M one.now) ≡ true → slice_get w.threads k ≡ Some one → Ground r S M w.stale w.mem one → is_kept r one.now.rip ≡ true
      → GoesOut r k w (w.log ++ record { thread = k; at = one.now.rip; core = one.now.core } ∷ []) (thread_of to0) to0.mem 1
  kept_out M w one f to0 st0 same quiet ends fresh e B kept =
      let s : Machine = machine_of M one.now in
      let u : Machine = machine_of w.mem one.now in
      let x0 = one.now.rip in
      let own = own_at r A S x0 quiet.known kept in
      let at_s : IsAt s own.fields = record { spelled = own.spelled; here = fixed_stands M x0 (spelling own.fields) (fixed_on r.original M x0 (spelling own.fields) B.own own.original) } in
      let g : own.fields ≡ f = one_instruction s own.fields f at_s st0.at in
      let there' = subst (λ (z : Fields). IsFixed r.patched x0 (spelling z)) g own.patched in
      let there'' = subst (λ (z : Fields). IsFixed r.original x0 (spelling z)) g own.original in
      let at_u : IsAt u f = record { spelled = st0.at.spelled; here = fixed_stands w.mem x0 (spelling f) (fixed_on r.patched w.mem x0 (spelling f) B.other there') } in
      let both : IsAlike (is_hidden r) w.stale s u = record { core = refl; world = refl; mem = B.alike } in
      let X = (L.alike (is_hidden r) w.stale f s u both refl st0.at at_u (quiet.leaves f st0.at.spelled (fixed_stands r.original x0 (spelling f) there'')) fresh).0 to0 st0 in
      let to = X.0 in
      let v = watched_after r k w one f to in
      let now : thread_of to ≡ thread_of to0 = λ i. record { core = sym X.1.alike.core i; rip = sym X.1.rip i; world = sym X.1.alike.world i } in
      let projected : projection r one w.mem to ≡ thread_of to0 = cond-true (is_kept r x0) (thread_of to) _ kept ∙ now in
      let o : Outside r one.now one.projected = record { same = same; start = (and_parts (is_start r.listed x0) (not (is_site r x0)) kept).0 } in
      let own_quiet : IsQuietAt r (machine_of w.mem one.projected) = subst (λ (t : Thread). IsQuietAt r (machine_of w.mem t)) same (record { known = quiet.known; leaves = quiet.leaves }) in
      let p = watches r k w one f to e X.1.other (λ i. own_quiet) (ap (λ (t : Thread). is_start r.listed t.rip) projected ∙ ends) (λ i. fresh)
      (λ i. absurd (true≢false (sym i ∙ part_never r A S L.long x0 Save (start_old r A S L.long x0 o.start)))) in
      record {
        few = 1;
        bound = omega arith;
        states = v ∷ [];
        run = (p.step, tt);
        proper = λ stand apart. let z = p.proper stand (apart.0 p.step) in (stand, (p.step, z), z.stand);
        there = set_here w.threads k one (after_thread r w one to) e ∙ ap₂ (λ (t p : Thread). Some (record { now = t; projected = p })) now projected;
        memory = λ x h z. X.1.alike.mem.bytes x h (sym (stale_is r A S L M w one f to X.1.other B (start_old r A S L.long x0 o.start) x) ∙ z);
        effect = cond-true (is_effect r x0) _ _ (effect_kept r A S L.long x0 kept) ∙ ap (λ (t : Thread). w.log ++ record { thread = k; at = t.rip; core = t.core } ∷ []) (sym same);
      }

  -- the original's threads stand at listed starts
  pub all_stand : (a : Guest) (made : List GuestItem) (w : Watch) → Related r S a made w → StandAtStarts r w.threads
  all_stand a made w R = all_from (λ (t : Watched). is_start r.listed t.projected.rip ≡ true) w.threads (λ t i. (R.each i.0 t i.1).start)

  -- a thread that can go from a listed start gets out, whether the start is kept or displaced
  pub gets_out : (a : Guest) (made : List GuestItem) (w : Watch) (one : Watched) (R : Related r S a made w) → slice_get w.threads k ≡ Some one → (C : CanGo r w one R.end) → GetsOut r k w one C.to
  gets_out a made w one R e C = done (by_start (is_site r one.now.rip) refl)
    where
      B : Ground r S R.end.mem w.stale w.mem one
      B = base_of r S a made w R k one e

      same : one.now ≡ one.projected
      same = phase_outside r A S L w.mem one.now one.projected R.other (R.each k one e).phase C.stands

      done : GoesOut r k w (w.log ++ record { thread = k; at = one.now.rip; core = one.now.core } ∷ []) (thread_of C.to) C.to.mem (12 + 2 * length (when_at r.sites one.now.rip) + further_at r.sites one.now.rip) → GetsOut r k w one C.to
      done g = record { few = g.few; bound = g.bound; states = g.states; run = g.run; proper = g.proper (all_stand a made w R); there = g.there; outside = C.ends; memory = g.memory; effect = g.effect }

      displaced : is_site r one.now.rip ≡ true → (s : ThreadSite) × Contains r.sites s × (s.entry.addr ≡ one.now.rip) → GoesOut r k w (w.log ++ record { thread = k; at = one.now.rip; core = one.now.core } ∷ []) (thread_of C.to) C.to.mem (12 + 2 * length (when_at r.sites one.now.rip) + further_at r.sites one.now.rip)
      displaced is q =
          let F = fields_of r A S q.0 q.1 in
          let m : Machine = machine_of R.end.mem one.now in
          let K = S.sites q.0 q.1 in
          let at_s : IsAt m F = record {
            spelled = K.spelled;
            here = subst (λ (z : ℕ). Stands R.end.mem z (spelling F)) q.2
                (fixed_stands R.end.mem q.0.entry.addr (spelling F) (fixed_on r.original R.end.mem q.0.entry.addr (spelling F) R.own (site_stands r A S q.0 q.1)));
          } in
          let g : C.fields ≡ F = one_instruction m C.fields F C.steps.at at_s in
          let i = place_of r.sites q.0 q.1 in
          let there : is_saving q.0.event q.0.when ≡ true → saves_at r one.now.rip ≡ true = λ h.
          any_at (λ (s : ThreadSite). eqb s.entry.addr one.now.rip && is_saving s.event s.when) r.sites i.0 q.0 i.1 (and_from (eqb q.0.entry.addr one.now.rip) (is_saving q.0.event q.0.when) (eq-eqb q.0.entry.addr one.now.rip q.2) h) in
          let when : when_at r.sites one.now.rip ≡ q.0.when = when_here one.now.rip q.0 r.sites (λ j t h e'. S.once t q.0 (contains_at r.sites j t h) q.1 (e' ∙ sym q.2)) i.0 i.1 q.2 in
          let further : further_at r.sites one.now.rip ≡ cond (is_keeping q.0.event) 5 0 = further_here one.now.rip q.0 r.sites (λ j t h e'. S.once t q.0 (contains_at r.sites j t h) q.1 (e' ∙ sym q.2)) i.0 i.1 q.2 in
          wider r k w _ _ _ (2 + (10 + 2 * length q.0.when + cond (is_keeping q.0.event) 5 0)) (12 + 2 * length (when_at r.sites one.now.rip) + further_at r.sites one.now.rip)
          (let z = ap (λ (l : List Comparison). length l) when in omega (arith, z, further))
          (subst (λ (t : Thread). ThreadStep (machine_of R.end.mem t) C.to → IsQuietAt r (machine_of R.end.mem t)
          → (is_saving q.0.event q.0.when ≡ true → lacking 4 w.mem (saved_from r.ring t.core) (saved_len r.ring) ≡ None) → (is_saving q.0.event q.0.when ≡ true → lacking 2 w.mem (saved_from r.ring t.core) (saved_len r.ring) ≡ None)
          → (is_saving q.0.event q.0.when ≡ true → avoids (is_new r) (saved_from r.ring t.core) (saved_len r.ring) ≡ true)
          → (is_saving q.0.event q.0.when ≡ true → reads_nothing_of (is_saved_by r t.core) F (machine_of R.end.mem t) ≡ true) → reads_nothing_of w.stale F (machine_of R.end.mem t) ≡ true
          → GoesOut r k w (w.log ++ record { thread = k; at = t.rip; core = t.core } ∷ []) (thread_of C.to) C.to.mem (2 + (10 + 2 * length q.0.when + cond (is_keeping q.0.event) 5 0))) (sym same)
          (λ st quiet read written old unread fresh. displaced_out (record {
            site = q.0;
            listed = q.1;
            own = R.end.mem;
            watch = w;
            one = one;
            to = C.to;
            steps = st;
            quiet = quiet;
            ends = C.ends;
            read = read;
            written = written;
            old = old;
            unread = unread;
            fresh = fresh;
          }) same e B C.stands q.2 is)
          (C.fields, C.steps) C.quiet (λ h. C.read (there h)) (λ h. C.written (there h)) (λ h. C.old (there h))
          (λ h. subst (λ (z : Fields). reads_nothing_of (is_saved_by r one.now.core) z m ≡ true) g (C.unread (there h))) (subst (λ (z : Fields). reads_nothing_of w.stale z m ≡ true) g C.fresh))

      by_start : (b : Bool) → is_site r one.now.rip ≡ b → GoesOut r k w (w.log ++ record { thread = k; at = one.now.rip; core = one.now.core } ∷ []) (thread_of C.to) C.to.mem (12 + 2 * length (when_at r.sites one.now.rip) + further_at r.sites one.now.rip)
      by_start true is = displaced is (site_of r A S L.long one.now.rip is)
      by_start false is = wider r k w _ _ _ 1 (12 + 2 * length (when_at r.sites one.now.rip) + further_at r.sites one.now.rip) (omega arith) (kept_out R.end.mem w one C.fields C.to C.steps same C.quiet C.ends C.fresh e B
          (and_from (is_start r.listed one.now.rip) (not (is_site r one.now.rip)) C.stands (not_from_false (is_site r one.now.rip) is)))

-- an item leads from a guest to one guest at most
one_after : (listed : List StartEntry) (i : GuestItem) (g h h' : Guest) → LeadsBy listed i g h → LeadsBy listed i g h' → h ≡ h'
one_after listed (Goes k) g h h' m m' =
    let e : m'.thread ≡ m.thread = some_is m'.thread m.thread (sym m'.there ∙ m.there) in
    let st = subst (λ (t : Thread). ThreadStep (machine_of g.mem t) m'.to) e m'.steps in
    let z : m.to ≡ m'.to = one_thread_next (machine_of g.mem m.thread) m.to m'.to m.steps st in
    m.after ∙ ap (λ (y : Machine). record { threads = slice_set g.threads k (thread_of y); mem = y.mem }) z ∙ sym m'.after
one_after listed (Takes k d) g h h' m m' =
    let e : m.thread ≡ m'.thread = some_is m.thread m'.thread (sym m.there ∙ m'.there) in
    m.after ∙ ap (λ (t : Thread). record { threads = slice_set g.threads k (given d t); mem = put_all g.mem d.writes }) e ∙ sym m'.after

-- by the items of a list a guest has one run at most
pub runs_same : (listed : List StartEntry) (is : List GuestItem) (g : Guest) (gs hs : List Guest) → IsInterleavedWith listed is g gs → IsInterleavedWith listed is g hs → gs ≡ hs
runs_same listed [] g [] [] p q = refl
runs_same listed [] g [] (h ∷ hs) p q = absurd q
runs_same listed [] g (h ∷ hs) hs' p q = absurd p
runs_same listed (i ∷ is) g [] hs p q = absurd p
runs_same listed (i ∷ is) g (h ∷ hs) [] p q = absurd q
runs_same listed (i ∷ is) g (h ∷ hs) (h' ∷ hs') p q =
    let e = one_after listed i g h h' p.0 q.0 in
    ap₂ (λ x (l : List Guest). x ∷ l) e (runs_same listed is h hs hs' p.1 (subst (λ (z : Guest). IsInterleavedWith listed is z hs') (sym e) q.1))
