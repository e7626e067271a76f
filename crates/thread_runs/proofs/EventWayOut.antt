-- From wherever it stands in a site's event a thread goes out.
use Rattle.std.proofs.Common.{◌≡◌, ℕ, zero, suc, ◌+◌, ◌≤◌, Bool, true, false, ◌&&◌, List, [], ◌∷◌, length, drop, None, refl, sym, ap, ◌∙◌, subst, arith}
use Rattle.std.specs.Prelude.{Contains}
use Rattle.std.proofs.lemmas.Bool.{cond-true, cond-false, true≢false}
use Rattle.cpu_state.specs.Bytes.{avoids, lacking}
use Rattle.insn_form.specs.Machine.{Machine}
use Rattle.length_decode.specs.Spelling.{Fields}
use Rattle.event_steps.specs.ThreadSteps.{ThreadStepsBy}
use Rattle.event_steps.proofs.ThreadSteps.{lacking_on}
use Rattle.event_steps.specs.declared.step.EventStep.{EventStep}
use Rattle.event_steps.specs.MadeSteps.{skipped}
use Rattle.event_steps.specs.DoneSteps.{is_one_of}
use Rattle.start_entries.specs.Standing.{AreEntries}
use Rattle.thread_runs.specs.Guest.{Thread, machine_of, thread_of}
use Rattle.thread_runs.specs.ThreadCode.{is_saving, event_len, saved_from, saved_len}
use Rattle.thread_runs.specs.Threading.Part.{Save}
use Rattle.thread_runs.specs.Threading.{Threading, is_new, work_at, in_event, saves, is_saved_by, IsThreadSound}
use Rattle.thread_runs.specs.Watching.{Watched, Watch, watched_after}
use Rattle.thread_runs.specs.SiteEvents.{event_list, IsInSite}
use Rattle.thread_runs.specs.StepLaws.{StepLaws}
use Rattle.thread_runs.proofs.ThreadPlaces.{event_inside, part_high}
use Rattle.thread_runs.proofs.SiteEventSteps.{are_lists}
use Rattle.thread_runs.proofs.SiteEventsGoOn.{drop_long}
use Rattle.thread_runs.proofs.SiteStands.{save_none, site_placed, site_apart, site_free}
use Rattle.thread_runs.proofs.SiteSteps.{went, not_before, not_behind, code, same_bytes, saves_here}
use Rattle.thread_runs.proofs.MadeEvents.{made_event}
use Rattle.thread_runs.proofs.WatchedRelation.{Ground, stale_next}
use Rattle.thread_runs.proofs.GoingOut.{one_more, wider, after_thread, calm_watches, calm_in}
use Rattle.thread_runs.proofs.EffectWayOut.{Leaving, log_out, IsOut, held, Before, still_before, effect_out, stale_in}

-- the thread in front of some steps of the event
pub record At {r : Threading} {A : AreEntries r.original r.listed} {S : IsThreadSound r} (W : Leaving r A S) (k : ℕ) (rest : List EventStep) (w : Watch) (one : Watched) : Type 0 where
  pub before : Before W k w one
  pub is : IsInSite W.site.event W.site.when r.private W.site.number W.site.place one.projected.core rest (machine_of w.mem one.now)

module _ (r : Threading) (A : AreEntries r.original r.listed) (S : IsThreadSound r) (L : StepLaws) (k : ℕ) (W : Leaving r A S) where
  -- no saved byte is new
  old : (one : Watched) → one.projected ≡ W.one.projected → is_saving W.site.event W.site.when ≡ true → avoids (is_new r) (saved_from r.ring one.projected.core) (saved_len r.ring) ≡ true
  old one e h = ap (λ (t : Thread). avoids (is_new r) (saved_from r.ring t.core) (saved_len r.ring)) e ∙ W.old h

  -- what has a permission where the thread began has it
  held_now : (q : ℕ) (w : Watch) (one : Watched) → Before W k w one → lacking q W.watch.mem (saved_from r.ring W.one.projected.core) (saved_len r.ring) ≡ None
      → lacking q w.mem (saved_from r.ring one.projected.core) (saved_len r.ring) ≡ None
  held_now q w one B h = lacking_on q W.watch.mem w.mem (saved_from r.ring one.projected.core) (saved_len r.ring) B.perms ∙ ap (λ (t : Thread). lacking q W.watch.mem (saved_from r.ring t.core) (saved_len r.ring)) B.projected ∙ h

  -- one step, and then the rest, within as many steps as are left, and three more
  pub steps_out : (n : ℕ) (rest : List EventStep) → length rest ≤ n → (w : Watch) (one : Watched) → At W k rest w one → IsOut W k w (3 + n)
  steps_out n [] l w one P =
      let s = W.site in
      let h = P.is.rip in
      let len = (are_lists s.event s.when r.private s.number).len in
      wider r k w _ _ _ 3 (3 + n) (omega arith) (effect_out r A S L k W w one (record {
        before = P.before;
        here = omega (arith, h, len);
        core = L.restores s.event s.when r.private s.number s.place one.projected.core (machine_of w.mem one.now) P.before.base.kept.processor (site_placed r A S L.long s W.listed s.event refl) P.is;
      }))
  steps_out zero (s ∷ rest) l w one P = absurd (omega (arith, l))
  steps_out (suc n) (s ∷ rest) l w one P =
      let u : Machine = machine_of w.mem one.now in
      let site = W.site in
      let B = P.before in
      let c = one.projected.core in
      let free = old one B.projected in
      let G = L.can_go_on site.event site.when r.private site.number site.place c s rest u B.base.kept.processor (site_placed r A S L.long site W.listed site.event refl) (site_apart r A S L.long site W.listed c site.event refl free)
      (site_free r A S L.long site W.listed c w.mem (λ b e. B.base.room site W.listed b e) B.base.ring_room (λ h. held_now 4 w one B (W.read h)) (λ h. held_now 2 w one B (W.written h))) P.is in
      let to = G.0 in
      let f = G.1.0 in
      let st : ThreadStepsBy f u to = G.1.1 in
      let from = not_before r A S L W.own w one f to st B.base site W.listed site.event refl s rest P.is free in
      let below = not_behind r A S L W.own w one f to st B.base site W.listed site.event refl s rest P.is free in
      let inside : in_event r one.now.rip ≡ true = event_inside r A S L.long site W.listed one.now.rip from below in
      let here = saves_here r A S L W.own w one f to st B.base site W.listed site.event refl s rest P.is free in
      let same = same_bytes r A S L W.own w one f to st B.base site W.listed site.event refl s rest P.is free in
      let made = made_event r A S L W.own w one f to st B.base site W.listed s rest P.is free B.at B.world in
      let q = calm_in r A S L k site W.listed one w.mem to (code r A S L W.own w one f to st B.base site W.listed site.event refl s rest P.is free) (λ e. omega (arith, e, below)) in
      let g = went r A S L W.own w one f to st B.base site W.listed site.event refl s rest P.is free in
      let never : is_saving site.event site.when ≡ false → saves r one.now.rip ≡ false = λ e. here ∙ (let z = save_none site.event site.when e in part_high Save one.now.rip site (omega (arith, z, from))) in
      let fewer = (drop_long (skipped s u.core) rest).1 in
      wider r k w _ _ _ (suc (3 + n)) (3 + suc n) (omega arith) (one_more r k w (watched_after r k w one f to) (log_out W k) (thread_of W.to) W.to.mem (3 + n)
      (calm_watches r A S L k W.own w one f to B.there st B.base q (λ i. absurd (true≢false (sym inside ∙ i))) (avoided w one (is_saving site.event site.when) refl same free never))
      (steps_out n (drop (skipped s u.core) rest) (omega (arith, fewer, l)) (watched_after r k w one f to) (after_thread r w one to) (record {
        before = still_before r A S L k W w one B f to st made q (λ x a b. staler w one B f x (is_saving site.event site.when) refl inside same never a b) g.world;
        is = subst (λ (t : Thread). IsInSite site.event site.when r.private site.number site.place t.core (drop (skipped s u.core) rest) to) (sym q.1) g.is;
      })))
    where
      avoided : (w : Watch) (one : Watched) (b : Bool) → is_saving W.site.event W.site.when ≡ b → saved_from r.ring one.now.core ≡ saved_from r.ring one.projected.core
          → (is_saving W.site.event W.site.when ≡ true → avoids (is_new r) (saved_from r.ring one.projected.core) (saved_len r.ring) ≡ true)
          → (is_saving W.site.event W.site.when ≡ false → saves r one.now.rip ≡ false) → saves r one.now.rip ≡ true → avoids (is_new r) (saved_from r.ring one.now.core) (saved_len r.ring) ≡ true
      avoided w one true e same free never h = ap (λ z. avoids (is_new r) z (saved_len r.ring)) same ∙ free e
      avoided w one false e same free never h = absurd (true≢false (sym h ∙ never e))

      staler : (w : Watch) (one : Watched) → Before W k w one → (f : Fields) (x : ℕ) (b : Bool) → is_saving W.site.event W.site.when ≡ b → in_event r one.now.rip ≡ true
          → saved_from r.ring one.now.core ≡ saved_from r.ring one.projected.core → (is_saving W.site.event W.site.when ≡ false → saves r one.now.rip ≡ false)
          → w.stale x ≡ false → held W x ≡ false → stale_next r w one f x ≡ false
      staler w one B f x true e inside same never a b = stale_in r A S L k W w one f (machine_of w.mem one.now) x (saves r one.now.rip) refl inside a
          (ap (λ z. is_one_of z (saved_len r.ring) x) (same ∙ ap (λ (t : Thread). saved_from r.ring t.core) B.projected) ∙ (sym (ap (λ z. z && is_saved_by r W.one.projected.core x) e) ∙ b))
      staler w one B f x false e inside same never a b = cond-false (saves r one.now.rip) _ _ (never e) ∙ cond-true (in_event r one.now.rip) _ _ inside ∙ a
