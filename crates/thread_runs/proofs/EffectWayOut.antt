-- A thread in front of its effect step, and the way out from where relocated code begins.
use Rattle.std.proofs.Common.{◌≡◌, ◌⊎◌, inl, inr, ℕ, zero, suc, ◌≤◌, Bool, true, false, not, ◌&&◌, ◌||◌, List, [], ◌∷◌, ◌++◌, Option, Some, None, refl, sym, ap, ap₂, ◌∙◌, subst, arith}
use Rattle.std.specs.Prelude.{Contains, slice_get}
use Rattle.std.proofs.lemmas.Bool.{and_parts, and_from, or_from, or_parts, not_from_false, cond-true, cond-false, false≢true, true≢false}
use Rattle.pun_base.specs.Memory.{Bytes}
use Rattle.length_decode.specs.Spelling.{Fields, IsInstruction, spelling}
use Rattle.cpu_state.specs.declared.state.Core.{Core}
use Rattle.cpu_state.specs.Bytes.{advanced, avoids, lacking, Stands}
use Rattle.insn_form.specs.declared.effect.Span.{Span}
use Rattle.insn_form.specs.declared.form.Insn.{Insn}
use Rattle.insn_form.specs.declared.form.Insn.TheVariants.{Exact, Asked, Ending}
use Rattle.insn_form.specs.Meaning.{effect}
use Rattle.insn_form.specs.Machine.{Machine, avoids_span, leaves}
use Rattle.insn_form.specs.Step.{IsAt, next_after}
use Rattle.insn_form.specs.Touched.{perms_at, reads_avoid}
use Rattle.event_steps.specs.ThreadSteps.{thread_task, ThreadStepsBy, ThreadStep}
use Rattle.insn_form.proofs.UniqueSteps.{one_instruction}
use Rattle.event_steps.proofs.ThreadSteps.{made, one_thread_next, keeps_perms}
use Rattle.start_entries.specs.Standing.{AreEntries}
use Rattle.image_runs.specs.Listed.{is_start, is_known_start}
use Rattle.thread_runs.specs.Guest.{Thread, machine_of, thread_of}
use Rattle.thread_runs.specs.ThreadCode.{is_saving, saved_from, saved_len}
use Rattle.thread_runs.specs.Work.{Tail, left, InTail}
use Rattle.thread_runs.specs.Work.Tail.{Out, Back, Jump, Ecx}
use Rattle.thread_runs.specs.Threading.{ThreadSite, Threading, next_of, work_at, is_new, is_hidden, in_event, saves, is_saved_by, IsThreadSound}
use Rattle.thread_runs.specs.Watching.{Watched, Watch, EffectStep, projection, stale_after, watched_after, is_effect}
use Rattle.thread_runs.specs.Premises.{IsQuietAt, reads_nothing_of}
use Rattle.thread_runs.specs.StepLaws.{StepLaws}
use Rattle.thread_runs.proofs.ListUpdates.{set_here}
use Rattle.thread_runs.proofs.StandingCode.{fields_of}
use Rattle.thread_runs.proofs.DisplacedSteps.{at_work, effect_told, made_effect}
use Rattle.thread_runs.proofs.WatchedRelation.{Ground, Calm, Acts, Made, stale_next}
use Rattle.thread_runs.proofs.GoingOut.{GoesOut, one_more, after_thread, watches, base_after, unsaved, tail_out}

-- what a range avoids, it avoids in a set that is no larger
avoids_less : (p q : ℕ → Bool) (a n : ℕ) → ((x : ℕ) → p x ≡ false → q x ≡ false) → avoids p a n ≡ true → avoids q a n ≡ true
avoids_less p q a zero h e = refl
avoids_less p q a (suc n) h e =
    let k = and_parts (not (p a)) (avoids p (advanced a 1) n) e in
    and_from (not (q a)) (avoids q (advanced a 1) n) (not_from_false (q a) (h a (is_not (p a) k.0))) (avoids_less p q (advanced a 1) n h k.1)
  where
    is_not : (b : Bool) → not b ≡ true → b ≡ false
    is_not true e = absurd (false≢true e)
    is_not false e = refl

-- addresses that avoid each of two sets avoid both together
avoids_both : (p q : ℕ → Bool) (a n : ℕ) → avoids p a n ≡ true → avoids q a n ≡ true → avoids (λ x. p x || q x) a n ≡ true
avoids_both p q a zero e f = refl
avoids_both p q a (suc n) e f =
    let k = and_parts (not (p a)) (avoids p (advanced a 1) n) e in
    let j = and_parts (not (q a)) (avoids q (advanced a 1) n) f in
    and_from (not (p a || q a)) (avoids (λ x. p x || q x) (advanced a 1) n) (neither (p a) (q a) k.0 j.0) (avoids_both p q (advanced a 1) n k.1 j.1)
  where
    neither : (b c : Bool) → not b ≡ true → not c ≡ true → not (b || c) ≡ true
    neither true c e f = absurd (false≢true e)
    neither false c e f = f

-- a span that avoids each of two sets avoids what both have
span_both : (p q s : ℕ → Bool) (o : Option Span) → ((x : ℕ) → p x ≡ false → q x ≡ false → s x ≡ false) → avoids_span p o ≡ true → avoids_span q o ≡ true → avoids_span s o ≡ true
span_both p q s None h e f = refl
span_both p q s (Some a) h e f = avoids_less (λ x. p x || q x) s a.addr a.size (λ x k. let j = or_parts (p x) (q x) k in h x j.0 j.1) (avoids_both p q a.addr a.size e f)

-- an instruction that reads of neither of two sets reads nothing that both have
insn_both : (p q s : ℕ → Bool) (i : Insn) (next : ℕ) (c : Core) → ((x : ℕ) → p x ≡ false → q x ≡ false → s x ≡ false) → reads_avoid p i next c ≡ true → reads_avoid q i next c ≡ true → reads_avoid s i next c ≡ true
insn_both p q s (Exact op) next c h e f = span_both p q s (effect op next c).read h e f
insn_both p q s (Asked form) next c h e f = refl
insn_both p q s Ending next c h e f = refl

-- a thread in a trampoline, or before it, that can go out, and the step of the original's thread by which it does: what of it is known
pub record Leaving (r : Threading) (A : AreEntries r.original r.listed) (S : IsThreadSound r) : Type 0 where
  pub site : ThreadSite
  pub listed : Contains r.sites site
  -- the original's memory, and the watch and the thread before the first step
  pub own : Bytes
  pub watch : Watch
  pub one : Watched
  pub to : Machine
  pub steps : ThreadStep (machine_of own one.projected) to
  pub quiet : IsQuietAt r (machine_of own one.projected)
  pub ends : is_start r.listed to.rip ≡ true
  pub read : is_saving site.event site.when ≡ true → lacking 4 watch.mem (saved_from r.ring one.projected.core) (saved_len r.ring) ≡ None
  pub written : is_saving site.event site.when ≡ true → lacking 2 watch.mem (saved_from r.ring one.projected.core) (saved_len r.ring) ≡ None
  pub old : is_saving site.event site.when ≡ true → avoids (is_new r) (saved_from r.ring one.projected.core) (saved_len r.ring) ≡ true
  pub unread : is_saving site.event site.when ≡ true → reads_nothing_of (is_saved_by r one.projected.core) (fields_of r A S site listed) (machine_of own one.projected) ≡ true
  pub fresh : reads_nothing_of watch.stale (fields_of r A S site listed) (machine_of own one.projected) ≡ true

-- the effect steps once it has gone out: one more, that of its projection; and that it goes out within so many steps
abbrev pub log_out : {r : Threading} {A : AreEntries r.original r.listed} {S : IsThreadSound r} → Leaving r A S → ℕ → List EffectStep
log_out W k = W.watch.log ++ record { thread = k; at = W.one.projected.rip; core = W.one.projected.core } ∷ []

abbrev pub IsOut : {r : Threading} {A : AreEntries r.original r.listed} {S : IsThreadSound r} → Leaving r A S → ℕ → Watch → ℕ → Type 0
IsOut {r} W k w most = GoesOut r k w (log_out W k) (thread_of W.to) W.to.mem most

-- the bytes in which the site's event saves
abbrev pub held : {r : Threading} {A : AreEntries r.original r.listed} {S : IsThreadSound r} → Leaving r A S → ℕ → Bool
held {r} W x = is_saving W.site.event W.site.when && is_saved_by r W.one.projected.core x

-- the thread before its effect step, and the watch there
pub record Before {r : Threading} {A : AreEntries r.original r.listed} {S : IsThreadSound r} (W : Leaving r A S) (k : ℕ) (w : Watch) (one : Watched) : Type 0 where
  pub there : slice_get w.threads k ≡ Some one
  pub base : Ground r S W.own w.stale w.mem one
  pub log : w.log ≡ W.watch.log
  pub perms : (x : ℕ) → perms_at w.mem x ≡ perms_at W.watch.mem x
  pub staler : (x : ℕ) → W.watch.stale x ≡ false → held W x ≡ false → w.stale x ≡ false
  pub projected : one.projected ≡ W.one.projected
  pub at : one.projected.rip ≡ W.site.entry.addr
  pub world : one.now.world ≡ one.projected.world

-- the thread there at an address, with the registers and flags of its projection
pub record Near {r : Threading} {A : AreEntries r.original r.listed} {S : IsThreadSound r} (W : Leaving r A S) (k x : ℕ) (w : Watch) (one : Watched) : Type 0 where
  pub before : Before W k w one
  pub here : one.now.rip ≡ x
  pub core : one.now.core ≡ one.projected.core

module _ (r : Threading) (A : AreEntries r.original r.listed) (S : IsThreadSound r) (L : StepLaws) (k : ℕ) (W : Leaving r A S) where
  -- the instruction reads none of them
  unheld : reads_nothing_of (held W) (fields_of r A S W.site W.listed) (machine_of W.own W.one.projected) ≡ true
  unheld = by_test (is_saving W.site.event W.site.when) refl
    where
      s0 : Machine
      s0 = machine_of W.own W.one.projected

      by_test : (b : Bool) → is_saving W.site.event W.site.when ≡ b → reads_nothing_of (held W) (fields_of r A S W.site W.listed) (machine_of W.own W.one.projected) ≡ true
      by_test true e = subst (λ (b : Bool). reads_nothing_of (λ x. b && is_saved_by r W.one.projected.core x) (fields_of r A S W.site W.listed) (machine_of W.own W.one.projected) ≡ true) (sym e) (W.unread e)
      by_test false e = subst (λ (b : Bool). reads_nothing_of (λ x. b && is_saved_by r W.one.projected.core x) (fields_of r A S W.site W.listed) (machine_of W.own W.one.projected) ≡ true) (sym e)
          (insn_both W.watch.stale W.watch.stale (λ x. false) (thread_task (fields_of r A S W.site W.listed) (next_after s0.rip (fields_of r A S W.site W.listed))).insn (next_after s0.rip (fields_of r A S W.site W.listed)) s0.core (λ x a b. refl) W.fresh W.fresh)

  -- after a step that leaves the projection, and by which saved bytes alone become stale, it is still before it
  pub still_before : (w : Watch) (one : Watched) → Before W k w one → (f : Fields) (to : Machine) → ThreadStepsBy f (machine_of w.mem one.now) to → Made r S (stale_next r w one f) W.own W.own one w.mem to
      → (is_effect r one.now.rip ≡ false) × (projection r one w.mem to ≡ one.projected) → ((x : ℕ) → w.stale x ≡ false → held W x ≡ false → stale_next r w one f x ≡ false)
      → to.world ≡ one.now.world → Before W k (watched_after r k w one f to) (after_thread r w one to)
  still_before w one B f to st made q stale world = record {
    there = set_here w.threads k one (after_thread r w one to) B.there;
    base = base_after r A S L k W.own W.own w one f to st B.base made (ap (λ (t : Thread). is_start r.listed t.rip) q.1 ∙ B.base.kept.start);
    log = cond-false (is_effect r one.now.rip) _ _ q.0 ∙ B.log;
    perms = λ x. keeps_perms f (machine_of w.mem one.now) to st x ∙ B.perms x;
    staler = λ x a b. stale x (B.staler x a b) b;
    projected = q.1 ∙ B.projected;
    at = ap (λ (t : Thread). t.rip) q.1 ∙ B.at;
    world = world ∙ B.world ∙ ap (λ (t : Thread). t.world) (sym q.1);
  }

  -- the original's memory after an effect step is that of its own step
  made_memory : (stale : ℕ → Bool) (m : Bytes) (w : Watch) (one : Watched) (to : Machine) → Made r S stale W.own m one w.mem to → is_effect r one.now.rip ≡ true
      → ThreadStep (machine_of W.own one.projected) W.to → m ≡ W.to.mem
  made_memory stale m w one to made effect st = by_kind made.went
    where
      by_kind : Calm (is_effect r one.now.rip) W.own m one.projected (projection r one w.mem to) ⊎ Acts (is_effect r one.now.rip) W.own m one.projected (projection r one w.mem to) → m ≡ W.to.mem
      by_kind (inl calm) = absurd (true≢false (sym effect ∙ calm.0))
      by_kind (inr acts) = acts.mem ∙ ap (λ (z : Machine). z.mem) (one_thread_next (machine_of W.own one.projected) acts.to W.to acts.steps st)

  -- the effect step, and what is after it
  pub effect_out : (w : Watch) (one : Watched) → Near W k (work_at W.site) w one → IsOut W k w 3
  effect_out w one P =
      let B = P.before in
      let F = fields_of r A S W.site W.listed in
      let s : Machine = machine_of W.own one.projected in
      let s0 : Machine = machine_of W.own W.one.projected in
      let u : Machine = machine_of w.mem one.now in
      let e : s ≡ s0 = ap (machine_of W.own) B.projected in
      let q : IsQuietAt r (machine_of w.mem one.projected) = record {
        known = ap (λ (t : Thread). is_known_start r.listed t.rip) B.projected ∙ W.quiet.known;
        leaves = subst (λ (t : Thread). (f : Fields) → IsInstruction f → Stands r.original t.rip (spelling f) → leaves (is_hidden r) (thread_task f (next_after t.rip f)) (next_after t.rip f) (machine_of w.mem t) ≡ true)
            (sym B.projected) W.quiet.leaves;
      } in
      let reads : reads_nothing_of w.stale F s ≡ true = subst (λ (z : Machine). reads_nothing_of w.stale F z ≡ true) (sym e)
      (insn_both W.watch.stale (held W) w.stale (thread_task F (next_after s0.rip F)).insn (next_after s0.rip F) s0.core B.staler W.fresh unheld) in
      let work = at_work r A S L W.site W.listed W.own w one B.base P.here B.at P.core B.world reads q in
      let st1 : ThreadStep s W.to = subst (λ (z : Machine). ThreadStep z W.to) (sym e) W.steps in
      let at_s : IsAt s F = work.here in
      let g : st1.0 ≡ F = one_instruction s st1.0 F st1.1.at at_s in
      let X = (L.effects (is_hidden r) w.stale F (next_of W.site) (work_at W.site) s u work).0 W.to (subst (λ (z : Fields). ThreadStepsBy z s W.to) g st1.1) in
      let to = X.0 in
      let f = X.1.fields in
      let st : ThreadStepsBy f u to = X.1.other in
      let T = effect_told r A S L W.site W.listed W.own w one f to st B.base P.here B.at work in
      let same : T.to' ≡ W.to = one_thread_next s T.to' W.to (F, T.worked.own) st1 in
      let gone : projection r one w.mem to ≡ thread_of W.to = T.thread ∙ ap thread_of same in
      let stand : is_start r.listed (projection r one w.mem to).rip ≡ true = ap (λ (t : Thread). is_start r.listed t.rip) gone ∙ W.ends in
      let q1 = made_effect r A S L W.site W.listed W.own w one f to st B.base P.here B.at T stand in
      let B' = base_after r A S L k W.own q1.0 w one f to st B.base q1.1 stand in
      let log : (watched_after r k w one f to).log ≡ (log_out W k) = cond-true (is_effect r one.now.rip) _ _ T.effect ∙ ap₂ (λ (l : List EffectStep) (t : Thread). l ++ record { thread = k; at = t.rip; core = t.core } ∷ []) B.log B.projected in
      let z = T.thread in
      let there : InTail F (next_of W.site) (work_at W.site) T.worked.tail (projection r one w.mem to).core (projection r one w.mem to).rip to =
      subst (λ (p : Thread). InTail F (next_of W.site) (work_at W.site) T.worked.tail p.core p.rip to) (sym z) T.worked.there in
      let world : to.world ≡ (projection r one w.mem to).world = sym T.worked.world ∙ ap (λ (t : Thread). t.world) (sym z) in
      let mem : q1.0 ≡ W.to.mem = made_memory (stale_after r w.stale one f u) q1.0 w one to q1.1 T.effect st1 in
      let touches = L.touches F f (next_of W.site) (work_at W.site) s u work.work P.here (sym work.alike.core) (sym work.alike.world) st.at w.stale in
      let here : one.now.rip ≡ work_at W.site = P.here in
      one_more r k w (watched_after r k w one f to) (log_out W k) (thread_of W.to) W.to.mem 2
      (watches r k w one f to B.there st (λ i. q) stand (λ i. touches.0 ∙ reads) (λ i. absurd (true≢false (sym i ∙ unsaved r A S L k W.site W.listed one.now.rip T.code (omega (arith, here))))))
      (subst (λ (l : List EffectStep). GoesOut r k (watched_after r k w one f to) l (thread_of W.to) W.to.mem 2) log
      (subst (λ (p : Thread). GoesOut r k (watched_after r k w one f to) (watched_after r k w one f to).log p W.to.mem 2) gone
      (subst (λ (z : Bytes). GoesOut r k (watched_after r k w one f to) (watched_after r k w one f to).log (projection r one w.mem to) z 2) mem
      (tail_out r A S L k W.site W.listed 2 q1.0 (watched_after r k w one f to) (after_thread r w one to) T.worked.tail (two T.worked.tail) (set_here w.threads k one (after_thread r w one to) B.there) B' there world))))
    where
      two : (t : Tail) → left t ≤ 2
      two Out = omega arith
      two Back = omega arith
      two Jump = omega arith
      two Ecx = omega arith

  -- what isn't stale before a step isn't after it, but for saved bytes
  pub stale_in : (w : Watch) (one : Watched) (f : Fields) (u : Machine) (x : ℕ) (b : Bool) → saves r one.now.rip ≡ b → in_event r one.now.rip ≡ true → w.stale x ≡ false → is_saved_by r one.now.core x ≡ false
      → stale_after r w.stale one f u x ≡ false
  stale_in w one f u x true e g h j = cond-true (saves r one.now.rip) _ _ e ∙ or_from (w.stale x) (is_saved_by r one.now.core x) h j
  stale_in w one f u x false e g h j = cond-false (saves r one.now.rip) _ _ e ∙ cond-true (in_event r one.now.rip) _ _ g ∙ h
