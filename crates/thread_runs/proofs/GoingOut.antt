-- Steps that a thread makes when it is scheduled alone, and a trampoline's after its effect step.
use Rattle.std.proofs.Common.{◌≡◌, ◌≢◌, ℕ, zero, suc, ◌<◌, ◌≤◌, true, false, List, [], ◌∷◌, replicate, Some, refl, sym, ap, ◌∙◌, subst, arith}
use Rattle.std.specs.Prelude.{Contains, slice_get}
use Rattle.std.proofs.lemmas.Bool.{cond-false, true≢false}
use Rattle.pun_base.specs.Memory.{Bytes}
use Rattle.length_decode.specs.Spelling.{Fields}
use Rattle.cpu_state.specs.Bytes.{avoids}
use Rattle.insn_form.specs.Machine.{Machine}
use Rattle.event_steps.specs.ThreadSteps.{ThreadStepsBy}
use Rattle.event_steps.proofs.ThreadSteps.{keeps_code}
use Rattle.start_entries.specs.Standing.{AreEntries}
use Rattle.image_runs.specs.Listed.{is_start}
use Rattle.thread_runs.specs.Guest.{Thread, machine_of, thread_of}
use Rattle.thread_runs.specs.ThreadCode.{saved_from, saved_len}
use Rattle.trampoline.specs.EventLists.{mark_at, mark_len}
use Rattle.thread_runs.specs.Work.{Tail, left, InTail}
use Rattle.thread_runs.specs.Work.Tail.{Out, Back, Jump, Ecx}
use Rattle.thread_runs.specs.Threading.Part.{Save}
use Rattle.thread_runs.specs.Threading.{ThreadSite, Threading, next_of, work_at, is_new, is_hidden, in_event, saves, is_code_of, IsThreadSound}
use Rattle.thread_runs.specs.Watching.{Watched, Watch, EffectStep, projection, watched_after, is_effect, Watches}
use Rattle.thread_runs.specs.Theorem.{last_watch, IsWatched, LeaveSaved}
use Rattle.thread_runs.specs.Premises.{IsQuietAt, StandAtStarts, LeavesSaved, IsProper, IsProperRun, reads_nothing_of}
use Rattle.thread_runs.specs.StepLaws.{StepLaws}
use Rattle.thread_runs.proofs.ListUpdates.{set_here, all_set}
use Rattle.thread_runs.proofs.ThreadPlaces.{part_past, save_small, part_only, effect_never, kept_not, no_site}
use Rattle.thread_runs.proofs.KeptRelation.{keeps_room, keeps_ring}
use Rattle.thread_runs.proofs.StandingCode.{fields_of, work_stands, code_length}
use Rattle.thread_runs.proofs.OutsideSteps.{calm_projection}
use Rattle.thread_runs.proofs.DisplacedSteps.{made_tail}
use Rattle.thread_runs.proofs.WatchedSteps.{phase_outside}
use Rattle.thread_runs.proofs.WatchedRelation.{Ground, Made, stale_next}

-- scheduled alone, a thread makes an effect step and then is a thread of the original, beside the original's memory
pub record GoesOut (r : Threading) (k : ℕ) (w : Watch) (log : List EffectStep) (end : Thread) (m : Bytes) (most : ℕ) : Type 0 where
  pub few : ℕ
  pub bound : few ≤ most
  pub states : List Watch
  pub run : IsWatched r (replicate few k) w states
  pub proper : StandAtStarts r w.threads → LeaveSaved r (replicate few k) w states → IsProperRun r (replicate few k) w states
  pub there : slice_get (last_watch w states).threads k ≡ Some (record { now = end; projected = end })
  pub memory : (x : ℕ) → is_hidden r x ≡ false → (last_watch w states).stale x ≡ false → m x ≡ (last_watch w states).mem x
  pub effect : (last_watch w states).log ≡ log

-- a step of thread k that meets the premises where it leaves the saved bytes of all other threads alone
pub record GoesProperly (r : Threading) (k : ℕ) (w v : Watch) : Type 0 where
  pub step : Watches r k w v
  pub proper : StandAtStarts r w.threads → LeavesSaved r w k step.fields (machine_of w.mem step.one.now) → IsProper r k w v step

-- a thread that goes out after one step more goes out, within one step more
pub one_more : (r : Threading) (k : ℕ) (w v : Watch) (log : List EffectStep) (end : Thread) (m : Bytes) (most : ℕ) → GoesProperly r k w v → GoesOut r k v log end m most
    → GoesOut r k w log end m (suc most)
one_more r k w v log end m most s g = record {
  few = suc g.few;
  bound = omega (arith, g.bound);
  states = v ∷ g.states;
  run = (s.step, g.run);
  proper = λ stand apart. let p = s.proper stand (apart.0 s.step) in (stand, (s.step, p), g.proper p.stand apart.1);
  there = g.there;
  memory = g.memory;
  effect = g.effect;
}

-- a thread that goes out within a bound goes out within a larger one
pub wider : (r : Threading) (k : ℕ) (w : Watch) (log : List EffectStep) (end : Thread) (m : Bytes) (n most : ℕ) → n ≤ most → GoesOut r k w log end m n → GoesOut r k w log end m most
wider r k w log end m n most l g = record { few = g.few; bound = omega (arith, l, g.bound); states = g.states; run = g.run; proper = g.proper; there = g.there; memory = g.memory; effect = g.effect }

-- the thread after a step
abbrev pub after_thread : Threading → Watch → Watched → Machine → Watched
after_thread r w one to = record { now = thread_of to; projected = projection r one w.mem to }

-- a step of the thread is a step of the watched guest, and meets the premises
pub watches : (r : Threading) (k : ℕ) (w : Watch) (one : Watched) (f : Fields) (to : Machine) → slice_get w.threads k ≡ Some one → ThreadStepsBy f (machine_of w.mem one.now) to
    → (is_effect r one.now.rip ≡ true → IsQuietAt r (machine_of w.mem one.projected)) → is_start r.listed (projection r one w.mem to).rip ≡ true
    → (in_event r one.now.rip ≡ false → reads_nothing_of w.stale f (machine_of w.mem one.now) ≡ true)
    → (saves r one.now.rip ≡ true → avoids (is_new r) (saved_from r.ring one.now.core) (saved_len r.ring) ≡ true) → GoesProperly r k w (watched_after r k w one f to)
watches r k w one f to e st quiet start fresh saved = record {
  step = record { one = one; there = e; fields = f; to = to; steps = st; after = refl };
  proper = λ stand apart. record {
    quiet = quiet;
    stand = all_set (λ (t : Watched). is_start r.listed t.projected.rip ≡ true) w.threads k (after_thread r w one to) stand start;
    fresh = fresh;
    saved = saved;
    apart = apart;
  };
}

module _ (r : Threading) (A : AreEntries r.original r.listed) (S : IsThreadSound r) (L : StepLaws) (k : ℕ) where
  -- so does one that is no effect step
  pub calm_watches : (m : Bytes) (w : Watch) (one : Watched) (f : Fields) (to : Machine) → slice_get w.threads k ≡ Some one → ThreadStepsBy f (machine_of w.mem one.now) to → Ground r S m w.stale w.mem one
      → (is_effect r one.now.rip ≡ false) × (projection r one w.mem to ≡ one.projected)
      → (in_event r one.now.rip ≡ false → reads_nothing_of w.stale f (machine_of w.mem one.now) ≡ true)
      → (saves r one.now.rip ≡ true → avoids (is_new r) (saved_from r.ring one.now.core) (saved_len r.ring) ≡ true) → GoesProperly r k w (watched_after r k w one f to)
  calm_watches m w one f to e st B q = watches r k w one f to e st (λ i. absurd (true≢false (sym i ∙ q.0))) (ap (λ (t : Thread). is_start r.listed t.rip) q.1 ∙ B.kept.start)

  -- what a step that is made leaves to rest on
  pub base_after : (m m' : Bytes) (w : Watch) (one : Watched) (f : Fields) (to : Machine) → ThreadStepsBy f (machine_of w.mem one.now) to → Ground r S m w.stale w.mem one
      → Made r S (stale_next r w one f) m m' one w.mem to → is_start r.listed (projection r one w.mem to).rip ≡ true
      → Ground r S m' (watched_after r k w one f to).stale to.mem (after_thread r w one to)
  base_after m m' w one f to st B M start = record {
    alike = M.alike;
    own = M.own;
    other = keeps_code r.patched f (machine_of w.mem one.now) to st B.other;
    room = λ s c b i. keeps_room (mark_at b r.private s.number) (mark_len b) f (machine_of w.mem one.now) to st (B.room s c b i);
    ring_room = λ n e. keeps_ring r n f (machine_of w.mem one.now) to st (B.ring_room n e);
    kept = record { processor = M.processor; words = M.words; start = start; phase = M.phase };
  }

  -- outside already
  there_already : (m : Bytes) (w : Watch) (one : Watched) → slice_get w.threads k ≡ Some one → Ground r S m w.stale w.mem one → is_start r.listed one.now.rip ≡ true → GoesOut r k w w.log one.projected m 0
  there_already m w one e B h =
      let same : one.now ≡ one.projected = phase_outside r A S L w.mem one.now one.projected B.other B.kept.phase h in
      record {
        few = 0;
        bound = omega arith;
        states = [];
        run = tt;
        proper = λ stand apart. stand;
        there = e ∙ ap (λ (t : Thread). Some (record { now = t; projected = one.projected })) same;
        memory = B.alike.bytes;
        effect = refl;
      }

  module _ (site : ThreadSite) (listed : Contains r.sites site) where
    -- in a trampoline, but for the effect step, the projection stays
    pub calm_in : (one : Watched) (m : Bytes) (to : Machine) → is_code_of r site (S.sites site listed) one.now.rip → one.now.rip ≢ work_at site
        → (is_effect r one.now.rip ≡ false) × (projection r one m to ≡ one.projected)
    calm_in one m to c n =
        let b = kept_not r A S L.long site listed one.now.rip c in
        let o = no_site r A S L.long site listed one.now.rip c n in
        (effect_never r A S L.long one.now.rip b o, calm_projection r one m to b o)

    -- where a site's relocated code begins, and behind, rax isn't saved
    pub unsaved : (x : ℕ) → is_code_of r site (S.sites site listed) x → work_at site ≤ x → saves r x ≡ false
    unsaved x c l = part_only r A S L.long site listed x Save c ∙ part_past Save x site (save_small site.event site.when) l

    -- one step after the effect step, and then the rest
    tail_on : (n : ℕ) (m : Bytes) (w : Watch) (one : Watched) (t : Tail) → 0 < left t → left t ≤ suc n → slice_get w.threads k ≡ Some one → Ground r S m w.stale w.mem one
        → InTail (fields_of r A S site listed) (next_of site) (work_at site) t one.projected.core one.projected.rip (machine_of w.mem one.now) → one.now.world ≡ one.projected.world
        → ((v : Watch) (one' : Watched) (t' : Tail) → left t' ≤ n → slice_get v.threads k ≡ Some one' → Ground r S m v.stale v.mem one'
        → InTail (fields_of r A S site listed) (next_of site) (work_at site) t' one'.projected.core one'.projected.rip (machine_of v.mem one'.now) → one'.now.world ≡ one'.projected.world → GoesOut r k v v.log one'.projected m n)
        → GoesOut r k w w.log one.projected m (suc n)
    tail_on n m w one t more l e B h world go =
        let u : Machine = machine_of w.mem one.now in
        let W = work_stands r A S site listed u B.other in
        let N = (L.tails (fields_of r A S site listed) site.entry.addr (next_of site) (work_at site) t one.projected.core one.projected.rip u more W h).0 in
        let f = N.1.0 in
        let to = N.0 in
        let st = N.1.1 in
        let M = made_tail r A S L site listed m w one f to st B t more h world in
        let i = L.tail_inside (fields_of r A S site listed) site.entry.addr (next_of site) (work_at site) t one.projected.core one.projected.rip u more W h in
        let code : is_code_of r site (S.sites site listed) one.now.rip = (omega (arith, i.0), omega (arith, i.1, code_length r A S site listed)) in
        let c = calm_in one w.mem to code (λ e. omega (arith, e, i.0)) in
        let touches = L.tail_touches (fields_of r A S site listed) f site.entry.addr (next_of site) (work_at site) t one.projected.core one.projected.rip u more W h st.at w.stale in
        let start = ap (λ (t : Thread). is_start r.listed t.rip) c.1 ∙ B.kept.start in
        let next = N.2 in
        let B' = base_after m m w one f to st B M start in
        let log : (watched_after r k w one f to).log ≡ w.log = cond-false (is_effect r one.now.rip) _ _ c.0 in
        let there : InTail (fields_of r A S site listed) (next_of site) (work_at site) next.tail (projection r one w.mem to).core (projection r one w.mem to).rip to =
        subst (λ (p : Thread). InTail (fields_of r A S site listed) (next_of site) (work_at site) next.tail p.core p.rip to) (sym c.1) next.there in
        let w' : to.world ≡ (projection r one w.mem to).world = next.world ∙ world ∙ ap (λ (t : Thread). t.world) (sym c.1) in
        one_more r k w (watched_after r k w one f to) w.log one.projected m n
        (calm_watches m w one f to e st B c (λ j. touches.0) (λ j. absurd (true≢false (sym j ∙ unsaved one.now.rip code (omega (arith, i.0))))))
        (subst (λ (z : List EffectStep). GoesOut r k (watched_after r k w one f to) z one.projected m n) log
        (subst (λ (p : Thread). GoesOut r k (watched_after r k w one f to) (watched_after r k w one f to).log p m n) c.1
        (go (watched_after r k w one f to) (after_thread r w one to) next.tail (omega (arith, next.fewer, l)) (set_here w.threads k one (after_thread r w one to) e) B' there w')))

    -- after the effect step
    pub tail_out : (n : ℕ) (m : Bytes) (w : Watch) (one : Watched) (t : Tail) → left t ≤ n → slice_get w.threads k ≡ Some one → Ground r S m w.stale w.mem one
        → InTail (fields_of r A S site listed) (next_of site) (work_at site) t one.projected.core one.projected.rip (machine_of w.mem one.now) → one.now.world ≡ one.projected.world
        → GoesOut r k w w.log one.projected m n
    tail_out n m w one Out l e B h world = wider r k w w.log one.projected m 0 n (omega arith) (there_already m w one e B (ap (is_start r.listed) h.1 ∙ B.kept.start))
    tail_out zero m w one Back l e B h world = absurd (omega (arith, l))
    tail_out zero m w one Jump l e B h world = absurd (omega (arith, l))
    tail_out zero m w one Ecx l e B h world = absurd (omega (arith, l))
    tail_out (suc n) m w one Back l e B h world = tail_on n m w one Back (omega arith) l e B h world (λ v one' t. tail_out n m v one' t)
    tail_out (suc n) m w one Jump l e B h world = tail_on n m w one Jump (omega arith) l e B h world (λ v one' t. tail_out n m v one' t)
    tail_out (suc n) m w one Ecx l e B h world = tail_on n m w one Ecx (omega arith) l e B h world (λ v one' t. tail_out n m v one' t)
