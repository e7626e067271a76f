-- The effect step of a displaced instruction, and the trampoline's steps after it, keep the relation.
use Rattle.std.proofs.Common.{◌≡◌, inl, inr, ℕ, ◌+◌, ◌<◌, ◌≤◌, Bool, true, false, not, ◌&&◌, cond, eqb, List, [], ◌∷◌, ◌++◌, length, Option, Some, Ok, refl, sym, ap, ap₂, ◌∙◌, subst, arith}
use Rattle.std.specs.Prelude.{Contains}
use Rattle.std.proofs.lemmas.Bool.{and_parts, and_left, and_right, or_right, cond-true, cond-false, eqb-true, eq-eqb, false_from_ne_true, false≢true}
use Rattle.std.proofs.lemmas.List.{append-nil}
use Rattle.pun_base.specs.Memory.{Bytes}
use Rattle.pun_base.specs.declared.action.Base.{Base}
use Rattle.length_decode.specs.Spelling.{Fields, spelling}
use Rattle.cpu_state.specs.Fixed.{IsFixed}
use Rattle.cpu_state.specs.Processor.{IsProcessorCore, GiveWords}
use Rattle.insn_form.specs.declared.form.Insn.{Insn}
use Rattle.insn_form.specs.Instruction.{insn_of}
use Rattle.insn_form.specs.Resolving.{resolved_insn}
use Rattle.insn_form.specs.Machine.{Machine, leaves}
use Rattle.insn_form.specs.Step.{next_after}
use Rattle.insn_form.specs.Touched.{reads_none, writes_none}
use Rattle.insn_form.specs.Processor.{IsProcessorState}
use Rattle.event_steps.specs.ThreadSteps.{is_locked_xadd, thread_task, thread_act, ThreadStepsBy}
use Rattle.insn_form.specs.Alike.{AreAlike, writes_at, still}
use Rattle.insn_form.proofs.UniqueSteps.{one_instruction}
use Rattle.insn_form.proofs.TouchedMemory.{read_and_write}
use Rattle.event_steps.proofs.Acting.{acting_after, acting_unwritten}
use Rattle.relocate_insn.proofs.FixedCode.{next_address, fixed_stands, fixed_on}
use Rattle.start_entries.specs.Standing.{AreEntries}
use Rattle.image_runs.specs.Listed.{is_start, is_listed_byte}
use Rattle.thread_runs.specs.Guest.{Thread, machine_of, thread_of}
use Rattle.thread_runs.specs.ThreadCode.{Marks, Keeps, thread_work}
use Rattle.thread_runs.specs.Ring.{ringing_at, claimed_at}
use Rattle.thread_runs.specs.Threading.Part.{Whole, Save, Marked, Unfilled}
use Rattle.thread_runs.specs.Work.{Tail, left, InTail, IsWork, AtWork, Worked}
use Rattle.thread_runs.specs.Work.Tail.{Out, Back, Jump, Ecx}
use Rattle.thread_runs.specs.Threading.{ThreadSite, Threading, next_of, work_at, is_new, is_hidden, is_kept, in_event, saves, is_keeping, is_part, is_met_by, is_counted, is_unfilled, relocated_at, is_code_of, IsThreadSound}
use Rattle.thread_runs.specs.Watching.{Watched, Watch, leads_to, led_on, behind, is_effect, projection, stale_after}
use Rattle.thread_runs.specs.Premises.{IsQuietAt, reads_nothing_of}
use Rattle.thread_runs.specs.StepLaws.{StepLaws, writes_of}
use Rattle.thread_runs.proofs.ThreadPlaces.{part_only, kept_not, no_site, site_here, effect_there, effect_never, part_in, work_in, part_is, part_true, part_past, part_small, save_small, mark_from, mark_end, mark_some, start_old, part_never, old_unclaimed, claimed_here, ringing_here, keeping_is, behind_event}
use Rattle.event_steps.proofs.ThreadSteps.{keeps_code}
use Rattle.thread_runs.proofs.StandingCode.{fields_of, site_stands, work_stands, code_length, mark_kept, position_kept, slot_kept}
use Rattle.thread_runs.proofs.OutsideSteps.{alike_on, none_more, uncounted, none_even, calm_projection, start_uncounted}
use Rattle.thread_runs.proofs.WatchedRelation.{Phase, ThreadKept, marked, position_in, slot_in, Ground, Made}

-- tests that imply each other are equal
same_test : (b c : Bool) → (b ≡ true → c ≡ true) → (c ≡ true → b ≡ true) → b ≡ c
same_test true c f g = sym (f refl)
same_test false true f g = absurd (false≢true (g refl))
same_test false false f g = refl

module _ (r : Threading) (A : AreEntries r.original r.listed) (S : IsThreadSound r) (L : StepLaws) where
  module _ (site : ThreadSite) (listed : Contains r.sites site) where
    abbrev F : Fields
    F = fields_of r A S site listed

    abbrev nx : ℕ
    nx = next_of site

    abbrev at : ℕ
    at = work_at site

    -- a thread after its effect step is in a phase: outside, or on its way out
    pub landed : (k : Tail) (p : Thread) (to : Machine) → InTail F nx at k p.core p.rip to → to.world ≡ p.world → is_start r.listed p.rip ≡ true → Phase r S to.mem (thread_of to) p
    landed Out p to h w start = inl (record { same = λ i. record { core = h.0 i; rip = h.1 i; world = w i }; start = ap (is_start r.listed) h.1 ∙ start })
    landed Back p to h w start = inr (inr (inr (record { site = site; listed = listed; tail = Back; more = omega arith; there = h; world = w })))
    landed Jump p to h w start = inr (inr (inr (record { site = site; listed = listed; tail = Jump; more = omega arith; there = h; world = w })))
    landed Ecx p to h w start = inr (inr (inr (record { site = site; listed = listed; tail = Ecx; more = omega arith; there = h; world = w })))

    -- past the first address of the relocated code nothing is counted
    pub past_uncounted : (x : ℕ) → at < x → x < at + length (thread_work F nx at) → (t : ThreadSite) → Contains r.sites t → is_part Marked x t ≡ false
    past_uncounted x a b t h = false_from_ne_true (is_part Marked x t) (λ p.
        let q = part_is Marked x t p in
        let same : t ≡ site = S.apart t site h listed x (part_in r A S L.long Marked t h x p) (omega (arith, a), omega (arith, b, code_length r A S site listed)) in
        let z : work_at t ≡ work_at site = ap work_at same in
        let small = part_small Marked t.event t.when in
        omega (arith, q.1, a, z, small))

    -- where a thread stands after its effect step nothing is counted
    pub landed_uncounted : (k : Tail) (p : Thread) (to : Machine) → IsWork F site.entry.addr nx at to → InTail F nx at k p.core p.rip to → is_start r.listed p.rip ≡ true → (t : ThreadSite) → Contains r.sites t → is_part Marked to.rip t ≡ false
    landed_uncounted Out p to W h start t k = start_uncounted r A S L to.rip t k (ap (is_start r.listed) h.1 ∙ start)
    landed_uncounted Back p to W h start t k = let q = L.tail_inside F site.entry.addr nx at Back p.core p.rip to (omega arith) W h in past_uncounted to.rip q.0 q.1 t k
    landed_uncounted Jump p to W h start t k = let q = L.tail_inside F site.entry.addr nx at Jump p.core p.rip to (omega arith) W h in past_uncounted to.rip q.0 q.1 t k
    landed_uncounted Ecx p to W h start t k = let q = L.tail_inside F site.entry.addr nx at Ecx p.core p.rip to (omega arith) W h in past_uncounted to.rip q.0 q.1 t k

    -- nor is a claim to come there, or a slot to be filled
    pub past_unringing : (x : ℕ) → at < x → x < at + length (thread_work F nx at) → (is_unfilled r x ≡ false) × (claimed_at r.sites x ≡ [])
    past_unringing x a b =
        let c : is_code_of r site (S.sites site listed) x = (omega (arith, a), omega (arith, b, code_length r A S site listed)) in (
          (behind_event r A S L.long site listed x c (omega (arith, a))).0,
          claimed_here r A S L.long site listed x c ∙ cond-false (is_keeping site.event && is_part Marked x site) _ _ (and_right (is_keeping site.event) (is_part Marked x site) (past_uncounted x a b site listed)),
        )

    -- where a thread stands after its effect step it is so, too
    pub landed_unringing : (k : Tail) (p : Thread) (to : Machine) → IsWork F site.entry.addr nx at to → InTail F nx at k p.core p.rip to → is_start r.listed p.rip ≡ true → (is_unfilled r to.rip ≡ false) × (claimed_at r.sites to.rip ≡ [])
    landed_unringing Out p to W h start =
        let old = start_old r A S L.long to.rip (ap (is_start r.listed) h.1 ∙ start) in (part_never r A S L.long to.rip Unfilled old, old_unclaimed r A S L.long to.rip old)
    landed_unringing Back p to W h start = let q = L.tail_inside F site.entry.addr nx at Back p.core p.rip to (omega arith) W h in past_unringing to.rip q.0 q.1
    landed_unringing Jump p to W h start = let q = L.tail_inside F site.entry.addr nx at Jump p.core p.rip to (omega arith) W h in past_unringing to.rip q.0 q.1
    landed_unringing Ecx p to W h start = let q = L.tail_inside F site.entry.addr nx at Ecx p.core p.rip to (omega arith) W h in past_unringing to.rip q.0 q.1

    -- where a thread is at a site's relocated code, and its projection is equal but at the site, both are at the instruction's work
    pub at_work : (M : Bytes) (w : Watch) (one : Watched) → Ground r S M w.stale w.mem one → one.now.rip ≡ at → one.projected.rip ≡ site.entry.addr → one.now.core ≡ one.projected.core
        → one.now.world ≡ one.projected.world → reads_nothing_of w.stale F (machine_of M one.projected) ≡ true → IsQuietAt r (machine_of w.mem one.projected)
        → AtWork (is_hidden r) w.stale F nx at (machine_of M one.projected) (machine_of w.mem one.now)
    at_work M w one R here start core world reads quiet =
        let s : Machine = machine_of M one.projected in
        let K = S.sites site listed in
        let W0 = work_stands r A S site listed (machine_of w.mem one.now) R.other in
        let low = W0.low in
        let e : next_after s.rip F ≡ nx = ap (λ z. next_after z F) start ∙ next_address site.entry.addr (length (spelling F)) (omega (arith, low, W0.behind)) ∙ sym W0.behind in
        let stands : IsFixed r.original s.rip (spelling F) = subst (λ (z : ℕ). IsFixed r.original z (spelling F)) (sym start) (site_stands r A S site listed) in
        record {
          here = record { spelled = K.spelled; here = fixed_stands M s.rip (spelling F) (fixed_on r.original M s.rip (spelling F) R.own stands) };
          there = here;
          work = subst (λ (z : ℕ). IsWork F z nx at (machine_of w.mem one.now)) (sym start) W0;
          alike = record { core = sym core; world = sym world; mem = R.alike };
          apart = subst (λ (z : ℕ). leaves (is_hidden r) (thread_task F z) z s ≡ true) e (quiet.leaves F K.spelled (fixed_stands r.original s.rip (spelling F) stands));
          fresh = subst (λ (z : ℕ). reads_none w.stale (thread_task F z) z s ≡ true) e reads;
        }

    module _ (M : Bytes) (w : Watch) (one : Watched) (f : Fields) (to : Machine)
        (steps : ThreadStepsBy f (machine_of w.mem one.now) to) (R : Ground r S M w.stale w.mem one) where
      abbrev u : Machine
      u = machine_of w.mem one.now

      abbrev x0 : ℕ
      x0 = one.now.rip

      abbrev stale' : ℕ → Bool
      stale' = stale_after r w.stale one f u

      -- the thread's own relation to its projection holds before the step
      kept : ThreadKept r S w.mem one
      kept = R.kept

      -- in the relocated code staleness goes with what is written
      stale_is : is_code_of r site (S.sites site listed) x0 → at ≤ x0 → (x : ℕ) → stale' x ≡ still w.stale (writes_at (thread_task f (next_after x0 f)) (next_after x0 f) u) x
      stale_is c l x = cond-false (saves r x0) _ _ (part_only r A S L.long site listed x0 Save c ∙ part_past Save x0 site (save_small site.event site.when) l)
          ∙ cond-false (in_event r x0) _ _ (part_only r A S L.long site listed x0 Whole c ∙ part_past Whole x0 site (omega arith) l)

      -- a step of a thread after its effect step leaves what is due: the original makes no step
      pub made_tail : (k : Tail) → 0 < left k → InTail F nx at k one.projected.core one.projected.rip u → one.now.world ≡ one.projected.world → Made r S stale' M M one w.mem to
      made_tail k more h world =
          let W = work_stands r A S site listed u R.other in
          let N = (L.tails F site.entry.addr nx at k one.projected.core one.projected.rip u more W h).1 to (f, steps) in
          let q = L.tail_inside F site.entry.addr nx at k one.projected.core one.projected.rip u more W h in
          let c : is_code_of r site (S.sites site listed) x0 = (omega (arith, q.0), omega (arith, q.1, code_length r A S site listed)) in
          let calm = kept_not r A S L.long site listed x0 c in
          let none = no_site r A S L.long site listed x0 c (λ e. omega (arith, e, q.0)) in
          let eff = effect_never r A S L.long x0 calm none in
          let p = calm_projection r one w.mem to calm none in
          let W' = work_stands r A S site listed to (keeps_code r.patched f u to steps R.other) in
          let stays : (x : ℕ) → stale' x ≡ w.stale x = λ x. stale_is c (omega (arith, q.0)) x
          ∙ ap (λ b. w.stale x && not (not b)) (L.tail_touches F f site.entry.addr nx at k one.projected.core one.projected.rip u more W h steps.at (λ y. eqb x y)).1 ∙ and_true (w.stale x) in
          record {
            went = inl (eff, refl, p);
            alike = subst (λ (z : Bytes). AreAlike (is_hidden r) stale' M z) (sym N.mem) (alike_on (is_hidden r) w.stale stale' M w.mem stays R.alike);
            own = R.own;
            counted = λ t h' b v. record {
              more = 0;
              number = none_more b (marked r b t to.mem) (marked r b t w.mem) (mark_kept r A S t h' b v w.mem to.mem (λ x e. ap (λ (z : Bytes). z x) N.mem));
              even = none_even t (is_effect r x0) one.projected (projection r one w.mem to) x0 to.rip (and_left (is_effect r x0) (eqb one.projected.rip t.entry.addr) eff)
                  (landed_uncounted N.tail one.projected to W' N.there kept.start t h') (past_uncounted x0 q.0 q.1 t h');
            };
            ring = λ n i. (let B = behind_event r A S L.long site listed x0 c (omega (arith, q.0)) in
                let Z = landed_unringing N.tail one.projected to W' N.there kept.start in
                inl (record {
                  position = ap (λ (z : Bytes). position_in r z) N.mem;
                  slots = λ j l. ap (λ (z : Bytes). slot_in r z j) N.mem;
                  free = B.0;
                  free' = Z.0;
                  quiet = B.1;
                  dry = B.2;
                  even = ap (λ b. cond b (ringing_at r.sites one.projected.rip) [] ++ claimed_at r.sites to.rip) eff ∙ Z.1 ∙ sym (past_unringing x0 q.0 q.1).1;
                }));
            processor = subst (λ (t : Thread). IsProcessorCore t.core) (sym p) kept.processor;
            words = subst (λ (t : Thread). GiveWords t.world) (sym p) kept.words;
            phase = subst (λ (t : Thread). Phase r S to.mem (thread_of to) t) (sym p) (landed N.tail one.projected to N.there (N.world ∙ world) kept.start);
          }
        where
          and_true : (b : Bool) → (b && true) ≡ b
          and_true true = refl
          and_true false = refl

      -- what the effect step is beside the instruction's own
      pub record Told : Type 0 where
        pub to' : Machine
        pub worked : Worked (is_hidden r) w.stale F nx at (machine_of M one.projected) u to' to
        pub code : is_code_of r site (S.sites site listed) x0
        pub effect : is_effect r x0 ≡ true
        pub thread : projection r one w.mem to ≡ thread_of to'
        pub mem : AreAlike (is_hidden r) stale' to'.mem to.mem
        pub processor : IsProcessorState to'
        pub stays : (x : ℕ) → is_new r x ≡ true → to.mem x ≡ w.mem x

      -- where the step that is made reads no stale byte, neither does the instruction's own
      pub reads_too : x0 ≡ at → one.projected.rip ≡ site.entry.addr → one.now.core ≡ one.projected.core → one.now.world ≡ one.projected.world
          → (in_event r x0 ≡ false → reads_nothing_of w.stale f u ≡ true) → reads_nothing_of w.stale F (machine_of M one.projected) ≡ true
      reads_too here start core world fresh =
          let s : Machine = machine_of M one.projected in
          let W : IsWork F s.rip nx at u = subst (λ (z : ℕ). IsWork F z nx at u) (sym start) (work_stands r A S site listed u R.other) in
          let c : is_code_of r site (S.sites site listed) x0 = work_in r A S L.long site listed x0 here in
          let out : in_event r x0 ≡ false = part_only r A S L.long site listed x0 Whole c ∙ part_past Whole x0 site (omega arith) (omega (arith, here)) in
          sym (L.touches F f nx at s u W here core world steps.at w.stale).0 ∙ fresh out

      -- the step at the relocated code's first byte is an effect step beside the instruction's own
      pub effect_told : x0 ≡ at → one.projected.rip ≡ site.entry.addr → (work : AtWork (is_hidden r) w.stale F nx at (machine_of M one.projected) u) → Told
      effect_told here start work =
          let s : Machine = machine_of M one.projected in
          let K = S.sites site listed in
          let low = work.work.low in
          let e : next_after s.rip F ≡ nx = next_address s.rip (length (spelling F)) (omega (arith, low, work.work.behind)) ∙ sym work.work.behind in
          let c : is_code_of r site K x0 = work_in r A S L.long site listed x0 here in
          let X = (L.effects (is_hidden r) w.stale F nx at s u work).1 to (f, steps) in
          let s' = X.0 in
          let g : X.1.fields ≡ f = one_instruction u X.1.fields f X.1.other.at steps.at in
          let mem : AreAlike (is_hidden r) (still w.stale (writes_at (thread_task f (next_after x0 f)) (next_after x0 f) u)) s'.mem to.mem =
          subst (λ (z : Fields). AreAlike (is_hidden r) (still w.stale (writes_at (thread_task z (next_after x0 z)) (next_after x0 z) u)) s'.mem to.mem) g X.1.mem in
          let calm = kept_not r A S L.long site listed x0 c in
          let found : relocated_at r.sites x0 ≡ Some site = ap (relocated_at r.sites) here ∙ site_here r A S L.long site listed in
          let p1 : projection r one w.mem to ≡ led_on (Some (insn_of F)) nx one.projected w.mem to =
          cond-false (is_kept r x0) (thread_of to) (behind (relocated_at r.sites x0) one w.mem to) calm ∙ ap (λ (o : Option ThreadSite). behind o one w.mem to) found
          ∙ ap (λ (o : Option Insn). led_on o nx one.projected w.mem to) K.form in
          let acts : thread_act F nx s ≡ Ok s' = subst (λ (z : ℕ). thread_act F z s ≡ Ok s') e X.1.own.acts in
          let s2 : Machine = machine_of w.mem one.projected in
          let Y = (L.act (is_hidden r) w.stale (is_locked_xadd F) (thread_task F nx) nx nx s s2 (inl refl) (record { core = refl; world = refl; mem = R.alike }) work.apart work.fresh).0 s' acts in
          let rip : s'.rip ≡ leads_to (resolved_insn nx (insn_of F)) nx one.projected.core w.mem = Y.2.own ∙ sym Y.2.other ∙ L.leads F nx s2 Y.0 Y.1 in
          let p2 : led_on (Some (insn_of F)) nx one.projected w.mem to ≡ thread_of s' = λ i. record { core = sym X.1.core i; rip = sym rip i; world = sym X.1.world i } in
          let T = L.touches F f nx at s u work.work here (sym work.alike.core) (sym work.alike.world) steps.at in
          let own : writes_none (is_hidden r) (thread_task F nx) nx s ≡ true = (and_parts (reads_none (is_hidden r) (thread_task F nx) nx s) (writes_none (is_hidden r) (thread_task F nx) nx s)
          (sym (read_and_write (is_hidden r) (thread_task F nx) nx s) ∙ work.apart)).1 in
          let writes : writes_of (is_hidden r) f u ≡ true = (T (is_hidden r)).1 ∙ subst (λ (z : ℕ). writes_none (is_hidden r) (thread_task F z) z s ≡ true) (sym e) own in
          record {
            to' = s';
            worked = X.1;
            code = c;
            effect = effect_there r A S L.long x0 site calm found;
            thread = p1 ∙ p2;
            mem = alike_on (is_hidden r) (still w.stale (writes_at (thread_task f (next_after x0 f)) (next_after x0 f) u)) stale' s'.mem to.mem (stale_is c (omega (arith, here))) mem;
            processor = acting_after (is_locked_xadd F) (thread_task F nx) nx s s' acts (omega (arith, low)) (record { core = kept.processor; world = kept.words });
            stays = λ x n. acting_unwritten (is_locked_xadd f) (thread_task f (next_after x0 f)) (next_after x0 f) u to steps.acts (is_hidden r) writes x (or_right (is_listed_byte r.listed x) (is_new r x) n);
          }

      -- an effect step that leads to a listed start leaves what is due: the original makes the instruction's own step
      pub made_effect : x0 ≡ at → one.projected.rip ≡ site.entry.addr → Told → is_start r.listed (projection r one w.mem to).rip ≡ true → (m' : Bytes) × Made r S stale' M m' one w.mem to
      made_effect here start T stand =
          let s' = T.to' in
          let X = T.worked in
          let z = T.thread in
          let start' : is_start r.listed s'.rip ≡ true = ap (λ (t : Thread). is_start r.listed t.rip) (sym z) ∙ stand in
          let W' = work_stands r A S site listed to (keeps_code r.patched f u to steps R.other) in (
            s'.mem,
            record {
              went = inr (record { is = T.effect; to = s'; steps = (F, X.own); mem = refl; thread = z });
              alike = T.mem;
              own = keeps_code r.original F (machine_of M one.projected) s' X.own R.own;
              counted = λ t h b v. record {
                more = 0;
                number = none_more b (marked r b t to.mem) (marked r b t w.mem) (mark_kept r A S t h b v w.mem to.mem T.stays);
                even = evenly t h b v T.effect (landed_uncounted X.tail (thread_of s') to W' X.there start' t h);
              };
              ring = λ n i. (let B = behind_event r A S L.long site listed x0 T.code (omega (arith, here)) in
                  let Z = landed_unringing X.tail (thread_of s') to W' X.there start' in
                  inl (record {
                    position = position_kept r A S n i w.mem to.mem T.stays;
                    slots = slot_kept r A S n i w.mem to.mem T.stays;
                    free = B.0;
                    free' = Z.0;
                    quiet = B.1;
                    dry = B.2;
                    even = ap₂ (λ b (l : List ℕ). cond b (ringing_at r.sites one.projected.rip) [] ++ l) T.effect Z.1 ∙ append-nil (ringing_at r.sites one.projected.rip)
                        ∙ ringing_here r A S L.long site listed one.projected.rip (sym start) ∙ ringing (is_keeping site.event) refl ∙ sym (claimed_here r A S L.long site listed x0 T.code);
                  }));
              processor = subst (λ (t : Thread). IsProcessorCore t.core) (sym z) T.processor.core;
              words = subst (λ (t : Thread). GiveWords t.world) (sym z) T.processor.world;
              phase = subst (λ (t : Thread). Phase r S to.mem (thread_of to) t) (sym z) (landed X.tail (thread_of s') to X.there (sym X.world) start');
            },
          )
        where
          -- at the relocated code a claim is to come to its effect step, where the site keeps a ring
          ringing : (b : Bool) → is_keeping site.event ≡ b → cond b (site.number ∷ []) [] ≡ cond (b && is_part Marked x0 site) (site.number ∷ []) []
          ringing true e =
              let k = keeping_is r A S L.long site.event e in
              let from = mark_from site.event site.when in
              let end = mark_end site.event site.when (mark_some site.event site.when (Keeps k.0) k.1) in
              sym (cond-true (is_part Marked x0 site) (site.number ∷ []) [] (part_true Marked x0 site (omega (arith, here, from)) (omega (arith, here, end))))
          ringing false e = refl

          evenly : (t : ThreadSite) → Contains r.sites t → (b : Base) → t.event ≡ Some (Marks b) → is_effect r x0 ≡ true → is_part Marked to.rip t ≡ false
              → ◌≡◌ {A = ℕ} (cond (is_effect r x0 && (is_met_by t one.projected.core && eqb one.projected.rip t.entry.addr)) 1 0 + cond (is_counted t to.rip (projection r one w.mem to).core) 1 0)
              (cond (is_counted t x0 one.projected.core) 1 0 + 0)
          evenly t h d v eff none =
              let same : eqb one.projected.rip t.entry.addr ≡ is_part Marked x0 t = same_test _ _
              (λ b. let q = eqb-true one.projected.rip t.entry.addr b in
              let y : t ≡ site = S.once t site h listed (sym q ∙ start) in let pl : work_at t ≡ work_at site = ap work_at y in
              let g = mark_from t.event t.when in let k = mark_end t.event t.when (mark_some t.event t.when (Marks d) v) in
              part_true Marked x0 t (omega (arith, pl, here, g)) (omega (arith, pl, here, k)))
              (λ b. let y : t ≡ site = S.apart t site h listed x0 (part_in r A S L.long Marked t h x0 b) (work_in r A S L.long site listed x0 here) in
              eq-eqb one.projected.rip t.entry.addr (start ∙ sym (ap (λ (v : ThreadSite). v.entry.addr) y))) in
              let met = is_met_by t one.projected.core in
              let b1 : ◌≡◌ {A = ℕ} (cond (is_effect r x0 && (met && eqb one.projected.rip t.entry.addr)) 1 0) (cond (is_counted t x0 one.projected.core) 1 0) =
              ap₂ (λ b c. cond (b && (met && c)) 1 0) eff same in
              let b2 : ◌≡◌ {A = ℕ} (cond (is_counted t to.rip (projection r one w.mem to).core) 1 0) 0 = cond-false (is_counted t to.rip (projection r one w.mem to).core) 1 0 (uncounted t to.rip (projection r one w.mem to).core none) in
              omega (arith, b1, b2)
