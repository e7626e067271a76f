-- A bare trampoline at work: the event, then the copy, then the jump back.
use Rattle.std.proofs.Common.{◌≡◌, ◌⊎◌, inl, inr, ℕ, ◌+◌, ◌-◌, ◌^◌, ◌<◌, ◌≤◌, Bool, true, false, cond, List, [], ◌∷◌, ◌++◌, length, length-append, map, Some, refl, sym, ap, ◌∙◌, subst, arith, true≢false}
use Rattle.std.proofs.lemmas.Bool.{false_from_ne_true}
use Rattle.pun_base.specs.Memory.{Bytes, without}
use Rattle.cpu_state.specs.declared.state.Core.{Core}
use Rattle.cpu_state.specs.Fixed.{IsFixed}
use Rattle.cpu_state.specs.Processor.{IsProcessorCore}
use Rattle.length_decode.specs.Spelling.{Fields, IsInstruction, spelling}
use Rattle.insn_form.specs.Instruction.{insn_of}
use Rattle.insn_form.specs.Displacing.{falls, displaced_len}
use Rattle.insn_form.specs.Machine.{Machine}
use Rattle.insn_form.proofs.SpellingSlices.{imm_ends}
use Rattle.insn_form.specs.Step.{StepsBy, Step, next_after}
use Rattle.insn_form.specs.Runs.{IsRun, last_of}
use Rattle.insn_form.specs.Laws.{Keeps}
use Rattle.killing.specs.declared.place.Place.{Place}
use Rattle.killing.specs.Places.{cleared}
use Rattle.killing.specs.Table.{kills}
use Rattle.relocate_insn.specs.Relocating.{relocated_code}
use Rattle.relocate_insn.specs.Running.{IsReady, Inside, Works}
use Rattle.relocate_insn.proofs.FixedCode.{SameCode, next_address, fixed_front, fixed_back, fixed_on, run_code}
use Rattle.relocate_insn.proofs.PieceSteps.{gone_to, jump_step}
use Rattle.relocate_insn.proofs.RelocatedLengths.{copy_length}
use Rattle.relocate_insn.specs.Pieces.{jump_code}
use Rattle.event_steps.specs.declared.step.Datum.{Datum}
use Rattle.event_steps.specs.EventSteps.{long}
use Rattle.event_steps.specs.EventSteps.Mode.{Alone}
use Rattle.event_steps.specs.DoneSteps.{Local, is_in, AreLow, AreApart, AreFree, StandsBy}
use Rattle.event_steps.specs.WholeEvents.{Leaves}
use Rattle.event_steps.specs.Interleaved.{Listed}
use Rattle.event_steps.proofs.ListedCode.{code_long}
use Rattle.event_steps.proofs.EventRuns.{events_leave}
use Rattle.event_steps.proofs.InterleavedSteps.{held_now}
use Rattle.trampoline.specs.Events.{bytes_at}
use Rattle.trampoline.specs.Recording.{coming}
use Rattle.trampoline.specs.Trampolines.{work_code, back_if}
use Rattle.trampoline.specs.Running.{Returns}
use Rattle.trampoline.proofs.PrivateData.{none_before, none_behind, laid_apart, laid_low, laid_free, same_without}
use Rattle.trampoline.proofs.JoinedRuns.{run_append, last_append, inside_more, inside_append, join_rip}
use Rattle.bare_events.specs.BareLists.{code_of_list}
use Rattle.bare_events.specs.BareRunning.{meanwhile, AllMeanwhile, IsBare, BareRecorded, BareTrampolinesWork}
use Rattle.bare_events.proofs.KilledRuns.{IsCopied, copied, killed_works}
use Rattle.bare_events.proofs.EventStates.{AreMeanwhile, events_pass}

module _ (p : Place) (e : Listed) (private n : ℕ) (marks : List ℕ → List ℕ → List ℕ) (bare : IsBare p e private n marks) where
  abbrev ds : List Datum
  ds = e.uses

  abbrev event : List ℕ
  event = code_of_list e

  event_long : length event ≡ long e.steps
  event_long = code_long ds e.steps

  module _ (place : ℕ) (tail : List ℕ) (low : place + long e.steps < 2 ^ 31) (set : ℕ → Bool) (bytes : List ℕ) (s t : Machine)
      (ready : IsReady set private n place (event ++ tail) s t) (held : bytes_at t.mem (private + 64) (n - 64) ≡ map Some bytes) where
    abbrev c : Core
    c = t.core

    abbrev l : Local
    l = coming ds c t.mem

    lw : private + n ≤ 0x7FFF0000
    lw = ready.range.low

    same : c ≡ s.core
    same = ap (λ (z : Machine). z.core) ready.seen

    core : IsProcessorCore c
    core = subst IsProcessorCore (sym same) ready.processor

    here : t.rip ≡ place + 0
    here = ready.there ∙ omega arith

    code : IsFixed t.mem place event
    code = fixed_front t.mem place event tail ready.stands

    lie : AreLow ds
    lie = laid_low (private + 64) (private + n) ds lw bare.laid

    apart : AreApart ds c
    apart = laid_apart (private + 64) (private + n) ds c (omega (arith, lw)) bare.laid

    free : AreFree ds c t.mem
    free = laid_free set private n (private + 64) ds c t.mem ready.range (omega arith) bare.laid

    by : StandsBy ds c l t
    by = record { core = refl; stack = refl; hold = held_now ds c t.mem }

    left : (us : List Machine) × Leaves Alone ds c 0 e.steps place l t us
    left = events_leave Alone ds c 0 e.steps place l t bare.steps low here code lie apart free (bare.fits c t.mem) by

    -- a byte beside the data part is none of the event's
    outside : (x : ℕ) → (x < private + 64) ⊎ (private + n ≤ x) → is_in ds c x ≡ false
    outside x (inl o) = none_before (private + 64) (private + n) ds c x (omega (arith, lw)) bare.laid o
    outside x (inr o) = none_behind (private + 64) (private + n) ds c x (omega (arith, lw)) bare.laid o

    -- nor is one outside the set
    unset : (x : ℕ) → set x ≡ false → is_in ds c x ≡ false
    unset x o = false_from_ne_true _ (λ z. true≢false (sym (ready.range.inside x (first z) (second z)) ∙ o))
      where
        first : is_in ds c x ≡ true → private ≤ x
        first z = by_not (λ (o : x < private). true≢false (sym z ∙ outside x (inl (omega (arith, o)))))
          where
            by_not : (x < private → ⊥) → private ≤ x
            by_not f = omega (arith, f)

        second : is_in ds c x ≡ true → x < private + n
        second z = by_not (λ (o : private + n ≤ x). true≢false (sym z ∙ outside x (inr o)))
          where
            by_not : (private + n ≤ x → ⊥) → x < private + n
            by_not f = omega (arith, f)

    hidden : (m : Bytes) → ((x : ℕ) → is_in ds c x ≡ false → m x ≡ t.mem x) → without set m ≡ without set s.mem
    hidden m k = same_without set t.mem m (λ x o. k x (unset x o)) ∙ ap (λ (z : Machine). z.mem) ready.seen

    world : t.world ≡ s.world
    world = ap (λ (z : Machine). z.world) ready.seen

    looks : (us : List Machine) → AreMeanwhile p ds c t us → AllMeanwhile set p s us
    looks [] h = tt
    looks (u ∷ us) h =
        let r = h.0.core ∙ ap (meanwhile p) same in
        let m = hidden u.mem h.0.kept in
        let w = h.0.world ∙ world in
        ((λ j. record { core = r j; rip = 0; mem = m j; world = w j }), looks us h.1)

    recorded : BareRecorded set p e private n place (marks s.core.regs bytes) s t left.0
    recorded =
        let end = left.1 in
        let back = ap (cleared p) end.beside.core ∙ bare.restores c t.mem core ∙ ap (cleared p) same in
        let m = hidden (last_of t left.0).mem end.kept in
        let w = end.world ∙ world in
        record {
          run = end.run;
          few = end.few;
          there = end.there;
          inside = end.inside;
          seen = λ j. record { core = back j; rip = 0; mem = m j; world = w j };
          inner = looks left.0 (events_pass p ds c 0 e.steps place l t left.0 bare.steps low here code lie apart free (bare.fits c t.mem) by bare.little end.run end.many);
          marked = ap (λ (z : Bytes). bytes_at z (private + 64) (n - 64)) end.mem ∙ bare.marked c t.mem bytes core lw held ∙ ap (λ (z : Core). map Some (marks z.regs bytes)) same;
          kept = λ x o. end.kept x (outside x o);
        }

  module _ (f : Fields) (from place k : ℕ) (h : kills p (insn_of f) ≡ true) (is : IsInstruction f)
      (d : displaced_len (insn_of f) (length (spelling f)) from ≡ Some k) (lf : from + length (spelling f) ≤ 0x7FFF0000)
      (lp : place + long e.steps < 0x7FFF0080) where
    abbrev next : ℕ
    next = from + length (spelling f)

    abbrev to : ℕ
    to = place + long e.steps

    abbrev work : List ℕ
    work = relocated_code private f next to

    abbrev tail : List ℕ
    tail = work_code private f next to

    abbrev hi : ℕ
    hi = place + length (event ++ tail)

    module _ (set : ℕ → Bool) (bytes : List ℕ) (s t : Machine) (at : s.rip ≡ from) (ready : IsReady set private n place (event ++ tail) s t)
        (held : bytes_at t.mem (private + 64) (n - 64) ≡ map Some bytes) where
      below : to < 2 ^ 31
      below = omega (arith, lp)

      abbrev us : List Machine
      us = (left place tail below set bytes s t ready held).0

      told : BareRecorded set p e private n place (marks s.core.regs bytes) s t us
      told = recorded place tail below set bytes s t ready held

      abbrev v : Machine
      v = last_of t us

      stands : IsFixed v.mem to tail
      stands =
          fixed_on t.mem v.mem to tail (run_code t.mem t us told.run (λ x a b. refl))
          (subst (λ (z : ℕ). IsFixed t.mem (place + z) tail) event_long (fixed_back t.mem place event tail (omega (arith, event_long, lp)) ready.stands))

      moved : IsCopied (insn_of f)
      moved = copied p (insn_of f) h

      work_long : length work ≡ length (spelling f)
      work_long = ap (λ (z : List ℕ). length z) (moved.copy private f next to) ∙ copy_length f next to is

      some : 0 < length (spelling f)
      some = omega (arith, imm_ends f)

      work_ends : to + length work ≤ hi
      work_ends = omega (arith, event_long, length-append event tail, length-append work (back_if (falls (insn_of f)) (to + length work) next))

      module _ (s' : Machine) (w : Works set (insn_of f) private (next_after from f) to (length work) s' v) (still : Keeps set v w.end) where
        -- the trampoline leads back, and keeps each byte of the set
        abbrev Back : Type 0
        Back = (r : Returns set private to hi s' v) × Keeps set v r.end

        within : Inside (to + 1) hi w.inner
        within = inside_more (to + 1) (to + length work) (to + 1) hi w.inner (omega arith) work_ends w.inside

        few : length w.inner ≤ 1
        few = subst (λ (z : Bool). length w.inner ≤ cond z 1 5) moved.falls_through w.few

        gone : w.end.rip ≡ s'.rip → Back
        gone q = (record { inner = w.inner; end = w.end; run = w.run; few = omega (arith, few); inside = within; seen = join_rip set s' w.end w.seen q; kept = w.kept }, still)

        abbrev states : List Machine
        states = w.inner ++ w.end ∷ []

        jumped : s'.rip ≡ next → w.end.rip ≡ to + length work → Back
        jumped own other =
            let short = is.short in
            let at_back = to + length work in
            let wl = work_long in
            let last = last_append v w.end w.inner in
            let jump : IsFixed v.mem at_back (jump_code at_back next) =
            subst (λ (b : Bool). IsFixed v.mem at_back (back_if b at_back next)) moved.falls_through
            (fixed_back v.mem to work (back_if (falls (insn_of f)) at_back next) (omega (arith, wl, lp)) stands) in
            let codes = subst (λ (z : Machine). SameCode v.mem z.mem) last (run_code v.mem v states w.run (λ x a b. refl)) in
            let step = jump_step w.end at_back next (omega (arith, wl, lp)) (omega (arith, lf)) other (fixed_on v.mem w.end.mem at_back (jump_code at_back next) codes jump) in
            let five : length (back_if (falls (insn_of f)) at_back next) ≡ 5 = ap (λ (z : Bool). length (back_if z at_back next)) moved.falls_through in
            let far : hi ≡ at_back + 5 = omega (arith, five, event_long, length-append event tail, length-append work (back_if (falls (insn_of f)) at_back next)) in (
              record {
                inner = states;
                end = gone_to w.end next;
                run = run_append v states (gone_to w.end next ∷ []) w.run
                    (subst (λ (z : Machine). IsRun Step z (gone_to w.end next ∷ [])) (sym last) (step, tt));
                few = omega (arith, few, length-append w.inner (w.end ∷ []));
                inside = inside_append (to + 1) hi w.inner (w.end ∷ []) within (omega (arith, other, some, wl), omega (arith, other, far), tt);
                seen = join_rip set s' (gone_to w.end next) w.seen (sym own);
                kept = w.kept;
              },
              still,
            )

        arrive : (w.end.rip ≡ s'.rip) ⊎ ((falls (insn_of f) ≡ true) × (s'.rip ≡ next_after from f) × (w.end.rip ≡ to + length work)) → Back
        arrive (inl q) = gone q
        arrive (inr q) = jumped (q.1 ∙ next_address from (length (spelling f)) (omega (arith, lf))) q.2

      returns_to : (s' : Machine) → StepsBy set f s s' → (r : Returns set private to hi s' v) × Keeps set v r.end
      returns_to s' st =
          let w = killed_works p f from to private k h is d lf lp set s s' v at st
          (record { seen = told.seen; there = told.there; stands = fixed_front v.mem to work (back_if (falls (insn_of f)) (to + length work) next) stands }) in
          arrive s' w.0 w.1 w.0.arrives

-- trampolines with such an event work
pub bare_works : BareTrampolinesWork
bare_works p e private n marks bare f from place k h is d lf lp set bytes s t at ready held = (
  us p e private n marks bare f from place k h is d lf lp set bytes s t at ready held,
  told p e private n marks bare f from place k h is d lf lp set bytes s t at ready held,
  returns_to p e private n marks bare f from place k h is d lf lp set bytes s t at ready held,
)
