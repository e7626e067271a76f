-- Events of threads restore registers and flags, whatever others do in between.
use Rattle.std.proofs.Common.{◌≡◌, ◌≢◌, inl, inr, ℕ, zero, suc, ◌+◌, ◌*◌, ◌%◌, ◌^◌, ◌<◌, ◌≤◌, Bool, true, false, cond, List, [], ◌∷◌, ◌++◌, length, set, refl, sym, ap, ◌∙◌, subst, arith}
use Rattle.std.specs.Prelude.{slice_index}
use Rattle.std.proofs.lemmas.List.{get_or-set_same, get_or-set_other, length-set, append_assoc}
use Rattle.pun_base.specs.Memory.{Bytes}
use Rattle.pun_base.specs.declared.action.Base.{Base}
use Rattle.pun_base.specs.declared.action.Base.TheVariants as base
use Rattle.pun_base.specs.declared.action.Comparison.{Comparison}
use Rattle.cpu_alu.specs.declared.flag_word.Flags.{Flags}
use Rattle.cpu_alu.specs.declared.operation.Width.TheVariants.{W64}
use Rattle.cpu_alu.specs.declared.operation.AluOp.TheVariants.{Sub, Inc}
use Rattle.cpu_alu.specs.Arithmetic.{arithmetic}
use Rattle.cpu_state.specs.declared.state.Core.{Core}
use Rattle.cpu_state.specs.Processor.{IsProcessorCore}
use Rattle.insn_form.specs.declared.form.Op.TheVariants.{Lahf, Sahf}
use Rattle.insn_form.specs.Operands.{reg, with_reg, with_flags, rax}
use Rattle.insn_form.specs.Conditions.{is_met}
use Rattle.insn_form.specs.Meaning.{effect}
use Rattle.insn_form.specs.FlagsBack.{core_after, add_al, seto_al, kept_in_ax}
use Rattle.event_steps.proofs.FlagsInAx.{cut, all_back}
use Rattle.event_steps.specs.declared.step.Place.{Place}
use Rattle.event_steps.specs.declared.step.Datum.{Datum}
use Rattle.event_steps.specs.declared.step.EventStep.{EventStep}
use Rattle.event_steps.specs.EventSteps.{datum_of}
use Rattle.event_steps.specs.DoneSteps.{is_writing, Local, started, done, ended}
use Rattle.event_steps.specs.MadeSteps.{skipped}
use Rattle.event_steps.specs.declared.step.Place.TheVariants.{At, Below}
use Rattle.event_steps.specs.declared.step.EventStep.TheVariants.{Cover, CountUp, Store, Load, IntoAh, IntoAl, FromAl, FromAh, Compare, CompareAt, SkipIf}
use Rattle.trampoline.specs.Recording.{AgreeBut, coming}
use Rattle.event_steps.specs.Interleaved.{Listed, numbers_in, IsKeptAt, AreKept, Meanwhile, Reaches}
use Rattle.thread_runs.specs.ThreadLists.{eight_below, comparing_step, checks, saving_thread_event, Restores, ThreadEventsRestore}
use Rattle.trampoline.specs.EventLists.{marked_datum, marking_step, cover_event}

-- a thread that is past an event has made the step that it stood in front of
pub record Past (ds : List Datum) (s : EventStep) (ss : List EventStep) (l l' : Local) : Type 0 where
  pub at : Local
  pub same : Meanwhile ds l at
  pub left : Reaches ds (skipped s at.core) ss [] (done s at) l'

pub past : (ds : List Datum) (s : EventStep) (ss : List EventStep) (l l' : Local) → Reaches ds 0 (s ∷ ss) [] l l' → Past ds s ss l l'
past ds s ss l l' (inl h) = absurd (nothing h.0)
  where
    nothing : [] ≡ s ∷ ss → ⊥
    nothing e = absurd cc
past ds s ss l l' (inr h) = record { at = h.0; same = h.1; left = h.2 }

-- a first datum below rsp stays
pub first_kept : (d n : ℕ) (ds : List Datum) (xs ys : List ℕ) → AreKept (record { place = Below d; size = n; number = true } ∷ ds) xs ys → slice_index ys 0 ≡ slice_index xs 0
first_kept d n ds [] ys h = absurd h
first_kept d n ds (x ∷ xs) [] h = absurd h
first_kept d n ds (x ∷ xs) (y ∷ ys) h = h.0

pub first_there : (d : Datum) (ds : List Datum) (xs ys : List ℕ) → AreKept (d ∷ ds) xs ys → 0 < length ys
first_there d ds [] ys h = absurd h
first_there d ds (x ∷ xs) [] h = absurd h
first_there d ds (x ∷ xs) (y ∷ ys) h = omega arith

-- rax saved in a first datum, which stays while others step, and the flags in ax: a thread in front of steps
pub record InAx (us : List Datum) (c : Core) (ss : List EventStep) (l' : Local) : Type 0 where
  pub at : Local
  pub core : at.core ≡ kept_in_ax c
  pub first : slice_index at.held 0 ≡ reg c rax % 2 ^ 64
  pub left : Reaches us 0 ss [] at l'

module _ (us : List Datum) (own : (xs ys : List ℕ) → AreKept us xs ys → slice_index ys 0 ≡ slice_index xs 0) (c : Core) (l : Local) where
  -- the steps that save so
  pub saves_in_ax : ((xs ys : List ℕ) → AreKept us xs ys → 0 < length ys) → (ss : List EventStep) (began : List ℕ) → Reaches us 0 (Store 0 ∷ IntoAh ∷ IntoAl ∷ ss) [] (started c began) l → InAx us c ss l
  saves_in_ax there ss began r =
      let p0 = past us (Store 0) (IntoAh ∷ IntoAl ∷ ss) (started c began) l r in
      let p1 = past us IntoAh (IntoAl ∷ ss) (done (Store 0) p0.at) l p0.left in
      let p2 = past us IntoAl ss (done IntoAh p1.at) l p1.left in
      record {
        at = done IntoAl p2.at;
        core = ap (core_after seto_al 0) (p2.same.0 ∙ ap (core_after Lahf 0) (p1.same.0 ∙ p0.same.0));
        first = own p1.at.held p2.at.held p2.same.2 ∙ own (done (Store 0) p0.at).held p1.at.held p1.same.2
            ∙ get_or-set_same p0.at.held 0 (reg p0.at.core rax % 2 ^ 64) 0 (there began p0.at.held p0.same.2) ∙ ap (λ z. reg z rax % 2 ^ 64) p0.same.0;
        left = p2.left;
      }

  -- and those that bring back flags and rax, whatever the flags have become but for the bits that no operation changes
  pub gives_back : IsProcessorCore c → (m : Local) (f : Flags) → f.rest ≡ c.flags.rest → m.core ≡ with_flags (kept_in_ax c) f → slice_index m.held 0 ≡ reg c rax % 2 ^ 64
      → Reaches us 0 (FromAl ∷ FromAh ∷ Load 0 ∷ []) [] m l → l.core ≡ c
  gives_back h m f rest k q r =
      let p1 = past us FromAl (FromAh ∷ Load 0 ∷ []) m l r in
      let p2 = past us FromAh (Load 0 ∷ []) (done FromAl p1.at) l p1.left in
      let p3 = past us (Load 0) [] (done FromAh p2.at) l p2.left in
      let k3 : p3.at.core ≡ core_after Sahf 0 (core_after add_al 0 (with_flags (kept_in_ax c) f)) = p3.same.0 ∙ ap (core_after Sahf 0) (p2.same.0 ∙ ap (core_after add_al 0) (p1.same.0 ∙ k)) in
      let x : slice_index p3.at.held 0 ≡ reg c rax % 2 ^ 64 = own p2.at.held p3.at.held p3.same.2 ∙ own p1.at.held p2.at.held p2.same.2 ∙ own m.held p1.at.held p1.same.2 ∙ q in
      let w : slice_index p3.at.held 0 % 2 ^ 64 ≡ reg c rax = ap (λ z. z % 2 ^ 64) (x ∙ cut (reg c rax) (h.small 0)) ∙ cut (reg c rax) (h.small 0) in
      p3.left.1.0 ∙ ap (λ (z : Core). with_reg z rax (slice_index p3.at.held 0 % 2 ^ 64)) k3 ∙ all_back c f (slice_index p3.at.held 0 % 2 ^ 64) h rest w

-- steps that change flags alone, and leave the first datum; a jump leads at most behind so many more
abbrev IsMildStep : EventStep → ℕ → Type 0
IsMildStep (Cover k) n = k ≢ 0
IsMildStep (CountUp locked k) n = k ≢ 0
IsMildStep (Compare r i) n = Unit {0}
IsMildStep (CompareAt k i) n = Unit {0}
IsMildStep (SkipIf cc k) n = k ≤ n
IsMildStep s n = ⊥

abbrev AreMild : List EventStep → Type 0
AreMild [] = Unit {0}
AreMild (s ∷ ss) = IsMildStep s (length ss) × AreMild ss

mild_skips : (s : EventStep) (n : ℕ) (c : Core) → IsMildStep s n → skipped s c ≤ n
mild_skips (SkipIf cc k) n c h = by_test (is_met cc c.flags)
  where
    by_test : (b : Bool) → cond b k 0 ≤ n
    by_test true = h
    by_test false = omega arith
mild_skips s n c h = omega arith

-- one of them
record IsMildDone (s : EventStep) (m : Local) : Type 0 where
  flags : Flags
  rest : flags.rest ≡ m.core.flags.rest
  core : (done s m).core ≡ with_flags m.core flags
  first : slice_index (done s m).held 0 ≡ slice_index m.held 0

mild_done : (s : EventStep) (n : ℕ) (m : Local) → IsMildStep s n → IsMildDone s m
mild_done (Cover k) n m h = record { flags = m.core.flags; rest = refl; core = refl; first = get_or-set_other m.held k 0 1 0 (λ e. h (sym e)) }
mild_done (CountUp t k) n m h =
    record { flags = (arithmetic Inc W64 (slice_index m.held k % 2 ^ 64) 1 m.core.flags).flags; rest = refl; core = refl; first = get_or-set_other m.held k 0 _ 0 (λ e. h (sym e)) }
mild_done (Compare r i) n m h = record { flags = (arithmetic Sub W64 (reg m.core r % 2 ^ 64) i m.core.flags).flags; rest = refl; core = refl; first = refl }
mild_done (CompareAt k i) n m h = record { flags = (arithmetic Sub W64 (slice_index m.held k % 2 ^ 64) i m.core.flags).flags; rest = refl; core = refl; first = refl }
mild_done (SkipIf cc k) n m h = record { flags = m.core.flags; rest = refl; core = refl; first = refl }
mild_done s n m h = absurd h

-- past all of them flags alone have changed
record Passed (ds : List Datum) (back : List EventStep) (l l' : Local) : Type 0 where
  at : Local
  flags : Flags
  rest : flags.rest ≡ l.core.flags.rest
  core : at.core ≡ with_flags l.core flags
  first : slice_index at.held 0 ≡ slice_index l.held 0
  left : Reaches ds 0 back [] at l'

passes : (ds : List Datum) → ((xs ys : List ℕ) → AreKept ds xs ys → slice_index ys 0 ≡ slice_index xs 0) → (k : ℕ) (mid back : List EventStep) (l l' : Local) → AreMild mid → k ≤ length mid
    → Reaches ds k (mid ++ back) [] l l' → Passed ds back l l'
passes ds own zero [] back l l' mild few h = record { at = l; flags = l.core.flags; rest = refl; core = refl; first = refl; left = h }
passes ds own (suc k) [] back l l' mild few h = absurd (omega (arith, few))
passes ds own (suc k) (s ∷ ss) back l l' mild few h = passes ds own k ss back l l' mild.1 (omega (arith, few)) h
passes ds own zero (s ∷ ss) back l l' mild few h =
    let p = past ds s (ss ++ back) l l' h in
    let d = mild_done s (length ss) p.at mild.0 in
    let q = passes ds own (skipped s p.at.core) ss back (done s p.at) l' mild.1 (mild_skips s (length ss) p.at.core mild.0) p.left in
    record {
      at = q.at;
      flags = q.flags;
      rest = q.rest ∙ ap (λ (z : Core). z.flags.rest) d.core ∙ d.rest ∙ ap (λ (z : Core). z.flags.rest) p.same.0;
      core = q.core ∙ ap (λ (z : Core). with_flags z q.flags) (d.core ∙ ap (λ (z : Core). with_flags z d.flags) p.same.0);
      first = q.first ∙ d.first ∙ own l.held p.at.held p.same.2;
      left = q.left;
    }

-- rax saved below rsp, the flags in ax, such steps, and all back: nothing has changed
saving_restores : (d n : ℕ) (ds : List Datum) (mid : List EventStep) → AreMild mid → (c : Core) (began : List ℕ) (l : Local) → IsProcessorCore c
    → Reaches (record { place = Below d; size = n; number = true } ∷ ds) 0 (Store 0 ∷ IntoAh ∷ IntoAl ∷ (mid ++ (FromAl ∷ FromAh ∷ Load 0 ∷ []))) [] (started c began) l → l.core ≡ c
unfolding effect
saving_restores d n ds mid mild c began l h r =
    let us = record { place = Below d; size = n; number = true } ∷ ds in
    let back = FromAl ∷ FromAh ∷ Load 0 ∷ [] in
    let own = first_kept d n ds in
    let s = saves_in_ax us own c l (first_there (record { place = Below d; size = n; number = true }) ds) (mid ++ back) began r in
    let q = passes us own 0 mid back s.at l mild (omega arith) s.left in
    gives_back us own c l h q.at q.flags (q.rest ∙ ap (λ (z : Core). z.flags.rest) s.core) (q.core ∙ ap (λ (z : Core). with_flags z q.flags) s.core) (q.first ∙ s.first) q.left

-- comparisons and what marks are such steps
compare_mild : (r i n : ℕ) → IsMildStep (comparing_step r i) n
compare_mild zero i n = tt
compare_mild (suc r) i n = tt

mark_mild : (b : Base) (t : Bool) (k n : ℕ) → k ≢ 0 → IsMildStep (marking_step b t k) n
mark_mild base.Cover t k n h = h
mark_mild base.Count t k n h = h

checks_long : (cs : List Comparison) (s : EventStep) → length (checks cs ++ (s ∷ [])) ≡ 2 * length cs + 1
checks_long [] s = refl
checks_long (c ∷ cs) s = let q = checks_long cs s in omega (arith, q)

checks_mild : (b : Base) (cs : List Comparison) → AreMild (checks cs ++ (marking_step b true 1 ∷ []))
checks_mild b [] = (mark_mild b true 1 0 (λ e. absurd cc), tt)
checks_mild b (c ∷ cs) = let q = checks_long cs (marking_step b true 1) in (compare_mild c.reg c.value _, (omega (arith, q), checks_mild b cs))

-- so all events restore
saving_all : (b : Base) (cs : List Comparison) (p i : ℕ) → Restores (saving_thread_event b cs p i)
saving_all b cs p i c began l h r =
    let back = FromAl ∷ FromAh ∷ Load 0 ∷ [] in
    let mid = checks cs ++ (marking_step b true 1 ∷ []) in
    let e = append_assoc (checks cs) (marking_step b true 1 ∷ []) back in
    saving_restores 136 8 (marked_datum b p i ∷ []) mid (checks_mild b cs) c began l h
    (subst (λ (ss : List EventStep). Reaches (eight_below 136 ∷ marked_datum b p i ∷ []) 0 (Store 0 ∷ IntoAh ∷ IntoAl ∷ ss) [] (started c began) l) (sym e) r)

cover_all : (p i : ℕ) → Restores (cover_event p i)
cover_all p i c began l h way = let q = past (marked_datum base.Cover p i ∷ []) (Cover 0) [] (started c began) l way in q.left.1.0 ∙ q.same.0

pub all_restore : ThreadEventsRestore
all_restore b cs p i = (saving_all b cs p i, cover_all p i)

-- what steps lead to alone is one of the ways in which they may lead
self_at : (n : Bool) (p : Place) (x : ℕ) → IsKeptAt n p x x
self_at true (Below d) x = refl
self_at true (At a) x = tt
self_at false p x = tt

self_kept : (ds : List Datum) (xs : List ℕ) → length xs ≡ length ds → AreKept ds xs xs
self_kept [] [] e = (refl, refl)
self_kept [] (x ∷ xs) e = absurd (omega (arith, e))
self_kept (d ∷ ds) [] e = absurd (omega (arith, e))
self_kept (d ∷ ds) (x ∷ xs) e = (self_at d.number d.place x, self_kept ds xs (omega (arith, e)))

same_long : (b : Bool) (xs : List ℕ) (k x : ℕ) → length (cond b (set xs k x) xs) ≡ length xs
same_long true xs k x = length-set xs k x
same_long false xs k x = refl

ends_so : (ds : List Datum) (k : ℕ) (ss : List EventStep) (l : Local) → length l.held ≡ length ds → Reaches ds k ss [] l (ended k ss l)
ends_so ds zero [] l e = (refl, (refl, refl, self_kept ds l.held e))
ends_so ds (suc k) [] l e = (refl, (refl, refl, self_kept ds l.held e))
ends_so ds (suc k) (s ∷ ss) l e = ends_so ds k ss l e
ends_so ds zero (s ∷ ss) l e = inr (l, (refl, refl, self_kept ds l.held e), ends_so ds (skipped s l.core) ss (done s l) (same_long (is_writing s) l.held (datum_of s) _ ∙ e))

numbers_long : (ds : List Datum) (c : Core) (m : Bytes) → length (numbers_in ds c m) ≡ length ds
numbers_long [] c m = refl
numbers_long (d ∷ ds) c m = ap suc (numbers_long ds c m)

-- so an event that restores among others restores alone
pub restores_alone : (e : Listed) → Restores e → (c : Core) (m : Bytes) → IsProcessorCore c → AgreeBut e.kills c (ended 0 e.steps (coming e.uses c m)).core
restores_alone e r c m h = r c (numbers_in e.uses c m) (ended 0 e.steps (coming e.uses c m)) h (ends_so e.uses 0 e.steps (coming e.uses c m) (numbers_long e.uses c m))
