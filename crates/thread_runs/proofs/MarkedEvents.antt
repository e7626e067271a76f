-- Where an event of threads has marked.
use Rattle.std.proofs.Common.{◌≡◌, inl, inr, ℕ, zero, suc, ◌+◌, ◌*◌, ◌%◌, ◌^◌, ◌<◌, ◌≤◌, Bool, true, false, not, ◌&&◌, ◌||◌, if◌then◌else◌, List, [], ◌∷◌, ◌++◌, length, length-append, refl, sym, ap, ◌∙◌, subst, arith}
use Rattle.std.specs.Prelude.{nat_le, slice_index}
use Rattle.std.proofs.lemmas.Bool.{and_right}
use Rattle.std.proofs.lemmas.Bool.Decides.{nat_tests}
use Rattle.std.proofs.lemmas.List.{get_or-set_same}
use Rattle.pun_base.specs.Actions.{AreComparisons}
use Rattle.pun_base.specs.declared.action.Base.{Base}
use Rattle.pun_base.specs.declared.action.Base.TheVariants as base
use Rattle.pun_base.specs.declared.action.Comparison.{Comparison}
use Rattle.pun_base.specs.declared.action.CompareOp.{CompareOp}
use Rattle.cpu_alu.specs.declared.flag_word.Flags.{Flags}
use Rattle.cpu_alu.specs.declared.operation.Width.TheVariants.{W64}
use Rattle.cpu_alu.specs.declared.operation.AluOp.TheVariants.{Sub}
use Rattle.cpu_alu.specs.Arithmetic.{arithmetic}
use Rattle.cpu_state.specs.declared.state.Core.{Core}
use Rattle.cpu_state.specs.Processor.{IsProcessorCore}
use Rattle.insn_form.specs.declared.form.Op.TheVariants.{Lahf}
use Rattle.insn_form.specs.Operands.{reg, with_flags, rax}
use Rattle.insn_form.specs.Conditions.{is_met}
use Rattle.insn_form.specs.Meaning.{effect}
use Rattle.insn_form.specs.FlagsBack.{core_after, seto_al, kept_in_ax}
use Rattle.cond_action.specs.Conditions.{compares, all_hold}
use Rattle.cond_action.specs.Codes.{failing}
use Rattle.trampoline.proofs.FailedComparisons.{fails}
use Rattle.event_steps.proofs.FlagsInAx.{ax_other}
use Rattle.event_steps.specs.declared.step.Datum.{Datum}
use Rattle.event_steps.specs.declared.step.EventStep.{EventStep}
use Rattle.event_steps.specs.MadeSteps.{skipped}
use Rattle.event_steps.specs.DoneSteps.{Local, started, is_marking, done}
use Rattle.event_steps.specs.declared.step.EventStep.TheVariants.{SkipIf, Store, Load, IntoAh, IntoAl, FromAl, FromAh}
use Rattle.thread_runs.specs.ThreadLists.{eight_below, comparing_step, checks, saving_thread_event, MarksWhereMet}
use Rattle.trampoline.specs.EventLists.{marked_datum, marking_step}
use Rattle.event_steps.specs.Interleaved.{Meanwhile, Reaches}
use Rattle.thread_runs.proofs.RestoredRegisters.{first_kept, first_there}

-- what is left is no more than there was
short : (ds : List Datum) (k : ℕ) (ss rest : List EventStep) (l l' : Local) → Reaches ds k ss rest l l' → length rest ≤ length ss
short ds zero [] rest l l' h = let e = ap length h.0 in omega (arith, e)
short ds (suc k) [] rest l l' h = let e = ap length h.0 in omega (arith, e)
short ds (suc k) (s ∷ ss) rest l l' h = let q = short ds k ss rest l l' h in omega (arith, q)
short ds zero (s ∷ ss) rest l l' (inl h) = let e = ap length h.0 in omega (arith, e)
short ds zero (s ∷ ss) rest l l' (inr h) = let q = short ds (skipped s h.0.core) ss rest (done s h.0) l' h.2 in omega (arith, q)

-- steps none of which marks
abbrev pub AreQuiet : List EventStep → Type 0
AreQuiet [] = Unit {0}
AreQuiet (s ∷ ss) = (is_marking s ≡ false) × AreQuiet ss

quiet : (ds : List Datum) (k : ℕ) (ss rest : List EventStep) (l l' : Local) → AreQuiet ss → Reaches ds k ss rest l l' → l'.marked ≡ l.marked
quiet ds zero [] rest l l' q h = h.1.1
quiet ds (suc k) [] rest l l' q h = h.1.1
quiet ds (suc k) (s ∷ ss) rest l l' q h = quiet ds k ss rest l l' q.1 h
quiet ds zero (s ∷ ss) rest l l' q (inl h) = h.1.1
quiet ds zero (s ∷ ss) rest l l' q (inr h) = quiet ds (skipped s h.0.core) ss rest (done s h.0) l' q.1 h.2 ∙ ap (λ z. z || h.0.marked) q.0 ∙ h.1.1

-- in front of what marks, and behind it
before : (b : Bool) (n m : ℕ) → m < n → (b && nat_le n m) ≡ false
before b n m h = and_right b (nat_le n m) (let e : nat_le n m ≡ false = grind (arith, nat_tests) in e)

pub behind : (n m : ℕ) → n ≤ m → nat_le n m ≡ true
behind n m h = grind (arith, nat_tests)

-- checks that compare in some way
abbrev pub checks_by : (Comparison → EventStep) → List Comparison → List EventStep
checks_by cmp [] = []
checks_by cmp (c ∷ cs) = cmp c ∷ SkipIf (failing c.op) (2 * length cs + 1) ∷ checks_by cmp cs

module _ (ds : List Datum) (c : Core) (cmp : Comparison → EventStep) (mark : EventStep) (back : List EventStep) (rest : List EventStep) (last : Local)
    (Inv : Local → Type 0) (on : (l m : Local) → Inv l → Meanwhile ds l m → Inv m)
    (compared : (k : Comparison) (m : Local) → (k.reg < 16) × (k.value < 2 ^ 31) → Inv m → Inv (done (cmp k) m) × (is_met (failing k.op) (done (cmp k) m).core.flags ≡ not (compares k.op (reg c k.reg) k.value)))
    (straight : (k : Comparison) (d : Core) → skipped (cmp k) d ≡ 0) (calm : (k : Comparison) → is_marking (cmp k) ≡ false) (marks : is_marking mark ≡ true) (ends : (d : Core) → skipped mark d ≡ 0)
    (gives : AreQuiet back) where
  abbrev whole : List Comparison → List EventStep
  whole cs = checks_by cmp cs ++ (mark ∷ back)

  long_enough : (cs : List Comparison) → length back < length (whole cs)
  long_enough [] = omega arith
  long_enough (k ∷ cs) = let q = long_enough cs in omega (arith, q)

  -- behind all of them
  passed_over : (cs : List Comparison) (l : Local) → Reaches ds (2 * length cs + 1) (whole cs) rest l last → Reaches ds 0 back rest l last
  passed_over [] l h = h
  passed_over (k ∷ cs) l h =
      let e : 2 * suc (length cs) + 1 ≡ suc (suc (2 * length cs + 1)) = omega arith in
      passed_over cs l (subst (λ (n : ℕ). Reaches ds n (whole (k ∷ cs)) rest l last) e h)

  pub where_met : (cs : List Comparison) (l : Local) → AreComparisons cs → Inv l → l.marked ≡ false → Reaches ds 0 (whole cs) rest l last → last.marked ≡ (all_hold cs c.regs && nat_le (length rest) (length back))
  where_met [] l are inv un (inl h) = h.1.1 ∙ un ∙ sym (before true (length rest) (length back) (let e = ap length h.0 in omega (arith, e)))
  where_met [] l are inv un (inr h) =
      let r = subst (λ (k : ℕ). Reaches ds k back rest (done mark h.0) last) (ends h.0.core) h.2 in
      quiet ds 0 back rest (done mark h.0) last gives r ∙ ap (λ z. z || h.0.marked) marks ∙ sym (behind (length rest) (length back) (short ds 0 back rest (done mark h.0) last r))
  where_met (k ∷ cs) l are inv un (inl h) =
      h.1.1 ∙ un ∙ sym (before (all_hold (k ∷ cs) c.regs) (length rest) (length back) (let e = ap length h.0 in let q = long_enough cs in omega (arith, e, q)))
  where_met (k ∷ cs) l are inv un (inr h) =
      let m = h.0 in
      let d = done (cmp k) m in
      let q = compared k m (are.0, are.1) (on l m inv h.1) in
      let un1 : d.marked ≡ false = ap (λ z. z || m.marked) (calm k) ∙ h.1.1 ∙ un in
      jumped d q.0 q.1 un1 (subst (λ (n : ℕ). Reaches ds n (SkipIf (failing k.op) (2 * length cs + 1) ∷ whole cs) rest d last) (straight k m.core) h.2)
      (λ n i u r. where_met cs n are.2 i u r)
    where
      jumped : (d : Local) → Inv d → is_met (failing k.op) d.core.flags ≡ not (compares k.op (reg c k.reg) k.value) → d.marked ≡ false
          → Reaches ds 0 (SkipIf (failing k.op) (2 * length cs + 1) ∷ whole cs) rest d last
          → ((n : Local) → Inv n → n.marked ≡ false → Reaches ds 0 (whole cs) rest n last → last.marked ≡ (all_hold cs c.regs && nat_le (length rest) (length back)))
          → last.marked ≡ (all_hold (k ∷ cs) c.regs && nat_le (length rest) (length back))
      jumped d inv' met un' (inl g) go =
          g.1.1 ∙ un' ∙ sym (before (all_hold (k ∷ cs) c.regs) (length rest) (length back) (let e = ap length g.0 in let q = long_enough cs in omega (arith, e, q)))
      jumped d inv' met un' (inr g) go = by_test (compares k.op (reg c k.reg) k.value) refl
        where
          again : is_met (failing k.op) g.0.core.flags ≡ not (compares k.op (reg c k.reg) k.value)
          again = ap (λ (z : Core). is_met (failing k.op) z.flags) g.1.0 ∙ met

          left : (b : Bool) → compares k.op (reg c k.reg) k.value ≡ b → Reaches ds (if not b then 2 * length cs + 1 else 0) (whole cs) rest (done (SkipIf (failing k.op) (2 * length cs + 1)) g.0) last
          left b e = subst (λ (z : Bool). Reaches ds (if z then 2 * length cs + 1 else 0) (whole cs) rest (done (SkipIf (failing k.op) (2 * length cs + 1)) g.0) last) (again ∙ ap not e) g.2

          by_test : (b : Bool) → compares k.op (reg c k.reg) k.value ≡ b → last.marked ≡ (all_hold (k ∷ cs) c.regs && nat_le (length rest) (length back))
          by_test true e =
              go (done (SkipIf (failing k.op) (2 * length cs + 1)) g.0) (on d g.0 inv' g.1) (g.1.1 ∙ un') (left true e)
              ∙ ap (λ z. (z && all_hold cs c.regs) && nat_le (length rest) (length back)) (sym e)
          by_test false e =
              quiet ds 0 back rest (done (SkipIf (failing k.op) (2 * length cs + 1)) g.0) last gives (passed_over cs (done (SkipIf (failing k.op) (2 * length cs + 1)) g.0) (left false e)) ∙ g.1.1 ∙ un'
              ∙ ap (λ z. (z && all_hold cs c.regs) && nat_le (length rest) (length back)) (sym e)

-- the checks of events are such checks
saving_checks : (cs : List Comparison) → checks cs ≡ checks_by (λ (k : Comparison). comparing_step k.reg k.value) cs
saving_checks [] = refl
saving_checks (c ∷ cs) = ap (λ (ss : List EventStep). comparing_step c.reg c.value ∷ SkipIf (failing c.op) (2 * length cs + 1) ∷ ss) (saving_checks cs)

-- while rax is saved and the flags are in ax
record IsSaving (c : Core) (m : Local) : Type 0 where
  flags : Flags
  core : m.core ≡ with_flags (kept_in_ax c) flags
  first : slice_index m.held 0 ≡ reg c rax % 2 ^ 64

again : (x : ℕ) → x % 2 ^ 64 % 2 ^ 64 ≡ x % 2 ^ 64
again x = omega arith

saving_compared : (c : Core) (r n : ℕ) (op : CompareOp) (m : Local) → IsProcessorCore c → n < 2 ^ 31 → IsSaving c m
    → IsSaving c (done (comparing_step r n) m) × (is_met (failing op) (done (comparing_step r n) m).core.flags ≡ not (compares op (reg c r) n))
saving_compared c zero n op m h l i =
    let f = (arithmetic Sub W64 (slice_index m.held 0 % 2 ^ 64) n m.core.flags).flags in
    let x : slice_index m.held 0 % 2 ^ 64 ≡ reg c rax % 2 ^ 64 = ap (λ z. z % 2 ^ 64) i.first ∙ again (reg c rax) in (
      record { flags = f; core = ap (λ (z : Core). with_flags z f) i.core; first = i.first },
      ap (λ z. is_met (failing op) (arithmetic Sub W64 z n m.core.flags).flags) x ∙ fails op (reg c 0) n m.core.flags (h.small 0) l,
    )
saving_compared c (suc r) n op m h l i =
    let f = (arithmetic Sub W64 (reg m.core (suc r) % 2 ^ 64) n m.core.flags).flags in
    let x : reg m.core (suc r) ≡ reg c (suc r) = ap (λ (z : Core). reg z (suc r)) i.core ∙ ax_other c r in (
      record { flags = f; core = ap (λ (z : Core). with_flags z f) i.core; first = i.first },
      ap (λ z. is_met (failing op) (arithmetic Sub W64 (z % 2 ^ 64) n m.core.flags).flags) x ∙ fails op (reg c (suc r)) n m.core.flags (h.small (suc r)) l,
    )

saving_on : (d n : ℕ) (ds : List Datum) (c : Core) (l m : Local) → IsSaving c l → Meanwhile (eight_below d ∷ ds) l m → IsSaving c m
saving_on d n ds c l m i w = record { flags = i.flags; core = w.0 ∙ i.core; first = first_kept d 8 ds l.held m.held w.2 ∙ i.first }

straight_on : (r n : ℕ) (d : Core) → skipped (comparing_step r n) d ≡ 0
straight_on zero n d = refl
straight_on (suc r) n d = refl

calm_on : (r n : ℕ) → is_marking (comparing_step r n) ≡ false
calm_on zero n = refl
calm_on (suc r) n = refl

mark_marks : (b : Base) (t : Bool) (k : ℕ) → is_marking (marking_step b t k) ≡ true
mark_marks base.Cover t k = refl
mark_marks base.Count t k = refl

mark_ends : (b : Base) (t : Bool) (k : ℕ) (d : Core) → skipped (marking_step b t k) d ≡ 0
mark_ends base.Cover t k d = refl
mark_ends base.Count t k d = refl

-- events that save have marked where they say
module _ (b : Base) (cs : List Comparison) (p i : ℕ) (c : Core) (began : List ℕ) (rest : List EventStep) (l : Local) (h : IsProcessorCore c) (are : AreComparisons cs) where
  abbrev us : List Datum
  us = (saving_thread_event b cs p i).uses

  abbrev end : List EventStep
  end = FromAl ∷ FromAh ∷ Load 0 ∷ []

  abbrev body : List EventStep
  body = checks cs ++ (marking_step b true 1 ∷ end)

  enough : 3 < length body
  enough = let q = length-append (checks cs) (marking_step b true 1 ∷ end) in omega (arith, q)

  third : (m : Local) → m.core ≡ core_after Lahf 0 c → slice_index m.held 0 ≡ reg c rax % 2 ^ 64 → m.marked ≡ false → Reaches us 0 (IntoAl ∷ body) rest m l → l.marked ≡ (all_hold cs c.regs && nat_le (length rest) 3)
  unfolding effect is_met
  third m core held un (inl g) = g.1.1 ∙ un ∙ sym (before (all_hold cs c.regs) (length rest) 3 (let e = ap length g.0 in omega (arith, e, enough)))
  third m core held un (inr g) =
      let s : IsSaving c (done IntoAl g.0) = record { flags = c.flags; core = ap (core_after seto_al 0) (g.1.0 ∙ core); first = first_kept 136 8 (marked_datum b p i ∷ []) m.held g.0.held g.1.2 ∙ held } in
      where_met us c (λ (k : Comparison). comparing_step k.reg k.value) (marking_step b true 1) end rest l (IsSaving c) (λ x y j w. saving_on 136 8 (marked_datum b p i ∷ []) c x y j w)
      (λ k x a j. saving_compared c k.reg k.value k.op x h a.1 j) (λ k d. straight_on k.reg k.value d) (λ k. calm_on k.reg k.value) (mark_marks b true 1) (mark_ends b true 1) (refl, (refl, (refl, tt)))
      cs (done IntoAl g.0) are s (g.1.1 ∙ un) (subst (λ (ss : List EventStep). Reaches us 0 (ss ++ (marking_step b true 1 ∷ end)) rest (done IntoAl g.0) l) (saving_checks cs) g.2)

  second : (m : Local) → m.core ≡ c → slice_index m.held 0 ≡ reg c rax % 2 ^ 64 → m.marked ≡ false → Reaches us 0 (IntoAh ∷ IntoAl ∷ body) rest m l → l.marked ≡ (all_hold cs c.regs && nat_le (length rest) 3)
  second m core held un (inl g) = g.1.1 ∙ un ∙ sym (before (all_hold cs c.regs) (length rest) 3 (let e = ap length g.0 in omega (arith, e, enough)))
  second m core held un (inr g) =
      third (done IntoAh g.0) (ap (core_after Lahf 0) (g.1.0 ∙ core)) (first_kept 136 8 (marked_datum b p i ∷ []) m.held g.0.held g.1.2 ∙ held) (g.1.1 ∙ un) g.2

  saving_marks : Reaches us 0 (Store 0 ∷ IntoAh ∷ IntoAl ∷ body) rest (started c began) l → l.marked ≡ (all_hold cs c.regs && nat_le (length rest) 3)
  saving_marks (inl g) = g.1.1 ∙ sym (before (all_hold cs c.regs) (length rest) 3 (let e = ap length g.0 in omega (arith, e, enough)))
  saving_marks (inr g) =
      second (done (Store 0) g.0) g.1.0 (get_or-set_same g.0.held 0 (reg g.0.core rax % 2 ^ 64) 0 (first_there (eight_below 136) (marked_datum b p i ∷ []) began g.0.held g.1.2) ∙ ap (λ z. reg z rax % 2 ^ 64) g.1.0)
      g.1.1 g.2

pub marks_where_met : MarksWhereMet
marks_where_met b cs p i c began rest l h are way = saving_marks b cs p i c began rest l h are way
