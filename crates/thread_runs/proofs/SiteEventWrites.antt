-- What a step of an event that marks does to memory.
use Rattle.std.proofs.Common.{◌≡◌, ◌⊎◌, inl, inr, ℕ, zero, suc, ◌+◌, ◌%◌, ◌^◌, true, false, List, [], ◌∷◌, ◌++◌, length, drop, refl, sym, ap, ◌∙◌, subst, arith}
use Rattle.std.specs.Prelude.{nat_le, slice_index}
use Rattle.std.proofs.lemmas.Bool.{and_right, true≢false}
use Rattle.pun_base.specs.Memory.{Bytes}
use Rattle.pun_base.specs.Actions.{AreComparisons}
use Rattle.pun_base.specs.declared.action.Base.{Base}
use Rattle.pun_base.specs.declared.action.Base.TheVariants.{Cover, Count}
use Rattle.pun_base.specs.declared.action.Comparison.{Comparison}
use Rattle.cpu_state.specs.declared.state.Core.{Core}
use Rattle.cpu_state.specs.Bytes.{number_at, put_list, bytes_of}
use Rattle.cpu_state.specs.Processor.{IsProcessorCore}
use Rattle.insn_form.specs.Operands.{reg, rax}
use Rattle.insn_form.specs.Machine.{Machine}
use Rattle.cond_action.specs.Conditions.{all_hold}
use Rattle.trampoline.specs.EventLists.{mark_at, mark_len, marked_datum, marking_step, cover_event}
use Rattle.event_steps.specs.declared.step.Datum.{Datum}
use Rattle.event_steps.specs.declared.step.EventStep.{EventStep}
use Rattle.event_steps.specs.declared.step.EventStep.TheVariants.{Cover as CoverByte, CountUp, Store, StoreLow, Claim, Put, FromAl, FromAh, Load}
use Rattle.event_steps.specs.EventSteps.{long}
use Rattle.event_steps.specs.DoneSteps.{Local, started, is_marking, is_writing, mem_done, Hold}
use Rattle.event_steps.specs.Interleaved.{Reaches, IsIn}
use Rattle.event_steps.specs.DoneSteps.{done}
use Rattle.thread_runs.specs.ThreadCode.{slot}
use Rattle.thread_runs.specs.Event.{marks_with}
use Rattle.thread_runs.specs.ThreadLists.{eight_below, comparing_step, checks, saving_thread_event}
use Rattle.thread_runs.specs.SiteEvents.{LeavesAll, SavesRax, MarksOnce, SiteWrites}
use Rattle.thread_runs.proofs.RestoredRings.{same_head}
use Rattle.thread_runs.proofs.MarkedEvents.{marks_where_met}
use Rattle.thread_runs.proofs.SiteEventsGoOn.{ends_with, is_put, no_step, le_false}

-- a step that writes nothing and doesn't mark, or the one that marks, with three behind it
abbrev IsCalm : EventStep → Type 0
IsCalm s = (is_put s ≡ false) × (is_writing s ≡ false) × (is_marking s ≡ false)

abbrev CalmAt : Base → List EventStep → Type 0
CalmAt b [] = Unit {0}
CalmAt b (s ∷ ss) = IsCalm s ⊎ ((s ≡ marking_step b true 1) × (length ss ≡ 3))

abbrev AreCalm : Base → List EventStep → Type 0
AreCalm b [] = Unit {0}
AreCalm b (s ∷ ss) = CalmAt b (s ∷ ss) × AreCalm b ss

calm_at : (b : Base) (j : ℕ) (ss rest : List EventStep) → rest ≡ drop j ss → AreCalm b ss → CalmAt b rest
calm_at b zero [] rest e h = subst (CalmAt b) (sym e) tt
calm_at b (suc j) [] rest e h = subst (CalmAt b) (sym e) tt
calm_at b zero (s ∷ ss) rest e h = subst (CalmAt b) (sym e) h.0
calm_at b (suc j) (s ∷ ss) rest e h = calm_at b j ss rest e h.1

-- a calm step leaves memory
calm_mem : (ds : List Datum) (c : Core) (s : EventStep) (l : Local) (m : Bytes) → IsCalm s → mem_done ds c s l m ≡ m
calm_mem ds c (Put k n) l m h = absurd (true≢false h.0)
calm_mem ds c (CoverByte k) l m h = absurd (true≢false h.1)
calm_mem ds c (CountUp t k) l m h = absurd (true≢false h.1)
calm_mem ds c (Store k) l m h = absurd (true≢false h.1)
calm_mem ds c (StoreLow k) l m h = absurd (true≢false h.1)
calm_mem ds c (Claim k) l m h = absurd (true≢false h.1)
calm_mem ds c s l m h = refl

compare_calm : (r n : ℕ) → IsCalm (comparing_step r n)
compare_calm zero n = (refl, refl, refl)
compare_calm (suc r) n = (refl, refl, refl)

checks_calm : (b : Base) (cs : List Comparison) → AreCalm b (checks cs ++ (marking_step b true 1 ∷ FromAl ∷ FromAh ∷ Load 0 ∷ []))
checks_calm b [] = (inr (refl, refl), (inl (refl, refl, refl), (inl (refl, refl, refl), (inl (refl, refl, refl), tt))))
checks_calm b (c ∷ cs) = (inl (compare_calm c.reg c.value), (inl (refl, refl, refl), checks_calm b cs))

-- the number of what is marked
mark_held : (b : Base) (p i : ℕ) (c : Core) (m : Bytes) (xs : List ℕ) → Hold (eight_below 136 ∷ marked_datum b p i ∷ []) c m xs → slice_index xs 1 ≡ number_at m (mark_at b p i) (mark_len b)
mark_held b p i c m [] h = absurd h
mark_held b p i c m (x ∷ []) h = absurd h.1
mark_held b p i c m (x ∷ y ∷ ys) h = sym (h.1.0 refl)

-- what the step that marks writes
mark_mem : (b : Base) (p i : ℕ) (c : Core) (l : Local) (m : Bytes) → Hold (eight_below 136 ∷ marked_datum b p i ∷ []) c m l.held
    → mem_done (eight_below 136 ∷ marked_datum b p i ∷ []) c (marking_step b true 1) l m ≡ put_list m (mark_at b p i) (marks_with b (mark_at b p i) m)
mark_mem Cover p i c l m h = refl
mark_mem Count p i c l m h = ap (λ z. put_list m (mark_at Count p i) (bytes_of 8 ((z + 1) % 2 ^ 64))) (mark_held Count p i c m l.held h)

mark_marks : (b : Base) → is_marking (marking_step b true 1) ≡ true
mark_marks Cover = refl
mark_marks Count = refl

module _ (b : Base) (cs : List Comparison) (p i at : ℕ) (c : Core) (q : IsProcessorCore c) (are : AreComparisons cs) where
  abbrev e : List EventStep
  e = (saving_thread_event b cs p i).steps

  abbrev us : List Datum
  us = (saving_thread_event b cs p i).uses

  -- a step behind the first
  later : (s : EventStep) (rest : List EventStep) (v : Machine) (h : IsIn (saving_thread_event b cs p i) at c (s ∷ rest) v) → CalmAt b (s ∷ rest)
      → (is_marking s ≡ false) × (mem_done us c s h.now v.mem ≡ v.mem) ⊎ (is_marking s ≡ true) × (h.now.marked ≡ false) × (mem_done us c s h.now v.mem ≡ put_list v.mem (mark_at b p i) (marks_with b (mark_at b p i) v.mem))
  later s rest v h (inl k) = inl (k.2, calm_mem us c s h.now v.mem k)
  later s rest v h (inr k) =
      let l = k.1 in
      inr (
        ap is_marking k.0 ∙ mark_marks b,
        marks_where_met b cs p i c h.began (s ∷ rest) h.now q are h.came ∙ and_right (all_hold cs c.regs) (nat_le (length (s ∷ rest)) 3) (le_false (length (s ∷ rest)) 3 (omega (arith, l))),
        ap (λ (z : EventStep). mem_done us c z h.now v.mem) k.0 ∙ mark_mem b p i c h.now v.mem h.beside.hold,
      )

  -- the first one, which saves rax
  record First (s : EventStep) (rest : List EventStep) (v : Machine) (h : IsIn (saving_thread_event b cs p i) at c (s ∷ rest) v) : Type 0 where
    first : v.rip ≡ at
    calm : is_marking s ≡ false
    mem : mem_done us c s h.now v.mem ≡ put_list v.mem (slot c) (bytes_of 8 (reg c rax))

  saves : (s : EventStep) (rest : List EventStep) (v : Machine) (h : IsIn (saving_thread_event b cs p i) at c (s ∷ rest) v) → s ∷ rest ≡ e → h.now.core ≡ c → First s rest v h
  saves s rest v h k core =
      let is : s ≡ Store 0 = same_head s (Store 0) rest (drop 1 e) k in
      let small = q.small 0 in
      let x : reg h.now.core rax % 2 ^ 64 ≡ reg c rax = ap (λ (z : Core). reg z rax % 2 ^ 64) core ∙ omega (arith, small) in
      let r = h.rip in let n = ap long k in
      record {
        first = omega (arith, r, n);
        calm = ap is_marking is;
        mem = ap (λ (z : EventStep). mem_done us c z h.now v.mem) is ∙ ap (λ z. put_list v.mem (slot c) (bytes_of 8 z)) x;
      }

  by_way : (s : EventStep) (rest : List EventStep) (v : Machine) (h : IsIn (saving_thread_event b cs p i) at c (s ∷ rest) v) → Reaches us 0 e (s ∷ rest) (started c h.began) h.now
      → First s rest v h ⊎ ((is_marking s ≡ false) × (mem_done us c s h.now v.mem ≡ v.mem) ⊎ (is_marking s ≡ true) × (h.now.marked ≡ false) × (mem_done us c s h.now v.mem ≡ put_list v.mem (mark_at b p i) (marks_with b (mark_at b p i) v.mem)))
  by_way s rest v h (inl g) = inl (saves s rest v h g.0 g.1.0)
  by_way s rest v h (inr g) =
      let j = ends_with us 0 (drop 1 e) (s ∷ rest) (done (Store 0) g.0) h.now g.2 in
      inr (later s rest v h (calm_at b j.0 (drop 1 e) (s ∷ rest) j.1 (inl (refl, refl, refl), (inl (refl, refl, refl), checks_calm b cs))))

-- an event that saves rax, and one that doesn't
saving_writes : (b : Base) (cs : List Comparison) (p i at : ℕ) (c : Core) (s : EventStep) (rest : List EventStep) (v : Machine) (q : IsProcessorCore c) (are : AreComparisons cs) (h : IsIn (saving_thread_event b cs p i) at c (s ∷ rest) v)
    → First b cs p i at c q are s rest v h ⊎ ((is_marking s ≡ false) × (mem_done (saving_thread_event b cs p i).uses c s h.now v.mem ≡ v.mem)
    ⊎ (is_marking s ≡ true) × (h.now.marked ≡ false) × (mem_done (saving_thread_event b cs p i).uses c s h.now v.mem ≡ put_list v.mem (mark_at b p i) (marks_with b (mark_at b p i) v.mem)))
saving_writes b cs p i at c s rest v q are h = by_way b cs p i at c q are s rest v h h.came

pub site_writes : SiteWrites
site_writes Cover [] p i at c s rest v q k h = by_store h.came
  where
    by_store : Reaches (cover_event p i).uses 0 (cover_event p i).steps (s ∷ rest) (started c h.began) h.now → LeavesAll Cover [] p i c s h.now v.mem ⊎ SavesRax Cover [] p i at c s h.now v ⊎ MarksOnce Cover [] p i c s h.now v.mem
    by_store (inl g) =
        let is = same_head s (CoverByte 0) rest [] g.0 in
        inr (inr (record { marks = ap is_marking is; once = g.1.1; mem = ap (λ (z : EventStep). mem_done (cover_event p i).uses c z h.now v.mem) is }))
    by_store (inr g) = absurd (no_step s rest g.2.0)
site_writes Cover (x ∷ xs) p i at c s rest v q k h = elim (saving_writes Cover (x ∷ xs) p i at c s rest v q k.few.asked h) [
  | inl f ↦ inr (inl (record { saving = refl; first = f.first; calm = f.calm; mem = f.mem }))
  | inr (inl f) ↦ inl (record { calm = f.0; mem = f.1 })
  | inr (inr f) ↦ inr (inr (record { marks = f.0; once = f.1; mem = f.2 }))
]
site_writes Count cs p i at c s rest v q k h = elim (saving_writes Count cs p i at c s rest v q k.few.asked h) [
  | inl f ↦ inr (inl (record { saving = refl; first = f.first; calm = f.calm; mem = f.mem }))
  | inr (inl f) ↦ inl (record { calm = f.0; mem = f.1 })
  | inr (inr f) ↦ inr (inr (record { marks = f.0; once = f.1; mem = f.2 }))
]
