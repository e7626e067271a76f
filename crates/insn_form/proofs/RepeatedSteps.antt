-- The same instruction in another state, and elsewhere.
use Rattle.std.proofs.Common.{◌≡◌, ℕ, zero, suc, Bool, true, false, cond, ◌==◌, eqb, List, [], ◌∷◌, set, Option, Some, None, Result, Ok, Err, unwrap_or, refl, sym, ap, ◌∙◌, subst, true≢false}
use Rattle.std.specs.Option.{is_some}
use Rattle.std.proofs.lemmas.Bool.{cond-true, eq-eqb}
use Rattle.pun_base.specs.Memory.{Bytes}
use Rattle.length_decode.specs.Spelling.{spelling}
use Rattle.cpu_state.specs.declared.state.Core.{Core}
use Rattle.cpu_state.specs.declared.world.Question.{Question}
use Rattle.cpu_state.specs.declared.world.Answer.{Answer}
use Rattle.cpu_state.specs.declared.world.Entry.{Entry}
use Rattle.cpu_state.specs.declared.world.MemWrite.{MemWrite}
use Rattle.cpu_state.specs.Bytes.{Stands}
use Rattle.insn_form.specs.declared.effect.Out.{Out}
use Rattle.insn_form.specs.declared.form.Op.{Op}
use Rattle.insn_form.specs.declared.form.Op.TheVariants.{Jmp, Ret}
use Rattle.insn_form.specs.declared.form.Insn.{Insn}
use Rattle.insn_form.specs.declared.form.Insn.TheVariants.{Exact, Asked, Ending}
use Rattle.insn_form.specs.Meaning.{effect}
use Rattle.insn_form.specs.Plan.{Plan, Halt, lacking_in, number_in, writes_in, unless, lacking_writes, Differs, same_question, ask, completed, planned, exactly, answered_core, after_answer, by_answer, plan}
use Rattle.insn_form.specs.Operands.{with_reg, rcx}
use Rattle.insn_form.specs.Machine.{Machine, first, carried, carry, act, view, standing_at, leaves}
use Rattle.insn_form.specs.Step.{next_after, task_of}
use Rattle.insn_form.specs.Laws.{viewed, SameView}
use Rattle.insn_form.specs.Again.{IsSameStep, always_goes, IsCopiedTo, with_rcx, syscall_task, IsSyscallCopied, IsUnasked}
use Rattle.insn_form.proofs.FrameRule.{unless_ok, ask_ok, same_Ok, carry_ok, frame, keep, same_plan, carried_frame, steady_plan, steady_leaves}

-- an instruction that stands in both
viewed_ok : (set : ℕ → Bool) (r : Result Machine Halt) (s : Machine) → Ok (view set s) ≡ viewed set r → (u : Machine) × (r ≡ Ok u) × (view set s ≡ view set u)
viewed_ok set (Ok u) s e = let e' : view set s ≡ view set u = cc in (u, refl, e')
viewed_ok set (Err h) s e = absurd cc

-- equal views are equal with the instruction pointer left out too
pub same_but_rip : (set : ℕ → Bool) (s u : Machine) → view set s ≡ view set u → SameView set s u
same_but_rip set s u e = ap (standing_at 0) e

-- a step of an instruction goes over to each state that differs in the set alone and has the instruction there too
pub same_step : IsSameStep
same_step set f s t u st e here =
    let next = next_after s.rip f in
    let rip : s.rip ≡ u.rip = sym (ap (λ (z : Machine). z.rip) e) in
    let g = frame set (task_of f next) next s u (same_but_rip set s u (sym e)) st.apart in
    let o = viewed_ok set (act (task_of f next) next u) t (sym (ap (viewed set) st.acts) ∙ g) in
    let n : next ≡ next_after u.rip f = ap (λ (a : ℕ). next_after a f) rip in
    let quiet : leaves set (task_of f next) next u ≡ true = ap (leaves set (task_of f next) next) e ∙ st.apart in (
      o.0,
      record {
        at = record { spelled = st.at.spelled; here = subst (λ (a : ℕ). Stands u.mem a (spelling f)) rip here };
        apart = subst (λ (a : ℕ). leaves set (task_of f a) a u ≡ true) n quiet;
        acts = subst (λ (a : ℕ). act (task_of f a) a u ≡ Ok o.0) n o.1;
      },
      sym o.2,
      keep set (task_of f next) next u o.0 quiet o.1,
    )

-- the plan of an exact instruction goes where its effect says
pub exact_target : (a : Question) (ws : List MemWrite) (o : Out) (entry : Option Entry) (p : Plan) → exactly a ws entry o ≡ Ok p → p.target ≡ o.target
exact_target a ws o entry p h = by_test (o.undefined == 0) h
  where
    by_test : (b : Bool) → cond b (Ok (planned o.core o ws false)) (ask a entry (λ z. Ok (planned (completed o.undefined o.core z) o ws true))) ≡ Ok p → p.target ≡ o.target
    by_test true k = sym (ap (λ (z : Plan). z.target) (same_Ok _ p k))
    by_test false k = let q = ask_ok a entry _ p k in sym (ap (λ (z : Plan). z.target) (same_Ok _ p q.2))

op_target : (op : Op) (next v : ℕ) (c : Core) → always_goes (Exact op) ≡ true → is_some ((effect op next c).out v).target ≡ true
unfolding effect
op_target (Jmp target) next v c h = refl
op_target (Ret extra) next v c h = refl
op_target op next v c h = absurd (true≢false (sym h))

-- a plan of JMP or RET says where to go on
pub plan_target : (i : Insn) (a : Question) (next : ℕ) (c : Core) (m : Bytes) (entry : Option Entry) (p : Plan) → plan i a next c m entry ≡ Ok p → always_goes i ≡ true → is_some p.target ≡ true
plan_target (Exact op) a next c m entry p k g =
    let e = effect op next c in
    let k1 = unless_ok (lacking_in 4 m e.read) _ p k in
    let k2 = unless_ok (lacking_in 2 m e.write) _ p k1 in
    let v = number_in m e.read in let o = e.out v in
    let t = exact_target a (writes_in e.write o.value) o entry p k2 in
    ap is_some t ∙ op_target op next v c g
plan_target (Asked form) a next c m entry p k g = absurd (true≢false (sym g))
plan_target Ending a next c m entry p k g = absurd cc

-- an instruction that uses its own place at most to go on behind itself does the same elsewhere
pub copied_to : IsCopiedTo
copied_to set t next next' s u s' st e h k =
    let q = carry_ok next s.mem s.world _ s' k in
    let p = q.0 in
    let r : plan t.insn t.asks next' u.core u.mem (first u.world) ≡ Ok p = sym (steady_plan t.insn t.asks next next' u.core u.mem (first u.world) st) ∙ sym (same_plan set t next s u e h) ∙ q.1 in
    let u' = carried next' u.mem u.world p in
    let a : act t next' u ≡ Ok u' = ap (carry next' u.mem u.world) r in
    let l : leaves set t next' u ≡ true = steady_leaves set t.insn next next' u.core (first u.world) (sym (ap (leaves set t next) e) ∙ h) in (
      u',
      a,
      record {
        same = ap (λ (z : Machine). standing_at 0 (view set z)) q.2 ∙ carried_frame set 0 next next' s u p e;
        target = p.target;
        own = ap (λ (z : Machine). z.rip) q.2;
        other = refl;
        gone = plan_target t.insn t.asks next s.core s.mem (first s.world) p q.1;
      },
      keep set t next' u u' l a,
    )

-- an element that is set twice has the second value
pub set_again : (xs : List ℕ) (i v w : ℕ) → set (set xs i v) i w ≡ set xs i w
set_again [] i v w = refl
set_again (x ∷ xs) zero v w = refl
set_again (x ∷ xs) (suc i) v w = ap (λ (ys : List ℕ). x ∷ ys) (set_again xs i v w)

-- the plan with an address in rcx
abbrev pub rcx_plan : ℕ → Plan → Plan
rcx_plan next p = record { core = with_reg p.core rcx next; target = p.target; writes = p.writes; used = p.used }

answer_again : (a : Answer) (next next' : ℕ) (c : Core) (m : Bytes) (p : Plan) → by_answer true next c m a ≡ Ok p → (by_answer true next' c m a ≡ Ok (rcx_plan next' p)) × (p.target ≡ None)
answer_again a next next' c m p h = by_lack (lacking_writes m a.writes) h
  where
    made : ℕ → Plan
    made n = record { core = after_answer true n a c; target = None; writes = a.writes; used = true }

    other : made next' ≡ rcx_plan next' (made next)
    other =
        let e = sym (set_again (answered_core a c).regs rcx next next') in
        λ i. record { core = record { regs = e i; flags = (answered_core a c).flags; fs = (answered_core a c).fs; gs = (answered_core a c).gs }; target = None; writes = a.writes; used = true }

    by_lack : (o : Option ℕ) → unless o (Ok (made next)) ≡ Ok p → (unless o (Ok (made next')) ≡ Ok (rcx_plan next' p)) × (p.target ≡ None)
    by_lack None k = (ap Ok (other ∙ ap (rcx_plan next') (same_Ok (made next) p k)), sym (ap (λ (z : Plan). z.target) (same_Ok (made next) p k)))
    by_lack (Some x) k = absurd cc

ask_again : (b : Bool) (a : Question) (next next' : ℕ) (c : Core) (m : Bytes) (entry : Option Entry) (p : Plan) → b ≡ true → ask a entry (by_answer b next c m) ≡ Ok p → (ask a entry (by_answer b next' c m) ≡ Ok (rcx_plan next' p)) × (p.target ≡ None)
ask_again true a next next' c m None p b h = absurd cc
ask_again true a next next' c m (Some e) p b h = by_question (same_question a e.question) h
  where
    by_question : (t : Bool) → cond t (by_answer true next c m e.answer) (Err Differs) ≡ Ok p → (cond t (by_answer true next' c m e.answer) (Err Differs) ≡ Ok (rcx_plan next' p)) × (p.target ≡ None)
    by_question true k = answer_again e.answer next next' c m p k
    by_question false k = absurd cc
ask_again false a next next' c m entry p b h = absurd (true≢false (sym b))

-- SYSCALL elsewhere does the same, but that rcx gets the address after its own place
pub syscall_copied : IsSyscallCopied
syscall_copied set form asks next next' s u s' h e l k =
    let t = syscall_task form asks in
    let q = carry_ok next s.mem s.world _ s' k in
    let p = q.0 in
    let here = sym (same_plan set t next s u e l) ∙ q.1 in
    let there = ask_again form.syscall asks next next' u.core u.mem (first u.world) p h here in
    let u' = carried next' u.mem u.world (rcx_plan next' p) in
    let a : act t next' u ≡ Ok u' = ap (carry next' u.mem u.world) there.0 in
    let quiet : leaves set t next' u ≡ true = sym (ap (leaves set t next) e) ∙ l in (
      u',
      a,
      record {
        same = ap (λ (z : Machine). standing_at 0 (view set (with_rcx next' z))) q.2 ∙ carried_frame set 0 next next' s u (rcx_plan next' p) e;
        own = ap (λ (z : Machine). z.rip) q.2 ∙ ap (λ o. unwrap_or o next) there.1;
        other = ap (λ o. unwrap_or o next') there.1;
      },
      keep set t next' u u' quiet a,
    )

-- an operation that leaves no flag undefined does the same whatever it would ask
pub unasked : IsUnasked
unasked op next s q q' u =
    let e = effect op next s.core in let o = e.out (number_in s.mem e.read) in let ws = writes_in e.write o.value in
    let told = λ (p : Question). cond-true (eqb o.undefined 0) (Ok (planned o.core o ws false)) (ask p (first s.world) (λ a. Ok (planned (completed o.undefined o.core a) o ws true))) (eq-eqb o.undefined 0 (u (number_in s.mem e.read))) in
    ap (λ z. carry next s.mem s.world (unless (lacking_in 4 s.mem e.read) (unless (lacking_in 2 s.mem e.write) z))) (told q ∙ sym (told q'))
