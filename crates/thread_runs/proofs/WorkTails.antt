-- Behind the effect step: which instruction of the trampoline stands there, where, and where it leads.
use Rattle.std.proofs.Common.{◌≡◌, ℕ, ◌+◌, ◌-◌, ◌%◌, ◌^◌, ◌<◌, Bool, true, false, ◌++◌, length, length-append, replicate, Some, None, refl, sym, ap, ◌∙◌, subst, arith, true≢false, List, []}
use Rattle.std.proofs.lemmas.Bool.{ltb-true}
use Rattle.std.specs.Prelude.{nat_lt}
use Rattle.std.proofs.lemmas.List.{length-replicate}
use Rattle.cpu_alu.specs.declared.operation.Width.TheVariants.{W64}
use Rattle.cpu_alu.specs.Widths.{cut}
use Rattle.cpu_state.specs.declared.state.Core.{Core}
use Rattle.cpu_state.specs.Fixed.{IsFixed}
use Rattle.length_decode.specs.Spelling.{Fields, spelling, IsInstruction}
use Rattle.insn_form.specs.declared.form.AskedForm.{AskedForm}
use Rattle.insn_form.specs.declared.form.Spot.TheVariants.{Reg, High, Mem}
use Rattle.insn_form.specs.declared.form.Target.TheVariants.{Rel, Through}
use Rattle.insn_form.specs.declared.form.Op.{Op}
use Rattle.insn_form.specs.declared.form.Op.TheVariants.{Jcc, Loop, Jmp, Call, Ret}
use Rattle.insn_form.specs.declared.form.Insn.{Insn}
use Rattle.insn_form.specs.declared.form.Insn.TheVariants.{Exact, Asked, Ending}
use Rattle.insn_form.specs.Operands.{reg, with_reg, rcx}
use Rattle.insn_form.specs.Instruction.{insn_of}
use Rattle.insn_form.specs.Displacing.{falls, goes_to, is_low, insn_rip, code_length, displaced_len}
use Rattle.insn_form.specs.Filling.{integer_of}
use Rattle.insn_form.specs.Meaning.{effect}
use Rattle.insn_form.specs.Moved.{direct_target, rel_bytes}
use Rattle.insn_form.specs.Machine.{Machine, avoids_span}
use Rattle.insn_form.specs.Exactly.{after_op, HasOperands}
use Rattle.insn_form.proofs.TaskCopies.{names_it}
use Rattle.relocate_insn.specs.Pieces.{jump_code, push_code, ecx_code}
use Rattle.relocate_insn.specs.Relocating.{copy_of, asked_code}
use Rattle.relocate_insn.proofs.FixedCode.{fixed_front, fixed_back}
use Rattle.relocate_insn.proofs.RelocatedLengths.{copy_length}
use Rattle.relocate_insn.proofs.PieceSteps.{absolute_word, jump_fields, ecx_fields, ecx_word}
use Rattle.relocate_insn.proofs.CodeRuns.{told_low}
use Rattle.trampoline.specs.Trampolines.{back_if}
use Rattle.thread_runs.specs.ThreadCode.{jump_reg, thread_relocated, thread_work}
use Rattle.trampoline.specs.Atomic.{is_atomic}
use Rattle.thread_runs.specs.Work.{Tail, InTail, is_call, is_syscall, call_target, IsWork, TailNext, IsTailStep, left}
use Rattle.thread_runs.specs.Work.Tail.{Out, Back, Jump, Ecx}
use Rattle.event_steps.proofs.KnownCodeSteps.{IsKnown, known_step, known_told}
use Rattle.thread_runs.proofs.KnownPieces.{jump_op, known_jump, ecx_op, known_ecx, reg_fields, reg_length, known_reg, call_reg}
use Rattle.insn_form.proofs.UniqueSteps.{one_instruction}
use Rattle.insn_form.proofs.SpellingSlices.{imm_ends}
use Rattle.thread_runs.specs.Premises.{reads_nothing_of}
use Rattle.thread_runs.specs.StepLaws.{writes_of, WorkLong, TailTouches, TailInside}
use Rattle.thread_runs.proofs.RelocatedTouches.{known_reads, known_writes}
use Rattle.thread_runs.proofs.EffectSteps.{next_low, direct_low, atomic, has_length, whole, relocated_stands, whole_low, whole_length, relocated_low}
use Rattle.thread_runs.proofs.WorkSize.{told}

-- relocated code has a byte
spelled_some : (f : Fields) → 0 < length (spelling f)
spelled_some f = omega (arith, imm_ends f)

-- the code of an asked instruction has a byte where its copy has one
asked_some : (b : Bool) (copy : List ℕ) (next : ℕ) → 0 < length copy → 0 < length (asked_code b copy next)
asked_some true copy next h = omega (arith, length-append copy (ecx_code next))
asked_some false copy next h = h

-- the relocated code of an instruction for threads has a byte
code_some : (f : Fields) (next to : ℕ) (x : Insn) (size : ℕ) → IsInstruction f → code_length x (length (spelling f)) ≡ Some size → is_atomic x ≡ true → 0 < length (thread_relocated x f next to)
code_some f next to (Exact (Jcc c z)) size i h a = omega arith
code_some f next to (Exact (Loop kind z short)) size i h a = absurd cc
code_some f next to (Exact (Jmp (Rel z))) size i h a = omega arith
code_some f next to (Exact (Jmp (Through o))) size i h a = omega (arith, copy_length f next to i, spelled_some f)
code_some f next to (Exact (Call (Rel z))) size i h a = omega arith
code_some f next to (Exact (Call (Through (Reg r)))) size i h a = omega (arith, length-append (push_code next) (jump_reg r ++ replicate (34 - length (jump_reg r)) 0x90))
code_some f next to (Exact (Call (Through (High r)))) size i h a = absurd (true≢false (sym a))
code_some f next to (Exact (Call (Through (Mem m)))) size i h a = absurd (true≢false (sym a))
code_some f next to (Exact (Ret extra)) size i h a = omega (arith, copy_length f next to i, spelled_some f)
code_some f next to (Exact o) size i h a = omega (arith, copy_length f next to i, spelled_some f)
code_some f next to (Asked form) size i h a = asked_some form.syscall (copy_of f next to) next (omega (arith, copy_length f next to i, spelled_some f))
code_some f next to Ending size i h a = absurd cc

-- relocated code has a byte
pub work_long : WorkLong
work_long f next to size len addr i l h =
    let x = insn_of f in
    let d = told (is_atomic x) (displaced_len x len addr) size h in
    let q = told_low (is_low (addr + len) (direct_target x)) (is_low (addr + len) (insn_rip x)) (code_length x len) size d.1 in
    let some = code_some f next to x size i (ap (code_length x) l ∙ q.2) d.0 in
    omega (arith, some, length-append (thread_relocated x f next to) (back_if (falls x) (to + length (thread_relocated x f next to)) next))

-- after the effect step: which instruction stands there, and where
module _ (f : Fields) (addr next to : ℕ) (c : Core) (rip : ℕ) (v : Machine) (w : IsWork f addr next to v) where
  record TailCode (k : Tail) : Type 0 where
    fields : Fields
    next' : ℕ
    op : Op
    known : IsKnown v fields next' op
    held : HasOperands v next' op
    calm : (effect op next' v.core).read ≡ None
    nothing : (effect op next' v.core).write ≡ None
    leads : TailNext f next to k c rip v (after_op v next' op)
    after : to < v.rip
    inside : v.rip < to + length (thread_work f next to)

  -- the relocated code has a byte
  some : (x : Insn) → insn_of f ≡ x → 0 < length (thread_relocated x f next to)
  some x e = code_some f next to x w.size w.spelled (has_length f addr next to v w x e) (atomic f addr next to v w x e)

  -- at the jump back stands a jump to the next address
  back_code : InTail f next to Back c rip v → TailCode Back
  unfolding effect
  back_code t =
      let x = insn_of f in
      let b = to + length (thread_relocated x f next to) in
      let l = whole_low f addr next to v w x refl in let n = whole_length f addr next to v w x refl in
      let five : length (back_if (falls x) b next) ≡ 5 = ap (λ z. length (back_if z b next)) t.0 in
      let here : IsFixed v.mem b (jump_code b next) = subst (λ z. IsFixed v.mem b (back_if z b next)) t.0
      (fixed_back v.mem to (thread_relocated x f next to) (back_if (falls x) b next) (omega (arith, l, n)) (whole f addr next to v w x refl)) in
      record {
        fields = jump_fields (rel_bytes (b + 5) next);
        next' = b + 5;
        op = jump_op b next;
        known = known_jump v b next (omega (arith, l, n, five)) t.2 here;
        held = record { read = refl; write = refl };
        calm = refl;
        nothing = refl;
        leads = record {
          tail = Out;
          fewer = omega arith;
          there = (t.1, absolute_word (b + 5) (integer_of (rel_bytes (b + 5) next)) ∙ names_it (b + 5) next (omega (arith, l, n, five)) (next_low f addr next to v w) ∙ sym t.3);
          mem = refl;
          world = refl;
        };
        after = omega (arith, t.2, some x refl);
        inside = omega (arith, t.2, n, five);
      }

  -- after the PUSH of a call stands a jump to the call's target
  jump_code_of : (x : Insn) → insn_of f ≡ x → InTail f next to Jump c rip v → is_call x ≡ true → TailCode Jump
  unfolding effect
  jump_code_of (Exact (Call (Rel z))) e t h =
      let x = Exact (Call (Rel z)) in
      let target = goes_to next z in
      let l = relocated_low f addr next to v w x e in
      let b = to + 5 in
      let long : length (thread_work f next to) ≡ 10 = ap (λ y. length (thread_relocated y f next to ++ back_if (falls y) (to + length (thread_relocated y f next to)) next)) e in
      record {
        fields = jump_fields (rel_bytes (b + 5) target);
        next' = b + 5;
        op = jump_op b target;
        known = known_jump v b target (omega (arith, l)) t.2 (fixed_back v.mem to (push_code next) (jump_code b target) (omega (arith, l)) (relocated_stands f addr next to v w x e));
        held = record { read = refl; write = refl };
        calm = refl;
        nothing = refl;
        leads = record {
          tail = Out;
          fewer = omega arith;
          there = (t.1, absolute_word (b + 5) (integer_of (rel_bytes (b + 5) target)) ∙ names_it (b + 5) target (omega (arith, l)) (ltb-true target (2 ^ 31) (direct_low f addr next to v w x e)) ∙ sym (ap (λ y. call_target y next c) e) ∙ sym t.3);
          mem = refl;
          world = refl;
        };
        after = omega (arith, t.2);
        inside = omega (arith, t.2, long);
      }
  jump_code_of (Exact (Call (Through (Reg r)))) e t h =
      let x = Exact (Call (Through (Reg r))) in
      let l = relocated_low f addr next to v w x e in
      let b = to + 5 in
      let k : ℕ = 34 - length (jump_reg r) in
      let pads : List ℕ = replicate k 0x90 in
      let n : length (push_code next ++ (jump_reg r ++ pads)) ≡ 5 + length (jump_reg r ++ pads) = length-append (push_code next) (jump_reg r ++ pads) in
      let m : length (jump_reg r ++ pads) ≡ length (jump_reg r) + length pads = length-append (jump_reg r) pads in
      let p = reg_length (nat_lt r 8) (0xe0 + r % 8) in
      let q : length pads ≡ k = length-replicate {A = ℕ} k 0x90 in
      let long : length (thread_work f next to) ≡ length ((push_code next ++ (jump_reg r ++ pads)) ++ []) = ap (λ y. length (thread_relocated y f next to ++ back_if (falls y) (to + length (thread_relocated y f next to)) next)) e in
      let a : length ((push_code next ++ (jump_reg r ++ pads)) ++ []) ≡ length (push_code next ++ (jump_reg r ++ pads)) + 0 = length-append (push_code next ++ (jump_reg r ++ pads)) [] in
      record {
        fields = reg_fields r;
        next' = b + length (jump_reg r);
        op = Jmp (Through (Reg r));
        known = known_reg v b r (call_reg f r e) (omega (arith, l, n, m, p, q)) t.2
            (fixed_front v.mem b (jump_reg r) pads (fixed_back v.mem to (push_code next) (jump_reg r ++ pads) (omega (arith, l, n)) (relocated_stands f addr next to v w x e)));
        held = record { read = refl; write = refl };
        calm = refl;
        nothing = refl;
        leads = record { tail = Out; fewer = omega arith; there = (t.1, ap (λ z. cut W64 (reg z r)) t.1 ∙ sym (ap (λ y. call_target y next c) e) ∙ sym t.3); mem = refl; world = refl };
        after = omega (arith, t.2);
        inside = omega (arith, t.2, long, a, n, m, p, q);
      }
  jump_code_of (Exact (Call (Through (High r)))) e t h = absurd (true≢false (sym (atomic f addr next to v w (Exact (Call (Through (High r)))) e)))
  jump_code_of (Exact (Call (Through (Mem m)))) e t h = absurd (true≢false (sym (atomic f addr next to v w (Exact (Call (Through (Mem m)))) e)))
  jump_code_of x e t h = absurd (true≢false (sym h))

  -- after an asked SYSCALL stands MOV ecx
  ecx_code_of : (form : AskedForm) → insn_of f ≡ Asked form → form.syscall ≡ true → InTail f next to Ecx c rip v → TailCode Ecx
  unfolding effect
  ecx_code_of form e y t =
      let x = Asked form in
      let code : thread_relocated x f next to ≡ copy_of f next to ++ ecx_code next = ap (λ b. asked_code b (copy_of f next to) next) y in
      let l = relocated_low f addr next to v w x e in
      let len' : ℕ = length (spelling f) in
      let n = copy_length f next to w.spelled in
      let m : length (thread_relocated x f next to) ≡ len' + 5 = ap length code ∙ length-append (copy_of f next to) (ecx_code next) ∙ ap (λ z. z + 5) n in
      let m' : length (thread_relocated (insn_of f) f next to) ≡ len' + 5 = ap (λ z. length (thread_relocated z f next to)) e ∙ m in
      let a = whole_length f addr next to v w (insn_of f) refl in
      record {
        fields = ecx_fields next;
        next' = to + len' + 5;
        op = ecx_op next;
        known = known_ecx v (to + len') next (omega (arith, l, m)) t.2 (subst (λ z. IsFixed v.mem (to + z) (ecx_code next)) n
            (fixed_back v.mem to (copy_of f next to) (ecx_code next) (omega (arith, l, m, n)) (subst (IsFixed v.mem to) code (relocated_stands f addr next to v w x e))));
        held = record { read = refl; write = refl };
        calm = refl;
        nothing = refl;
        leads = record {
          tail = Back;
          fewer = omega arith;
          there = (ap falls e, ap (with_reg v.core rcx) (ecx_word next (next_low f addr next to v w)) ∙ t.1, (let ends : to + len' + 5 ≡ to + length (thread_relocated x f next to) = omega (arith, m) in ends ∙ ap (λ z. to + length (thread_relocated z f next to)) (sym e)), t.3);
          mem = refl;
          world = refl;
        };
        after = omega (arith, t.2, spelled_some f);
        inside = omega (arith, t.2, m', a);
      }

  -- after SYSCALL stands MOV ecx
  ecx_code_by : (x : Insn) → insn_of f ≡ x → is_syscall x ≡ true → InTail f next to Ecx c rip v → TailCode Ecx
  ecx_code_by (Exact op) e h t = absurd (true≢false (sym h))
  ecx_code_by (Asked form) e h t = ecx_code_of form e h t
  ecx_code_by Ending e h t = absurd (true≢false (sym h))

  -- at each place of a trampoline after the effect step stands its instruction
  tail_code : (k : Tail) → 0 < left k → InTail f next to k c rip v → TailCode k
  tail_code Out p t = absurd (omega arith)
  tail_code Back p t = back_code t
  tail_code Jump p t = jump_code_of (insn_of f) refl t t.0
  tail_code Ecx p t = ecx_code_by (insn_of f) refl t.0 t

-- after the effect step no instruction of the trampoline reads or writes a byte
pub tail_touches : TailTouches
tail_touches f g addr next to k c rip v p w t at set' =
    let q = tail_code f addr next to c rip v w k p t in
    let e : g ≡ q.fields = one_instruction v g q.fields at q.known.at in (
      ap (λ z. reads_nothing_of set' z v) e ∙ known_reads set' v q.fields q.next' q.op q.known.behind q.known.insn ∙ ap (avoids_span set') q.calm,
      ap (λ z. writes_of set' z v) e ∙ known_writes set' v q.fields q.next' q.op q.known.behind q.known.insn ∙ ap (avoids_span set') q.nothing,
    )

-- after the effect step a thread stands inside the relocated code, past its first byte
pub tail_inside : TailInside
tail_inside f addr next to k c rip v p w t = let q = tail_code f addr next to c rip v w k p t in (q.after, q.inside)

-- after the effect step there is one step at each place of the trampoline, and it leads on
pub tail_step : IsTailStep
tail_step f addr next to k c rip v p w t =
    let q = tail_code f addr next to c rip v w k p t in (
      (after_op v q.next' q.op, (q.fields, known_step v q.fields q.next' q.op q.known q.held), q.leads),
      λ z st. subst (TailNext f next to k c rip v) (sym (known_told v q.fields q.next' q.op q.known z st).1) q.leads,
    )
