-- The effect step of relocated code, whatever the instruction is.
use Rattle.std.proofs.Common.{◌≡◌, ℕ, ◌+◌, ◌-◌, ◌^◌, ◌<◌, Bool, true, false, not, ◌++◌, length, length-append, replicate, Some, None, refl, sym, ap, ◌∙◌, subst, arith, true≢false}
use Rattle.std.proofs.lemmas.Bool.{ltb-true, eq-eqb}
use Rattle.cpu_state.specs.Fixed.{IsFixed}
use Rattle.length_decode.specs.Spelling.{Fields, spelling, parts_of}
use Rattle.insn_form.specs.declared.form.AskedForm.{AskedForm}
use Rattle.insn_form.specs.declared.form.Spot.TheVariants.{Reg, High, Mem}
use Rattle.insn_form.specs.declared.form.Target.TheVariants.{Rel, Through}
use Rattle.insn_form.specs.declared.form.Op.TheVariants.{Jcc, Loop, Jmp, Call, Ret}
use Rattle.insn_form.specs.declared.form.Insn.{Insn}
use Rattle.insn_form.specs.declared.form.Insn.TheVariants.{Exact, Asked, Ending}
use Rattle.insn_form.specs.Operands.{rsp}
use Rattle.insn_form.specs.Classes.{has_rip}
use Rattle.insn_form.specs.Instruction.{insn_of}
use Rattle.insn_form.specs.Resolving.{resolved_insn}
use Rattle.insn_form.specs.Displacing.{falls, goes_to, is_low, insn_rip, code_length, displaced_len}
use Rattle.insn_form.specs.Moved.{direct_target, named}
use Rattle.insn_form.specs.Laws.{is_steady}
use Rattle.insn_form.specs.Machine.{Machine}
use Rattle.insn_form.specs.Step.{next_after}
use Rattle.insn_form.specs.Again.{always_goes}
use Rattle.event_steps.specs.ThreadSteps.{thread_task}
use Rattle.relocate_insn.specs.Pieces.{jump_code, push_code, ecx_code}
use Rattle.relocate_insn.specs.Relocating.{copy_of, asked_code}
use Rattle.relocate_insn.proofs.FixedCode.{next_address, fixed_front}
use Rattle.relocate_insn.proofs.RelocatedLengths.{copy_length}
use Rattle.relocate_insn.proofs.RipOperands.{rip_told}
use Rattle.relocate_insn.proofs.CodeRuns.{told_low}
use Rattle.trampoline.specs.Trampolines.{back_if}
use Rattle.thread_runs.specs.ThreadCode.{jump_reg, thread_relocated, thread_work}
use Rattle.trampoline.specs.Atomic.{is_atomic}
use Rattle.thread_runs.specs.Work.{is_syscall, IsWork, AtWork, IsEffectStep}
use Rattle.thread_runs.proofs.LockInc.{thread_insn}
use Rattle.thread_runs.proofs.WorkCopies.{AtCopy, copy_both, syscall_both}
use Rattle.thread_runs.proofs.WorkBranches.{BothWays, jump_both, branch_both, call_both, call_reg_both}
use Rattle.thread_runs.proofs.WorkSize.{told}

-- where an instruction's relocated code stands, it stands as its own part and the jump back after that
pub work_stands : (f : Fields) (next to : ℕ) (x : Insn) (v : Machine) → insn_of f ≡ x → IsFixed v.mem to (thread_work f next to)
    → IsFixed v.mem to (thread_relocated x f next to ++ back_if (falls x) (to + length (thread_relocated x f next to)) next)
work_stands f next to x v e c = subst (λ y. IsFixed v.mem to (thread_relocated y f next to ++ back_if (falls y) (to + length (thread_relocated y f next to)) next)) e c

-- what relocated code is, where it stands
module _ (f : Fields) (addr next to : ℕ) (v : Machine) (w : IsWork f addr next to v) where
  abbrev len : ℕ
  len = length (spelling f)

  -- the instruction may be displaced where threads share memory, with relocated code of this size
  displaced : (is_atomic (insn_of f) ≡ true) × (displaced_len (insn_of f) len addr ≡ Some w.size)
  displaced = told (is_atomic (insn_of f)) (displaced_len (insn_of f) len addr) w.size w.displaced

  -- the addresses that the instruction names lie low, and its code has the size
  lows : (is_low (addr + len) (direct_target (insn_of f)) ≡ true) × (is_low (addr + len) (insn_rip (insn_of f)) ≡ true) × (code_length (insn_of f) len ≡ Some w.size)
  lows = told_low (is_low (addr + len) (direct_target (insn_of f))) (is_low (addr + len) (insn_rip (insn_of f))) (code_length (insn_of f) len) w.size displaced.1

  -- the address after the instruction is below 2^31
  pub next_low : next < 2 ^ 31
  next_low = let l = w.low in omega arith

  -- an address that the instruction names by its distance from RIP is below 2^31
  pub rip_low : has_rip (parts_of f) ≡ true → named f next < 2 ^ 31
  rip_low h =
      let k : is_low next (insn_rip (insn_of f)) ≡ true = ap (λ z. is_low z (insn_rip (insn_of f))) w.behind ∙ lows.1 in
      ltb-true (named f next) (2 ^ 31) (sym (ap (is_low next) (rip_told f len w.size w.spelled lows.2 h)) ∙ k)

  module _ (x : Insn) (e : insn_of f ≡ x) where
    -- where the instruction has a direct target, that is below 2^31
    pub direct_low : is_low next (direct_target x) ≡ true
    direct_low = ap (λ z. is_low z (direct_target x)) w.behind ∙ subst (λ z. is_low (addr + len) (direct_target z) ≡ true) e lows.0

    -- the instruction is no call through memory or through rsp
    pub atomic : is_atomic x ≡ true
    atomic = ap is_atomic (sym e) ∙ displaced.0

    -- the instruction's relocated code has a length, and it is the one that was taken for it
    pub has_length : code_length x len ≡ Some w.size
    has_length = ap (λ z. code_length z len) (sym e) ∙ lows.2

    -- the relocated code stands at its place, with the jump back after it where the instruction goes on
    pub whole : IsFixed v.mem to (thread_relocated x f next to ++ back_if (falls x) (to + length (thread_relocated x f next to)) next)
    whole = work_stands f next to x v e w.stands

    -- without the jump back it stands there too
    pub relocated_stands : IsFixed v.mem to (thread_relocated x f next to)
    relocated_stands = fixed_front v.mem to (thread_relocated x f next to) (back_if (falls x) (to + length (thread_relocated x f next to)) next) whole

    -- the relocated code ends below 2^31, with the jump back
    pub whole_low : to + length (thread_relocated x f next to ++ back_if (falls x) (to + length (thread_relocated x f next to)) next) < 2 ^ 31
    whole_low = subst (λ y. to + length (thread_relocated y f next to ++ back_if (falls y) (to + length (thread_relocated y f next to)) next) < 2 ^ 31) e w.place_low

    -- the relocated code has as many bytes as its own part and the jump back together
    pub whole_length : length (thread_relocated x f next to ++ back_if (falls x) (to + length (thread_relocated x f next to)) next) ≡ length (thread_relocated x f next to) + length (back_if (falls x) (to + length (thread_relocated x f next to)) next)
    whole_length = length-append (thread_relocated x f next to) (back_if (falls x) (to + length (thread_relocated x f next to)) next)

    -- the part before the jump back ends below 2^31
    pub relocated_low : to + length (thread_relocated x f next to) < 2 ^ 31
    relocated_low = omega (arith, whole_low, whole_length)

module _ (hidden stale : ℕ → Bool) (f : Fields) (next to : ℕ) (s u : Machine) (w : AtWork hidden stale f next to s u) where
  abbrev wide : ℕ
  wide = length (spelling f)

  -- the address after the instruction is the given one
  behind : next_after s.rip f ≡ next
  behind = (let l = w.work.low in let b = w.work.behind in next_address s.rip wide (omega (arith, b))) ∙ sym w.work.behind

  -- a copy of the instruction stands at the relocated code's place
  at_copy : (x : Insn) → insn_of f ≡ x → IsFixed u.mem to (copy_of f next to) → to + wide < 2 ^ 31 → direct_target x ≡ None → AtCopy hidden stale f next to s u
  at_copy x e c l d = record {
    here = w.here;
    behind = behind;
    there = w.there;
    copy = c;
    low = l;
    direct = ap direct_target e ∙ d;
    rip = rip_low f s.rip next to u w.work;
    alike = w.alike;
    apart = w.apart;
    fresh = w.fresh;
  }

  -- a copy makes the same effect step, both ways
  copied : (x : Insn) (e : insn_of f ≡ x) → thread_relocated x f next to ≡ copy_of f next to → direct_target x ≡ None → is_syscall x ≡ false → is_steady (resolved_insn next x) ≡ true
      → (falls x ≡ false → always_goes (thread_task f next).insn ≡ true) → BothWays hidden stale f next to s u
  copied x e c d plain steady goes =
      let l = relocated_low f s.rip next to u w.work x e in
      let n : length (thread_relocated x f next to) ≡ wide = ap length c ∙ copy_length f next to w.here.spelled in
      copy_both hidden stale f next to s u (at_copy x e (subst (IsFixed u.mem to) c (relocated_stands f s.rip next to u w.work x e)) (omega (arith, n, l)) d)
      (ap (λ y. length (thread_relocated y f next to)) e ∙ ap length c) (ap is_syscall e ∙ plain) (ap (λ y. is_steady (resolved_insn next y)) e ∙ steady) (λ k. goes (ap falls (sym e) ∙ k))

  -- the code of an asked instruction makes the same effect step, both ways
  asked : (form : AskedForm) (b : Bool) → form.syscall ≡ b → insn_of f ≡ Asked form → thread_relocated (Asked form) f next to ≡ asked_code b (copy_of f next to) next → BothWays hidden stale f next to s u
  asked form false y e c = copied (Asked form) e c refl y (ap not y) (λ k. absurd (true≢false k))
  asked form true y e c =
      let l = relocated_low f s.rip next to u w.work (Asked form) e in
      let n : length (thread_relocated (Asked form) f next to) ≡ wide + 5 = ap length c ∙ length-append (copy_of f next to) (ecx_code next) ∙ ap (λ z. z + 5) (copy_length f next to w.here.spelled) in
      syscall_both hidden stale f next to s u
      (at_copy (Asked form) e (fixed_front u.mem to (copy_of f next to) (ecx_code next) (subst (IsFixed u.mem to) c (relocated_stands f s.rip next to u w.work (Asked form) e))) (omega (arith, n, l)) refl) form e y

  -- any relocated code makes the same effect step, both ways
  works_by : (x : Insn) → insn_of f ≡ x → code_length x wide ≡ Some w.work.size → is_atomic x ≡ true → BothWays hidden stale f next to s u
  works_by (Exact (Jcc c z)) e h a =
      let x = Exact (Jcc c z) in
      branch_both hidden stale f next to s u w.here behind w.there w.alike w.apart (next_low f s.rip next to u w.work) c z e
      (ltb-true (goes_to next z) (2 ^ 31) (direct_low f s.rip next to u w.work x e)) (relocated_low f s.rip next to u w.work x e) (relocated_stands f s.rip next to u w.work x e)
  works_by (Exact (Loop kind z short)) e h a = absurd cc
  works_by (Exact (Jmp (Rel z))) e h a =
      let x = Exact (Jmp (Rel z)) in
      jump_both hidden stale f next to s u w.here behind w.there w.alike w.apart (next_low f s.rip next to u w.work) z e
      (ltb-true (goes_to next z) (2 ^ 31) (direct_low f s.rip next to u w.work x e)) (relocated_low f s.rip next to u w.work x e) (relocated_stands f s.rip next to u w.work x e)
  works_by (Exact (Jmp (Through o))) e h a = copied (Exact (Jmp (Through o))) e refl refl refl refl (λ k. ap always_goes (thread_insn f (Jmp (Through o)) next e))
  works_by (Exact (Call (Rel z))) e h a =
      let x = Exact (Call (Rel z)) in let l = relocated_low f s.rip next to u w.work x e in
      call_both hidden stale f next to s u w.here behind w.there w.alike w.apart (next_low f s.rip next to u w.work) z e
      (omega (arith, l)) (fixed_front u.mem to (push_code next) (jump_code (to + 5) (goes_to next z)) (relocated_stands f s.rip next to u w.work x e))
  works_by (Exact (Call (Through (Reg r)))) e h a =
      let x = Exact (Call (Through (Reg r))) in let l = relocated_low f s.rip next to u w.work x e in
      let pads = jump_reg r ++ replicate (34 - length (jump_reg r)) 0x90 in
      let n = length-append (push_code next) pads in
      call_reg_both hidden stale f next to s u w.here behind w.there w.alike w.apart (next_low f s.rip next to u w.work) r e
      (λ q. true≢false (sym a ∙ ap not (eq-eqb r rsp q))) (omega (arith, l, n)) (fixed_front u.mem to (push_code next) pads (relocated_stands f s.rip next to u w.work x e))
  works_by (Exact (Call (Through (High r)))) e h a = absurd (true≢false (sym a))
  works_by (Exact (Call (Through (Mem m)))) e h a = absurd (true≢false (sym a))
  works_by (Exact (Ret extra)) e h a = copied (Exact (Ret extra)) e refl refl refl refl (λ k. ap always_goes (thread_insn f (Ret extra) next e))
  works_by (Exact o) e h a = copied (Exact o) e refl refl refl refl (λ k. absurd (true≢false k))
  works_by (Asked form) e h a = asked form form.syscall refl e refl
  works_by Ending e h a = absurd cc

-- of an instruction and its relocated code, where one has its step the other has it too, with the same effect
pub effect_step : IsEffectStep
effect_step hidden stale f next to s u w =
    let x = insn_of f in
    works_by hidden stale f next to s u w x refl (has_length f s.rip next to u w.work x refl) (atomic f s.rip next to u w.work x refl)
