-- Running the code of direct branches.
use Rattle.std.proofs.Common.{◌≡◌, inl, inr, ℕ, zero, suc, ◌+◌, ◌^◌, ◌<◌, Bool, true, false, cond, List, [], ◌∷◌, ◌++◌, Some, None, unwrap_or, ℤ, refl, sym, ap, ◌∙◌, subst, arith}
use Rattle.std.proofs.lemmas.Bool.{and_parts, ltb-true}
use Rattle.pun_base.specs.Memory.{without}
use Rattle.cpu_state.specs.Bytes.{lacking, put_list, bytes_of, avoids}
use Rattle.cpu_state.specs.Fixed.{IsFixed}
use Rattle.cpu_state.specs.declared.state.Core.{Core}
use Rattle.cpu_state.proofs.MemoryFrames.{lacking_frame, put_list_frame, put_list_keeps}
use Rattle.length_decode.specs.Forms.{near_branch}
use Rattle.length_decode.specs.Spelling.{Fields, IsInstruction}
use Rattle.length_decode.proofs.NumberedOpcodes.{formed_branch}
use Rattle.insn_form.specs.declared.form.Target.TheVariants.{Rel}
use Rattle.insn_form.specs.declared.form.Insn.{Insn}
use Rattle.insn_form.specs.declared.form.Insn.TheVariants.{Exact}
use Rattle.insn_form.specs.declared.form.Op.TheVariants.{Jcc, Jmp, Call}
use Rattle.insn_form.specs.Operands.{word_of, reg, rsp}
use Rattle.insn_form.specs.Stack.{lowered}
use Rattle.insn_form.specs.Classes.{template}
use Rattle.insn_form.specs.Filling.{filled, integer_of}
use Rattle.insn_form.specs.Instruction.{insn_of}
use Rattle.insn_form.specs.Resolving.{absolute, resolved_insn}
use Rattle.insn_form.specs.Conditions.{is_met}
use Rattle.insn_form.specs.Displacing.{goes_to, has_condition}
use Rattle.insn_form.specs.Moved.{rel_bytes}
use Rattle.insn_form.specs.Meaning.{effect}
use Rattle.insn_form.specs.Machine.{Machine, first, view, standing_at, avoids_insn}
use Rattle.insn_form.specs.Step.{StepsBy, Step, next_after}
use Rattle.insn_form.specs.Runs.{nowhere}
use Rattle.insn_form.specs.Laws.{SameView}
use Rattle.insn_form.proofs.TaskCopies.{names_it}
use Rattle.insn_form.proofs.ConditionCodes.{condition_code}
use Rattle.relocate_insn.specs.Pieces.{jump_code, push_code}
use Rattle.relocate_insn.specs.Running.{Works}
use Rattle.relocate_insn.proofs.FixedCode.{fixed_front, fixed_back, fixed_after}
use Rattle.relocate_insn.proofs.PieceSteps.{lands, op_step, absolute_word, gone_to, jump_step, pushed, push_step, told}
use Rattle.relocate_insn.proofs.CopyRuns.{Given}

-- the code of a direct jump does its work
pub jump_works : (set : ℕ → Bool) (f : Fields) (private place : ℕ) (s s' t : Machine) (z : ℤ) → insn_of f ≡ Exact (Jmp (Rel z))
    → goes_to (next_after s.rip f) z < 2 ^ 31
    → Given set f private place (jump_code place (goes_to (next_after s.rip f) z)) s s' t
    → Works set (Exact (Jmp (Rel z))) private (next_after s.rip f) place 5 s' t
unfolding effect
jump_works set f private place s s' t z i low g =
    let next = next_after s.rip f in
    let target = goes_to next z in
    let r = g.ready in
    let pl = g.place_low in
    let x = told set s s' f (Jmp (Rel (absolute next z))) (ap (resolved_insn next) i) (λ n. refl) g.step in
    record {
      inner = [];
      end = gone_to t target;
      run = (jump_step t place target (omega arith) low r.there r.stands, tt);
      few = omega arith;
      inside = tt;
      seen = r.seen ∙ sym (ap (λ (y : Machine). standing_at 0 (view set y)) x.1);
      arrives = inl (sym (ap (λ (y : Machine). y.rip) x.1 ∙ absolute_word next z));
      kept = λ y k o. refl;
    }

-- 0F 80+cc is the branch on condition cc
pub branch_insn : (c : ℕ) (d : List ℕ) → c < 16 → insn_of (record (near_branch c 0 0 0 0) { imm = d }) ≡ Exact (Jcc c (integer_of d))
unfolding template filled
branch_insn zero d h = refl
branch_insn (suc zero) d h = refl
branch_insn (suc (suc zero)) d h = refl
branch_insn (suc (suc (suc zero))) d h = refl
branch_insn (suc (suc (suc (suc zero)))) d h = refl
branch_insn (suc (suc (suc (suc (suc zero))))) d h = refl
branch_insn (suc (suc (suc (suc (suc (suc zero)))))) d h = refl
branch_insn (suc (suc (suc (suc (suc (suc (suc zero))))))) d h = refl
branch_insn (suc (suc (suc (suc (suc (suc (suc (suc zero)))))))) d h = refl
branch_insn (suc (suc (suc (suc (suc (suc (suc (suc (suc zero))))))))) d h = refl
branch_insn (suc (suc (suc (suc (suc (suc (suc (suc (suc (suc zero)))))))))) d h = refl
branch_insn (suc (suc (suc (suc (suc (suc (suc (suc (suc (suc (suc zero))))))))))) d h = refl
branch_insn (suc (suc (suc (suc (suc (suc (suc (suc (suc (suc (suc (suc zero)))))))))))) d h = refl
branch_insn (suc (suc (suc (suc (suc (suc (suc (suc (suc (suc (suc (suc (suc zero))))))))))))) d h = refl
branch_insn (suc (suc (suc (suc (suc (suc (suc (suc (suc (suc (suc (suc (suc (suc zero)))))))))))))) d h = refl
branch_insn (suc (suc (suc (suc (suc (suc (suc (suc (suc (suc (suc (suc (suc (suc (suc zero))))))))))))))) d h = refl
branch_insn (suc (suc (suc (suc (suc (suc (suc (suc (suc (suc (suc (suc (suc (suc (suc (suc n)))))))))))))))) d h = absurd (omega arith)

-- after a branch that is taken or not
branched : Machine → Bool → ℕ → ℕ → Machine
branched s b target next = record { core = s.core; rip = cond b target next; mem = s.mem; world = s.world }

-- a branch leads to its target where it is taken, and else to the next instruction
pub taken : (b : Bool) (target next : ℕ) → unwrap_or (cond b (Some target) None) next ≡ cond b target next
taken true target next = refl
taken false target next = refl

branch_told : (set : ℕ → Bool) (s s' : Machine) (f : Fields) (c : ℕ) (z : ℤ) → insn_of f ≡ Exact (Jcc c z) → StepsBy set f s s'
    → s' ≡ branched s (is_met c s.core.flags) (goes_to (next_after s.rip f) z) (next_after s.rip f)
unfolding effect branched
branch_told set s s' f c z i st =
    let next = next_after s.rip f in
    let b = is_met c s.core.flags in
    let x = told set s s' f (Jcc c (absolute next z)) (ap (resolved_insn next) i) (λ n. refl) st in
    let rip = ap (λ w. unwrap_or (cond b (Some w) None) next) (absolute_word next z) ∙ taken b (goes_to next z) next in
    x.1 ∙ (λ j. record { core = s.core; rip = rip j; mem = s.mem; world = s.world })

branch_step : (t : Machine) (place c target : ℕ) → c < 16 → place + 6 < 2 ^ 31 → target < 2 ^ 31 → t.rip ≡ place
    → IsFixed t.mem place (0x0f ∷ (0x80 + c) ∷ rel_bytes (place + 6) target)
    → Step nowhere t (branched t (is_met c t.core.flags) target (place + 6))
unfolding effect branched
branch_step t place c target h l k r code =
    let d = rel_bytes (place + 6) target in
    let f = record (near_branch c 0 0 0 0) { imm = d } in
    let next = place + 6 in
    let b = is_met c t.core.flags in
    let is : IsInstruction f = record { formed = formed_branch c _ _ _ _ h; short = omega arith } in
    let st = op_step t place f (Jcc c (absolute next (integer_of d))) is (omega arith) r code (ap (resolved_insn next) (branch_insn c d h))
    (record { read = refl; write = refl }) refl in
    let w : word_of (absolute next (integer_of d)) ≡ target = absolute_word next (integer_of d) ∙ names_it next target l k in
    let rip = ap (λ y. unwrap_or (cond b (Some y) None) next) w ∙ taken b target next in
    lands (λ j. record { core = t.core; rip = rip j; mem = t.mem; world = t.world }) st

branch_by : (set : ℕ → Bool) (private place next target c : ℕ) (z : ℤ) (s s' t : Machine) (b : Bool) → SameView set t s
    → s' ≡ branched s b target next → Step nowhere t (branched t b target (place + 6))
    → Works set (Exact (Jcc c z)) private next place 6 s' t
unfolding branched
branch_by set private place next target c z s s' t true e x st = record {
  inner = [];
  end = branched t true target (place + 6);
  run = (st, tt);
  few = omega arith;
  inside = tt;
  seen = e ∙ sym (ap (λ (y : Machine). standing_at 0 (view set y)) x);
  arrives = inl (sym (ap (λ (y : Machine). y.rip) x));
  kept = λ y k o. refl;
}
branch_by set private place next target c z s s' t false e x st = record {
  inner = [];
  end = branched t false target (place + 6);
  run = (st, tt);
  few = omega arith;
  inside = tt;
  seen = e ∙ sym (ap (λ (y : Machine). standing_at 0 (view set y)) x);
  arrives = inr (refl, ap (λ (y : Machine). y.rip) x, refl);
  kept = λ y k o. refl;
}

-- the code of a conditional branch does its work
pub branch_works : (set : ℕ → Bool) (f : Fields) (private place : ℕ) (s s' t : Machine) (c : ℕ) (z : ℤ) → insn_of f ≡ Exact (Jcc c z)
    → goes_to (next_after s.rip f) z < 2 ^ 31
    → Given set f private place (0x0f ∷ (0x80 + c) ∷ rel_bytes (place + 6) (goes_to (next_after s.rip f) z)) s s' t
    → Works set (Exact (Jcc c z)) private (next_after s.rip f) place 6 s' t
branch_works set f private place s s' t c z i low g =
    let next = next_after s.rip f in
    let target = goes_to next z in
    let r = g.ready in
    let pl = g.place_low in
    let short : c < 16 = ltb-true c 16 (subst (λ (y : Insn). has_condition y ≡ true) i (condition_code f)) in
    let flags : is_met c t.core.flags ≡ is_met c s.core.flags = ap (λ (y : Machine). is_met c y.core.flags) r.seen in
    let one = branch_step t place c target short (omega arith) low r.there r.stands in
    branch_by set private place next target c z s s' t (is_met c s.core.flags) r.seen (branch_told set s s' f c z i g.step)
    (subst (λ (b : Bool). Step nowhere t (branched t b target (place + 6))) flags one)

-- the code of a direct call does its work
pub call_works : (set : ℕ → Bool) (f : Fields) (private place : ℕ) (s s' t : Machine) (z : ℤ) → insn_of f ≡ Exact (Call (Rel z))
    → goes_to (next_after s.rip f) z < 2 ^ 31
    → Given set f private place (push_code (next_after s.rip f) ++ jump_code (place + 5) (goes_to (next_after s.rip f) z)) s s' t
    → Works set (Exact (Call (Rel z))) private (next_after s.rip f) place 10 s' t
unfolding effect
call_works set f private place s s' t z i low g =
    let next = next_after s.rip f in
    let target = goes_to next z in
    let r = g.ready in
    let pl = g.place_low in
    let st = g.step in
    let res = ap (resolved_insn next) i in
    let x = told set s s' f (Call (Rel (absolute next z))) res (λ n. refl) st in
    let top = reg (lowered s.core) rsp in
    let core : t.core ≡ s.core = ap (λ (y : Machine). y.core) r.seen in
    let mem : without set t.mem ≡ without set s.mem = ap (λ (y : Machine). y.mem) r.seen in
    let apart = subst (λ (y : Insn). avoids_insn set y next s.core (first s.world) ≡ true) res st.apart in
    let quiet : avoids set top 8 ≡ true = (and_parts true (avoids set top 8) apart).1 in
    let free : lacking 2 t.mem top 8 ≡ None = lacking_frame set t.mem s.mem 2 top 8 mem quiet ∙ x.0.write in
    let held = ap (λ (y : Core). lacking 2 t.mem (reg (lowered y) rsp) 8) core ∙ free in
    let one = push_step t place next (omega arith) g.next_low r.there held
    (fixed_front t.mem place (push_code next) (jump_code (place + 5) target) r.stands) in
    let w = pushed t next (place + 5) in
    let here = fixed_after nowhere t w (place + 5) (jump_code (place + 5) target) one
    (fixed_back t.mem place (push_code next) (jump_code (place + 5) target) (omega arith) r.stands) in
    let two = jump_step w (place + 5) target (omega arith) low refl here in
    let m = put_list_frame set t.mem s.mem top (bytes_of 8 next) mem in
    let world = ap (λ (y : Machine). y.world) r.seen in
    let written = λ (y : Core). put_list t.mem (reg (lowered y) rsp) (bytes_of 8 next) in
    let seen : SameView set w (record { core = lowered s.core; rip = 0; mem = put_list s.mem top (bytes_of 8 next); world = s.world }) =
    (λ j. record { core = lowered (core j); rip = 0; mem = without set (written (core j)); world = world j })
    ∙ (λ j. record { core = lowered s.core; rip = 0; mem = m j; world = s.world }) in
    record {
      inner = w ∷ [];
      end = gone_to w target;
      run = (one, (two, tt));
      few = omega arith;
      inside = (omega arith, omega arith, tt);
      seen = seen ∙ sym (ap (λ (y : Machine). standing_at 0 (view set y)) x.1);
      arrives = inl (sym (ap (λ (y : Machine). y.rip) x.1 ∙ absolute_word next z));
      kept = λ y k o. put_list_keeps set t.mem (reg (lowered t.core) rsp) (bytes_of 8 next) y
          (ap (λ (y : Core). avoids set (reg (lowered y) rsp) 8) core ∙ quiet) k;
    }
