-- Running the code of SYSCALL.
use Rattle.std.proofs.Common.{◌≡◌, inr, ℕ, ◌+◌, ◌<◌, Bool, true, [], ◌∷◌, ◌++◌, length, None, Ok, refl, sym, ap, ◌∙◌, subst, arith, length-append}
use Rattle.std.proofs.lemmas.List.{set-set}
use Rattle.pun_base.specs.Memory.{without}
use Rattle.cpu_state.specs.declared.state.Core.{Core}
use Rattle.length_decode.specs.Spelling.{Fields, spelling}
use Rattle.cpu_state.specs.Fixed.{IsFixed}
use Rattle.insn_form.specs.declared.form.AskedForm.{AskedForm}
use Rattle.insn_form.specs.declared.form.Insn.{Insn}
use Rattle.insn_form.specs.declared.form.Insn.TheVariants.{Asked}
use Rattle.insn_form.specs.Instruction.{insn_of}
use Rattle.insn_form.specs.Resolving.{resolved_insn}
use Rattle.insn_form.specs.Moved.{direct_target}
use Rattle.insn_form.specs.Operands.{with_reg, rcx}
use Rattle.insn_form.specs.Machine.{Machine, act, view, standing_at, leaves}
use Rattle.insn_form.specs.Step.{next_after, question_of}
use Rattle.insn_form.specs.Runs.{nowhere}
use Rattle.insn_form.specs.Laws.{SameView}
use Rattle.insn_form.specs.Again.{with_rcx}
use Rattle.insn_form.proofs.UniqueSteps.{same_ok}
use Rattle.insn_form.proofs.RepeatedSteps.{syscall_copied}
use Rattle.insn_form.proofs.SpellingSlices.{imm_ends}
use Rattle.relocate_insn.specs.Pieces.{ecx_code}
use Rattle.relocate_insn.specs.Relocating.{copy_of}
use Rattle.relocate_insn.specs.Running.{Works}
use Rattle.relocate_insn.proofs.FixedCode.{fixed_front, fixed_back, fixed_after}
use Rattle.relocate_insn.proofs.RelocatedLengths.{copy_length}
use Rattle.relocate_insn.proofs.PieceSteps.{with_ecx, ecx_step}
use Rattle.relocate_insn.proofs.CopyRuns.{Given, copy_step}

-- an asked instruction names its address in the question
abbrev told_form : AskedForm → AskedForm
told_form form = record { rip_disp = None; syscall = form.syscall; copied = form.copied }

-- a register that is set twice
twice : (c : Core) (a b : ℕ) → with_reg (with_reg c rcx a) rcx b ≡ with_reg c rcx b
twice c a b = let e = set-set c.regs rcx a b in λ j. record { regs = e j; flags = c.flags; fs = c.fs; gs = c.gs }

-- the copy of SYSCALL, with the next address moved to ecx behind it, does its work
pub syscall_works : (set : ℕ → Bool) (f : Fields) (private place : ℕ) (s s' t : Machine) (form : AskedForm) → insn_of f ≡ Asked form
    → form.syscall ≡ true
    → Given set f private place (copy_of f (next_after s.rip f) place ++ ecx_code (next_after s.rip f)) s s' t
    → Works set (Asked form) private (next_after s.rip f) place
    (length (copy_of f (next_after s.rip f) place ++ ecx_code (next_after s.rip f))) s' t
syscall_works set f private place s s' t form i y g =
    let next = next_after s.rip f in
    let next' = place + length (spelling f) in
    let r = g.ready in
    let pl = g.place_low in
    let st = g.step in
    let short = st.at.spelled.short in
    let some : 0 < length (spelling f) = omega (arith, imm_ends f) in
    let copy = copy_of f next place in
    let code = ecx_code next in
    let long : length copy ≡ length (spelling f) = copy_length f next place st.at.spelled in
    let size : length (copy ++ code) ≡ length (spelling f) + 5 = omega (arith, length-append copy code, long) in
    let q = question_of f next in
    let res : resolved_insn next (insn_of f) ≡ Asked (told_form form) = ap (resolved_insn next) i in
    let acts = subst (λ (z : Insn). act (record { insn = z; asks = q }) next s ≡ Ok s') res st.acts in
    let apart = subst (λ (z : Insn). leaves set (record { insn = z; asks = q }) next s ≡ true) res st.apart in
    let o = syscall_copied set (told_form form) q next next' s t s' y (sym r.seen) apart acts in
    let w = o.0 in
    let acts' = subst (λ (z : Insn). act (record { insn = z; asks = q }) next' t ≡ Ok w) (sym res) o.1 in
    let one = copy_step place next f t w st.at.spelled (ap direct_target i) g.rip (omega arith) r.there
    (fixed_front t.mem place copy code r.stands) acts' in
    let behind = subst (λ (z : ℕ). IsFixed t.mem (place + z) code) long (fixed_back t.mem place copy code (omega (arith, long)) r.stands) in
    let two = ecx_step w next' next (omega arith) g.next_low o.2.other (fixed_after nowhere t w next' code one behind) in
    let own = syscall_copied set (told_form form) q next next s s s' y refl apart acts in
    let kept_rcx : SameView set (with_rcx next s') s' =
    own.2.same ∙ ap (λ (z : Machine). standing_at 0 (view set z)) (same_ok own.0 s' (sym own.1 ∙ acts)) in
    record {
      inner = w ∷ [];
      end = with_ecx w next (next' + 5);
      run = (one, (two, tt));
      few = omega arith;
      inside = (omega (arith, o.2.other, some), omega (arith, o.2.other, size), tt);
      seen = ap (λ (z : Machine). with_ecx z next 0) (sym o.2.same)
          ∙ (λ j. record { core = twice s'.core next' next j; rip = 0; mem = without set s'.mem; world = s'.world }) ∙ kept_rcx;
      arrives = inr (refl, o.2.own, (let e : next' + 5 ≡ place + length (copy ++ code) = omega (arith, size) in e));
      kept = λ x k z. o.3 x k;
    }
