-- Running relocated code, whatever the instruction is.
use Rattle.std.proofs.Common.{◌≡◌, ℕ, ◌+◌, ◌^◌, ◌<◌, ◌≤◌, Bool, true, false, not, ◌&&◌, cond, length, Option, Some, None, refl, sym, ap, ◌∙◌, subst, arith, true≢false}
use Rattle.std.proofs.lemmas.Bool.{ltb-true}
use Rattle.length_decode.specs.Spelling.{Fields, spelling, parts_of}
use Rattle.insn_form.specs.declared.form.AskedForm.{AskedForm}
use Rattle.insn_form.specs.declared.form.Target.TheVariants.{Rel, Through}
use Rattle.insn_form.specs.declared.form.Op.TheVariants.{Jcc, Loop, Jmp, Call, Ret}
use Rattle.insn_form.specs.declared.form.Insn.{Insn}
use Rattle.insn_form.specs.declared.form.Insn.TheVariants.{Exact, Asked, Ending}
use Rattle.insn_form.specs.Classes.{has_rip}
use Rattle.insn_form.specs.Instruction.{insn_of}
use Rattle.insn_form.specs.Displacing.{insn_rip, goes_to, is_low, code_length, displaced_len}
use Rattle.insn_form.specs.Moved.{direct_target, named}
use Rattle.insn_form.specs.Machine.{Machine}
use Rattle.insn_form.specs.Step.{StepsBy, next_after}
use Rattle.relocate_insn.specs.Relocating.{copy_of, asked_code, relocated_by, relocated_code}
use Rattle.relocate_insn.specs.Running.{IsReady, Works, RelocatedCodeWorks}
use Rattle.relocate_insn.proofs.FixedCode.{next_address}
use Rattle.relocate_insn.proofs.RipOperands.{rip_told}
use Rattle.relocate_insn.proofs.CopyRuns.{Given, copy_works}
use Rattle.relocate_insn.proofs.BranchRuns.{jump_works, branch_works, call_works}
use Rattle.relocate_insn.proofs.SyscallRuns.{syscall_works}
use Rattle.relocate_insn.proofs.CallRuns.{through_works}

module _ (set : ℕ → Bool) (f : Fields) (private place : ℕ) (s s' t : Machine) where
  abbrev next : ℕ
  next = next_after s.rip f

  -- a copy, behind which rcx gets the next address where it is that of SYSCALL
  asked_works : (form : AskedForm) (b : Bool) → form.syscall ≡ b → insn_of f ≡ Asked form
      → Given set f private place (asked_code b (copy_of f next place) next) s s' t
      → Works set (Asked form) private next place (length (asked_code b (copy_of f next place) next)) s' t
  asked_works form true y e g = syscall_works set f private place s s' t form e y g
  asked_works form false y e g = copy_works set f private place s s' t (Asked form) e refl (ap not y) (λ k. absurd (true≢false k)) g

  -- a line for each kind of instruction
  works_by : (x : Insn) (len n : ℕ) → insn_of f ≡ x → code_length x len ≡ Some n → is_low next (direct_target x) ≡ true
      → Given set f private place (relocated_by x private f next place) s s' t
      → Works set x private next place (length (relocated_by x private f next place)) s' t
  works_by (Exact (Jcc c z)) len n e h l g = branch_works set f private place s s' t c z e (ltb-true (goes_to next z) (2 ^ 31) l) g
  works_by (Exact (Loop kind z short)) len n e h l g = absurd cc
  works_by (Exact (Jmp (Rel z))) len n e h l g = jump_works set f private place s s' t z e (ltb-true (goes_to next z) (2 ^ 31) l) g
  works_by (Exact (Jmp (Through o))) len n e h l g =
      copy_works set f private place s s' t (Exact (Jmp (Through o))) e refl refl (λ k. refl) g
  works_by (Exact (Call (Rel z))) len n e h l g = call_works set f private place s s' t z e (ltb-true (goes_to next z) (2 ^ 31) l) g
  works_by (Exact (Call (Through o))) len n e h l g = through_works set f private place s s' t o e g
  works_by (Exact (Ret extra)) len n e h l g = copy_works set f private place s s' t (Exact (Ret extra)) e refl refl (λ k. refl) g
  works_by (Exact o) len n e h l g = copy_works set f private place s s' t (Exact o) e refl refl (λ k. absurd (true≢false k)) g
  works_by (Asked form) len n e h l g = asked_works form form.syscall refl e g
  works_by Ending len n e h l g = absurd cc

-- where two tests give a number, both hold, and the number is the one behind them
pub told_low : (a b : Bool) (o : Option ℕ) (n : ℕ) → cond (a && b) o None ≡ Some n → (a ≡ true) × (b ≡ true) × (o ≡ Some n)
told_low true true o n h = (refl, refl, h)
told_low true false o n h = absurd cc
told_low false b o n h = absurd cc

module _ (set : ℕ → Bool) (f : Fields) (private place n : ℕ) (s s' t : Machine) where
  -- there is code for the instruction at an address; it is ready; it works
  abbrev HasCode : ℕ → Type 0
  HasCode a = displaced_len (insn_of f) (length (spelling f)) a ≡ Some n

  abbrev ReadyFor : ℕ → Type 0
  ReadyFor a = IsReady set private 24 place (relocated_code private f (next_after a f) place) s t

  abbrev WorksFor : ℕ → Type 0
  WorksFor a = Works set (insn_of f) private (next_after a f) place (length (relocated_code private f (next_after a f) place)) s' t

  here_works : HasCode s.rip → s.rip + length (spelling f) ≤ 0x7FFF0000 → place < 0x7FFF0080 → StepsBy set f s s' → ReadyFor s.rip
      → WorksFor s.rip
  here_works d l k st r =
      let i = insn_of f in
      let len = length (spelling f) in
      let next = next_after s.rip f in
      let m : next ≡ s.rip + len = next_address s.rip len (omega arith) in
      let q = told_low (is_low (s.rip + len) (direct_target i)) (is_low (s.rip + len) (insn_rip i)) (code_length i len) n d in
      let low = ap (λ z. is_low z (direct_target i)) m ∙ q.0 in
      let named_low : is_low next (insn_rip i) ≡ true = ap (λ z. is_low z (insn_rip i)) m ∙ q.1 in
      let rip : has_rip (parts_of f) ≡ true → named f next < 2 ^ 31 =
      λ h. ltb-true (named f next) (2 ^ 31) (sym (ap (is_low next) (rip_told f len n st.at.spelled q.2 h)) ∙ named_low) in
      let given : Given set f private place (relocated_code private f next place) s s' t =
      record { step = st; rip = rip; next_low = omega (arith, m); place_low = k; ready = r } in
      works_by set f private place s s' t i len n refl q.2 low given

  start_works : (a : ℕ) → s.rip ≡ a → HasCode a → a + length (spelling f) ≤ 0x7FFF0000 → place < 0x7FFF0080 → StepsBy set f s s'
      → ReadyFor a → WorksFor a
  start_works a e d l k st r = subst WorksFor e (here_works (subst HasCode (sym e) d) (omega (arith, e)) k st (subst ReadyFor (sym e) r))

-- the law of relocated code: it does the work of the instruction
pub relocated_works : RelocatedCodeWorks
relocated_works f from place private n i d l k set s s' t at st r =
    let m : next_after from f ≡ from + length (spelling f) = next_address from (length (spelling f)) (omega arith) in
    let ready = subst (λ (z : ℕ). IsReady set private 24 place (relocated_code private f z place) s t) (sym m) r in
    subst (λ (z : ℕ). Works set (insn_of f) private (next_after from f) place (length (relocated_code private f z place)) s' t) m
    (start_works set f private place n s s' t from at d l k st ready)
