-- LOCK XADD of four bytes at an address with eax, as threads read it: it adds as ADD does, and loads what it read.
use Rattle.std.proofs.Common.{◌≡◌, ℕ, true, List, [], ◌∷◌, length, Some, Ok, refl, sym, ap, ◌∙◌, subst, arith}
use Rattle.cpu_alu.specs.declared.operation.Width.TheVariants.{W32}
use Rattle.cpu_alu.specs.declared.operation.AluOp.TheVariants.{Add}
use Rattle.length_decode.specs.declared.escape_bytes.Escape.TheVariants.{TwoByte}
use Rattle.length_decode.specs.Spelling.{Fields}
use Rattle.insn_form.specs.declared.form.Spot.TheVariants.{Reg, Mem}
use Rattle.insn_form.specs.declared.form.Value.TheVariants as value
use Rattle.insn_form.specs.declared.form.Op.{Op}
use Rattle.insn_form.specs.declared.form.Op.TheVariants.{Alu}
use Rattle.insn_form.specs.declared.form.Insn.TheVariants.{Exact}
use Rattle.insn_form.specs.Classes.{template}
use Rattle.insn_form.specs.Filling.{filled}
use Rattle.insn_form.specs.Meaning.{effect}
use Rattle.insn_form.specs.Machine.{Machine, Task, act}
use Rattle.insn_form.specs.Step.{IsAt, next_after}
use Rattle.insn_form.specs.Exactly.{after_op, HasOperands}
use Rattle.insn_form.proofs.ExactSteps.{exact_acts, exact_told}
use Rattle.insn_form.proofs.UniqueSteps.{one_instruction}
use Rattle.relocate_insn.proofs.PieceSteps.{at_fixed}
use Rattle.event_steps.specs.ThreadSteps.{thread_task, loaded, thread_act, ThreadStepsBy, ThreadStep}
use Rattle.event_steps.proofs.Acting.{base, acts_on}
use Rattle.event_steps.proofs.ThreadSteps.{made}

-- LOCK XADD of four bytes with eax
abbrev pub exchanging : List ℕ → List ℕ → Fields
exchanging d im = record { prefixes = 0xf0 ∷ []; escape = TwoByte; opcode = 0xc1; modrm = Some 0x04; sib = Some 0x25; disp = d; imm = im }

-- ADD of eax to the four bytes that a displacement names
abbrev pub sum_by : List ℕ → Op
sum_by d = Alu Add W32 (Mem (at_fixed d)) (value.Spot (Reg 0)) true

-- what LOCK XADD reads and writes is what ADD does
pub sum_insn : (d : List ℕ) (next : ℕ) → length d ≡ 4 → (thread_task (exchanging d []) next).insn ≡ Exact (sum_by d)
unfolding template filled
sum_insn (a ∷ b ∷ c ∷ e ∷ []) next h = refl
sum_insn [] next h = absurd (omega (arith, h))
sum_insn (a ∷ []) next h = absurd (omega (arith, h))
sum_insn (a ∷ b ∷ []) next h = absurd (omega (arith, h))
sum_insn (a ∷ b ∷ c ∷ []) next h = absurd (omega (arith, h))
sum_insn (a ∷ b ∷ c ∷ e ∷ f ∷ fs) next h = absurd (omega (arith, h))

-- a thread at LOCK XADD of the four bytes that a displacement names
module _ (v : Machine) (d : List ℕ) (next : ℕ) (size : length d ≡ 4) (there : IsAt v (exchanging d [])) (behind : next_after v.rip (exchanging d []) ≡ next) where
  abbrev x : Fields
  x = exchanging d []

  abbrev t : Task
  t = thread_task x next

  -- ADD leaves no flag undefined
  sum_told : (y : ℕ) → ((effect (sum_by d) next v.core).out y).undefined ≡ 0
  unfolding effect
  sum_told y = refl

  -- the state after it
  abbrev pub claimed : Machine
  claimed = loaded t next v (after_op v next (sum_by d))

  -- each step leads there, and had its operands
  pub claim_told : (w : Machine) → ThreadStep v w → HasOperands v next (sum_by d) × (w ≡ claimed)
  claim_told w st =
      let e : st.0 ≡ x = one_instruction v st.0 x st.1.at there in
      let q : thread_act x (next_after v.rip x) v ≡ Ok w = subst (λ g. thread_act g (next_after v.rip g) v ≡ Ok w) e st.1.acts in
      let r : thread_act x next v ≡ Ok w = subst (λ z. thread_act x z v ≡ Ok w) behind q in
      let b = base true t next v w r in
      let o = exact_told v next (sum_by d) t.asks b.plain sum_told (sym (ap (λ i. act (record { insn = i; asks = t.asks }) next v) (sum_insn d next size)) ∙ b.acts) in
      (o.0, b.after ∙ ap (loaded t next v) o.1)

  -- where it has its operands, it has this step
  pub claim_step : HasOperands v next (sum_by d) → ThreadStepsBy x v claimed
  claim_step h =
      let e : act t next v ≡ Ok (after_op v next (sum_by d)) =
      ap (λ i. act (record { insn = i; asks = t.asks }) next v) (sum_insn d next size) ∙ exact_acts v next (sum_by d) t.asks h.read h.write (sum_told _) in
      made x v claimed there (subst (λ z. thread_act x z v ≡ Ok claimed) (sym behind) (acts_on true t next v (after_op v next (sum_by d)) e))
