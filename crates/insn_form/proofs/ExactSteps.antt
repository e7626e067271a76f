-- The step of an operation that asks nothing.
use Rattle.std.proofs.Common.{◌≡◌, ℕ, Bool, true, false, eqb, Option, None, Ok, sym, ap, ap₂, ◌∙◌, subst}
use Rattle.std.proofs.lemmas.Bool.{cond-true, eq-eqb}
use Rattle.cpu_state.specs.declared.world.Question.{Question}
use Rattle.length_decode.specs.Spelling.{Fields}
use Rattle.insn_form.specs.declared.form.Insn.{Insn}
use Rattle.insn_form.specs.declared.form.Insn.TheVariants.{Exact}
use Rattle.insn_form.specs.declared.form.Op.{Op}
use Rattle.insn_form.specs.Instruction.{insn_of}
use Rattle.insn_form.specs.Resolving.{resolved_insn}
use Rattle.insn_form.specs.Meaning.{effect}
use Rattle.insn_form.specs.Plan.{lacking_in, number_in, writes_in, unless, ask, planned, completed, exactly}
use Rattle.insn_form.specs.Machine.{Machine, first, carried, carry, act, avoids_effect, avoids_insn}
use Rattle.insn_form.specs.Step.{IsAt, Step, next_after, question_of}
use Rattle.insn_form.specs.Again.{op_task}
use Rattle.insn_form.specs.Exactly.{after_op, HasOperands, ActsExactly}
use Rattle.insn_form.proofs.FrameRule.{unless_ok, same_Ok, carry_ok}
use Rattle.insn_form.proofs.TouchedMemory.{unless_none}

-- an operation that has its operands and leaves no flag undefined leads to the state after it
pub exact_acts : (s : Machine) (next : ℕ) (op : Op) (q : Question) → lacking_in 4 s.mem (effect op next s.core).read ≡ None → lacking_in 2 s.mem (effect op next s.core).write ≡ None
    → ((effect op next s.core).out (number_in s.mem (effect op next s.core).read)).undefined ≡ 0 → act (op_task op q) next s ≡ Ok (after_op s next op)
exact_acts s next op q r w u =
    let e = effect op next s.core in let o = e.out (number_in s.mem e.read) in let ws = writes_in e.write o.value in
    ap₂ (λ (x y : Option ℕ). carry next s.mem s.world (unless x (unless y (exactly q ws (first s.world) o)))) r w
    ∙ ap (carry next s.mem s.world) (cond-true (eqb o.undefined 0) (Ok (planned o.core o ws false)) (ask q (first s.world) (λ a. Ok (planned (completed o.undefined o.core a) o ws true))) (eq-eqb o.undefined 0 u))

-- where an operation that leaves no flag undefined acts, it has its operands and leads to the state after it
pub exact_told : (s : Machine) (next : ℕ) (op : Op) (q : Question) (t : Machine) → ((v : ℕ) → ((effect op next s.core).out v).undefined ≡ 0) → act (op_task op q) next s ≡ Ok t → HasOperands s next op × (t ≡ after_op s next op)
exact_told s next op q t u h =
    let e = effect op next s.core in let o = e.out (number_in s.mem e.read) in let ws = writes_in e.write o.value in
    let c = carry_ok next s.mem s.world _ t h in
    let k1 = unless_ok (lacking_in 4 s.mem e.read) _ c.0 c.1 in
    let k2 = unless_ok (lacking_in 2 s.mem e.write) _ c.0 k1 in
    let k3 = sym (cond-true (eqb o.undefined 0) (Ok (planned o.core o ws false)) (ask q (first s.world) (λ a. Ok (planned (completed o.undefined o.core a) o ws true))) (eq-eqb o.undefined 0 (u (number_in s.mem e.read)))) ∙ k2 in (
      record {
        read = unless_none (lacking_in 4 s.mem e.read) _ c.0 c.1;
        write = unless_none (lacking_in 2 s.mem e.write) _ c.0 k1;
      },
      c.2 ∙ ap (carried next s.mem s.world) (sym (same_Ok _ c.0 k3)),
    )

-- an operation that leaves no flag undefined acts exactly where it has its operands, and leads to the state after it
pub acts_exactly : ActsExactly
acts_exactly op q next s t u = (
  exact_told s next op q t u,
  λ h. exact_acts s next op q h.0.read h.0.write (u (number_in s.mem (effect op next s.core).read)) ∙ ap Ok (sym h.1),
)

-- the step of such an instruction, where it stands
pub exact_step : (set : ℕ → Bool) (s : Machine) (f : Fields) (op : Op) → IsAt s f → resolved_insn (next_after s.rip f) (insn_of f) ≡ Exact op → HasOperands s (next_after s.rip f) op
    → ((effect op (next_after s.rip f) s.core).out (number_in s.mem (effect op (next_after s.rip f) s.core).read)).undefined ≡ 0
    → avoids_effect set (effect op (next_after s.rip f) s.core) ≡ true → Step set s (after_op s (next_after s.rip f) op)
exact_step set s f op at i h u quiet =
    let next = next_after s.rip f in (
      f,
      record {
        at = at;
        apart = subst (λ (z : Insn). avoids_insn set z next s.core (first s.world) ≡ true) (sym i) quiet;
        acts = subst (λ (z : Insn). act (record { insn = z; asks = question_of f next }) next s ≡ Ok (after_op s next op)) (sym i) (exact_acts s next op (question_of f next) h.read h.write u);
      },
    )
