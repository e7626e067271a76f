-- Steps of threads at code of which it is known what stands there.
use Rattle.std.proofs.Common.{◌≡◌, ℕ, ◌+◌, ◌^◌, ◌<◌, ◌==◌, Bool, true, false, None, length, Ok, sym, ap, ◌∙◌, subst, not}
use Rattle.length_decode.specs.Spelling.{Fields, IsInstruction, spelling}
use Rattle.cpu_state.specs.Fixed.{IsFixed}
use Rattle.insn_form.specs.declared.form.Op.{Op}
use Rattle.insn_form.specs.declared.form.Insn.TheVariants.{Exact}
use Rattle.insn_form.specs.Meaning.{effect}
use Rattle.insn_form.specs.Plan.{lacking_in, number_in, writes_in}
use Rattle.insn_form.specs.Machine.{Machine, first, act, put_all, avoids_span, avoids_writes}
use Rattle.insn_form.specs.Step.{IsAt, next_after}
use Rattle.insn_form.specs.Exactly.{after_op, HasOperands}
use Rattle.insn_form.specs.Touched.{writes_avoid}
use Rattle.event_steps.specs.ThreadSteps.{is_locked_xadd, thread_task, thread_act, ThreadStepsBy, ThreadStep}
use Rattle.insn_form.specs.Alike.{AreAlike, IsAlike, writes_at, still}
use Rattle.insn_form.proofs.UniqueSteps.{one_instruction}
use Rattle.insn_form.proofs.ExactSteps.{exact_acts, exact_told}
use Rattle.insn_form.proofs.AlikeMemories.{lacking_in_alike, carried_alike, writes_in_same}
use Rattle.relocate_insn.proofs.PieceSteps.{is_at, next_is}
use Rattle.event_steps.proofs.ThreadSteps.{made, alone_acts}

-- an operation that asks nothing is the next instruction
pub record IsKnown (v : Machine) (f : Fields) (next : ℕ) (op : Op) : Type 0 where
  pub at : IsAt v f
  pub behind : next_after v.rip f ≡ next
  pub insn : (thread_task f next).insn ≡ Exact op
  pub told : (x : ℕ) → ((effect op next v.core).out x).undefined ≡ 0
  pub alone : is_locked_xadd f ≡ false

-- an instruction that stands at the thread's place, in code that stays, is known
pub known_fixed : (v : Machine) (at : ℕ) (f : Fields) (next : ℕ) (op : Op) → IsInstruction f → v.rip ≡ at → IsFixed v.mem at (spelling f) → at + length (spelling f) ≡ next → next < 2 ^ 64
    → (thread_task f next).insn ≡ Exact op → ((x : ℕ) → ((effect op next v.core).out x).undefined ≡ 0) → is_locked_xadd f ≡ false → IsKnown v f next op
known_fixed v at f next op i r c l k e u x = record { at = is_at v at f i r c; behind = next_is v at f (subst (λ z. z < 2 ^ 64) (sym l) k) r ∙ l; insn = e; told = u; alone = x }

module _ (v : Machine) (f : Fields) (next : ℕ) (op : Op) (k : IsKnown v f next op) where
  -- what the known operation does is what the instruction there does
  acts_so : (w : Machine) → act (record { insn = Exact op; asks = (thread_task f next).asks }) next v ≡ Ok w → thread_act f (next_after v.rip f) v ≡ Ok w
  acts_so w e = subst (λ z. thread_act f z v ≡ Ok w) (sym k.behind) (alone_acts f next v k.alone ∙ ap (λ i. act (record { insn = i; asks = (thread_task f next).asks }) next v) k.insn ∙ e)

  -- an operation that asks nothing steps where it has its operands
  pub known_step : HasOperands v next op → ThreadStepsBy f v (after_op v next op)
  known_step h = made f v (after_op v next op) k.at (acts_so (after_op v next op) (exact_acts v next op (thread_task f next).asks h.read h.write (k.told _)))

  -- each step that it makes leads to the state after it, and it had its operands
  pub known_told : (w : Machine) → ThreadStep v w → HasOperands v next op × (w ≡ after_op v next op)
  known_told w st =
      let e : st.0 ≡ f = one_instruction v st.0 f st.1.at k.at in
      let a : thread_act f (next_after v.rip f) v ≡ Ok w = subst (λ g. thread_act g (next_after v.rip g) v ≡ Ok w) e st.1.acts in
      let b : act (thread_task f next) next v ≡ Ok w = sym (alone_acts f next v k.alone) ∙ subst (λ z. thread_act f z v ≡ Ok w) k.behind a in
      exact_told v next op (thread_task f next).asks w k.told (sym (ap (λ i. act (record { insn = i; asks = (thread_task f next).asks }) next v) k.insn) ∙ b)

-- two operations that read no memory and write the same to states that are alike
module _ (hidden stale : ℕ → Bool) (s u : Machine) (f g : Fields) (next next' : ℕ) (op op' : Op) (ks : IsKnown s f next op) (ku : IsKnown u g next' op') (e : IsAlike hidden stale s u)
    (read : (effect op next s.core).read ≡ None) (read' : (effect op' next' u.core).read ≡ None)
    (write : (effect op next s.core).write ≡ (effect op' next' u.core).write)
    (out : ((effect op next s.core).out 0).core ≡ ((effect op' next' u.core).out 0).core)
    (value : ((effect op next s.core).out 0).value ≡ ((effect op' next' u.core).out 0).value)
    (quiet : avoids_span hidden (effect op next s.core).write ≡ true) where
  -- the two writes lack the same permission, or none
  same_lack : lacking_in 2 s.mem (effect op next s.core).write ≡ lacking_in 2 u.mem (effect op' next' u.core).write
  same_lack = lacking_in_alike hidden stale s.mem u.mem e.mem 2 (effect op next s.core).write quiet ∙ ap (lacking_in 2 u.mem) write

  -- where the first operation has its operands the second has them
  pub operands_forth : HasOperands s next op → HasOperands u next' op'
  operands_forth h = record { read = ap (lacking_in 4 u.mem) read'; write = sym same_lack ∙ h.write }

  -- where the second operation has its operands the first has them
  pub operands_back : HasOperands u next' op' → HasOperands s next op
  operands_back h = record { read = ap (lacking_in 4 s.mem) read; write = same_lack ∙ h.write }

  -- nothing is read
  num : number_in s.mem (effect op next s.core).read ≡ 0
  num = ap (number_in s.mem) read

  -- the second operation reads nothing
  num' : number_in u.mem (effect op' next' u.core).read ≡ 0
  num' = ap (number_in u.mem) read'

  -- what the other one writes
  abbrev written : ℕ → Bool
  written = writes_at (thread_task g (next_after u.rip g)) (next_after u.rip g) u

  -- an address is written exactly where the known operation writes it
  written_is : (x : ℕ) → written x ≡ not (avoids_writes (λ y. x == y) (writes_in (effect op' next' u.core).write ((effect op' next' u.core).out 0).value))
  written_is x =
      ap (λ z. not (writes_avoid (λ y. x == y) (thread_task g z).insn z u.core (first u.world))) ku.behind
      ∙ ap (λ z. not (writes_avoid (λ y. x == y) z next' u.core (first u.world))) ku.insn
      ∙ ap not (sym (writes_in_same (λ y. x == y) (effect op' next' u.core).write ((effect op' next' u.core).out 0).value))

  -- both leave equal registers and flags
  pub both_core : (after_op s next op).core ≡ (after_op u next' op').core
  both_core = ap (λ z. ((effect op next s.core).out z).core) num ∙ out ∙ sym (ap (λ z. ((effect op' next' u.core).out z).core) num')

  -- both leave memories that are alike, in which what is written is stale no more
  pub both_mem : AreAlike hidden (still stale written) (after_op s next op).mem (after_op u next' op').mem
  both_mem =
      let ws = writes_in (effect op' next' u.core).write ((effect op' next' u.core).out 0).value in
      let own : put_all s.mem ws ≡ (after_op s next op).mem = (λ i. put_all s.mem (writes_in (sym write i) (sym value i))) ∙ sym (ap (λ z. put_all s.mem (writes_in (effect op next s.core).write ((effect op next s.core).out z).value)) num) in
      let other : put_all u.mem ws ≡ (after_op u next' op').mem = sym (ap (λ z. put_all u.mem (writes_in (effect op' next' u.core).write ((effect op' next' u.core).out z).value)) num') in
      subst (λ z. AreAlike hidden (still stale written) z (after_op u next' op').mem) own
      (subst (λ z. AreAlike hidden (still stale written) (put_all s.mem ws) z) other
      (carried_alike hidden stale written s.mem u.mem ws e.mem written_is))
