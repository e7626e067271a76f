-- Branches and calls as relocated code.
use Rattle.std.proofs.Common.{◌≡◌, ◌≢◌, ℕ, ◌+◌, ◌-◌, ◌^◌, ◌<◌, Bool, true, false, cond, List, ◌∷◌, length, Some, None, unwrap_or, ℤ, refl, sym, ap, ◌∙◌, subst, arith}
use Rattle.std.proofs.lemmas.Bool.{and_parts, ltb-true, cond-false}
use Rattle.std.proofs.lemmas.List.{get_or-set_other}
use Rattle.cpu_alu.specs.declared.operation.Width.TheVariants.{W64}
use Rattle.cpu_alu.specs.Widths.{cut}
use Rattle.pun_base.specs.Memory.{Bytes}
use Rattle.cpu_state.specs.declared.state.Core.{Core}
use Rattle.cpu_state.specs.declared.world.Entry.{Entry}
use Rattle.cpu_state.specs.Bytes.{advanced}
use Rattle.cpu_state.specs.Fixed.{IsFixed}
use Rattle.length_decode.specs.Forms.{near_branch}
use Rattle.length_decode.specs.Spelling.{Fields, IsInstruction}
use Rattle.length_decode.proofs.NumberedOpcodes.{formed_branch}
use Rattle.insn_form.specs.declared.form.Spot.TheVariants.{Reg}
use Rattle.insn_form.specs.declared.form.Target.TheVariants.{Rel, Through}
use Rattle.insn_form.specs.declared.form.Op.{Op}
use Rattle.insn_form.specs.declared.form.Op.TheVariants.{Jcc, Jmp, Call}
use Rattle.insn_form.specs.declared.form.Insn.{Insn}
use Rattle.insn_form.specs.declared.form.Insn.TheVariants.{Exact}
use Rattle.insn_form.specs.Operands.{word_of, reg, with_reg, rcx, rsp}
use Rattle.insn_form.specs.Stack.{lowered, top}
use Rattle.insn_form.specs.Conditions.{is_met}
use Rattle.insn_form.specs.Filling.{integer_of}
use Rattle.insn_form.specs.Instruction.{insn_of}
use Rattle.insn_form.specs.Resolving.{absolute, resolved, resolved_insn}
use Rattle.insn_form.specs.Displacing.{falls, goes_to, has_condition}
use Rattle.insn_form.specs.Moved.{rel_bytes}
use Rattle.insn_form.specs.Meaning.{effect}
use Rattle.insn_form.specs.Machine.{Machine, first, avoids_span, avoids_insn, leaves}
use Rattle.insn_form.specs.Step.{IsAt, next_after}
use Rattle.insn_form.specs.Exactly.{after_op, HasOperands}
use Rattle.event_steps.specs.ThreadSteps.{thread_task, ThreadStepsBy, ThreadStep}
use Rattle.insn_form.specs.Alike.{IsAlike}
use Rattle.insn_form.proofs.TaskCopies.{names_it}
use Rattle.insn_form.proofs.ConditionCodes.{condition_code}
use Rattle.relocate_insn.specs.Pieces.{jump_code, push_code}
use Rattle.relocate_insn.proofs.PieceSteps.{absolute_word, jump_fields, push_fields, pushed_word}
use Rattle.relocate_insn.proofs.BranchRuns.{branch_insn, taken}
use Rattle.thread_runs.specs.ThreadCode.{thread_relocated}
use Rattle.thread_runs.specs.Work.{Tail, InTail, Worked, is_call, is_syscall, call_target}
use Rattle.thread_runs.specs.Work.Tail.{Out, Back, Jump}
use Rattle.event_steps.proofs.KnownCodeSteps.{IsKnown, known_fixed, known_step, known_told, operands_forth, operands_back, both_core, both_mem}
use Rattle.thread_runs.proofs.LockInc.{thread_insn, not_locked}
use Rattle.thread_runs.proofs.KnownPieces.{jump_op, known_jump, push_op, known_push}

-- both ways of an effect step
abbrev pub BothWays : (ℕ → Bool) → (ℕ → Bool) → Fields → ℕ → ℕ → Machine → Machine → Type 0
BothWays hidden stale f next to s u =
    ((s' : Machine) → ThreadStepsBy f s s' → (u' : Machine) × Worked hidden stale f next to s u s' u')
    × ((u' : Machine) → ThreadStep u u' → (s' : Machine) × Worked hidden stale f next to s u s' u')

module _ (hidden stale : ℕ → Bool) (f : Fields) (next to : ℕ) (s u : Machine) (g : Fields) (next' : ℕ) (op op' : Op) (ks : IsKnown s f next op) (ku : IsKnown u g next' op') (e : IsAlike hidden stale s u)
    (read : (effect op next s.core).read ≡ None) (read' : (effect op' next' u.core).read ≡ None)
    (write : (effect op next s.core).write ≡ (effect op' next' u.core).write)
    (out : ((effect op next s.core).out 0).core ≡ ((effect op' next' u.core).out 0).core)
    (value : ((effect op next s.core).out 0).value ≡ ((effect op' next' u.core).out 0).value)
    (quiet : avoids_span hidden (effect op next s.core).write ≡ true)
    (plain : is_syscall (insn_of f) ≡ false)
    (tail : Tail) (there : InTail f next to tail (after_op s next op).core (after_op s next op).rip (after_op u next' op')) where
  -- where both operations have their operands, both steps are made alike
  made : HasOperands s next op → HasOperands u next' op' → Worked hidden stale f next to s u (after_op s next op) (after_op u next' op')
  made h k = record {
    own = known_step s f next op ks h;
    fields = g;
    other = known_step u g next' op' ku k;
    tail = tail;
    there = there;
    core = both_core hidden stale s u f g next next' op op' ks ku e read read' write out value quiet
        ∙ sym (cond-false (is_syscall (insn_of f)) (with_reg (after_op u next' op').core rcx next) (after_op u next' op').core plain);
    world = e.world;
    mem = both_mem hidden stale s u f g next next' op op' ks ku e read read' write out value quiet;
  }

  -- where the two operations do the same, as the premises say, either state has its step where the other has
  pub pair_both : BothWays hidden stale f next to s u
  pair_both = (
    λ s' st. (let q = known_told s f next op ks s' (f, st) in (
      after_op u next' op',
      subst (λ z. Worked hidden stale f next to s u z (after_op u next' op')) (sym q.1)
          (made q.0 (operands_forth hidden stale s u f g next next' op op' ks ku e read read' write out value quiet q.0)),
    )),
    λ u' st. (let q = known_told u g next' op' ku u' st in (
      after_op s next op,
      subst (λ z. Worked hidden stale f next to s u (after_op s next op) z) (sym q.1)
          (made (operands_back hidden stale s u f g next next' op op' ks ku e read read' write out value quiet q.0) q.0),
    )),
  )

module _ (hidden stale : ℕ → Bool) (f : Fields) (next to : ℕ) (s u : Machine) (here : IsAt s f) (behind : next_after s.rip f ≡ next) (there : u.rip ≡ to) (e : IsAlike hidden stale s u)
    (apart : leaves hidden (thread_task f next) next s ≡ true) (next_low : next < 2 ^ 31) where
  -- the original's instruction
  own_known : (o op : Op) → insn_of f ≡ Exact o → resolved next o ≡ op → ((x : ℕ) → ((effect op next s.core).out x).undefined ≡ 0) → IsKnown s f next op
  own_known o op i r t = record { at = here; behind = behind; insn = thread_insn f o next i ∙ ap Exact r; told = t; alone = (not_locked f o i).1 }

  -- the instruction writes no hidden byte
  own_quiet : (o op : Op) → insn_of f ≡ Exact o → resolved next o ≡ op → avoids_span hidden (effect op next s.core).write ≡ true
  own_quiet o op i r =
      let q = subst (λ (z : Insn). avoids_insn hidden z next s.core (first s.world) ≡ true) (thread_insn f o next i ∙ ap Exact r) apart in
      (and_parts (avoids_span hidden (effect op next s.core).read) (avoids_span hidden (effect op next s.core).write) q).1

  -- JMP rel and its relocated jump: where one makes its step the other does
  pub jump_both : (z : ℤ) → insn_of f ≡ Exact (Jmp (Rel z)) → goes_to next z < 2 ^ 31 → to + 5 < 2 ^ 31 → IsFixed u.mem to (jump_code to (goes_to next z)) → BothWays hidden stale f next to s u
  unfolding effect
  jump_both z i low l c =
      let target = goes_to next z in
      let d = rel_bytes (to + 5) target in
      let op = Jmp (Rel (absolute next z)) in
      pair_both hidden stale f next to s u (jump_fields d) (to + 5) op (jump_op to target) (own_known (Jmp (Rel z)) op i refl (λ x. refl)) (known_jump u to target l there c) e
      refl refl refl e.core refl (own_quiet (Jmp (Rel z)) op i refl) (ap is_syscall i)
      Out (sym e.core, absolute_word (to + 5) (integer_of d) ∙ names_it (to + 5) target l low ∙ sym (absolute_word next z))

  -- Jcc
  branch_tail : (b : Bool) (c d : Core) (rip rip' target n : ℕ) → c ≡ d → falls (insn_of f) ≡ true → n ≡ to + length (thread_relocated (insn_of f) f next to) → rip ≡ cond b target next → rip' ≡ cond b target n
      → (mem : Bytes) (world : List Entry) → (k : Tail) × InTail f next to k c rip (record { core = d; rip = rip'; mem = mem; world = world })
  branch_tail true c d rip rip' target n e' h l p q mem world = (Out, (sym e', q ∙ sym p))
  branch_tail false c d rip rip' target n e' h l p q mem world = (Back, (h, sym e', q ∙ l, p))

  -- Jcc and its relocated branch: where one makes its step the other does
  pub branch_both : (c : ℕ) (z : ℤ) → insn_of f ≡ Exact (Jcc c z) → goes_to next z < 2 ^ 31 → to + 6 < 2 ^ 31 → IsFixed u.mem to (0x0f ∷ (0x80 + c) ∷ rel_bytes (to + 6) (goes_to next z)) → BothWays hidden stale f next to s u
  unfolding effect
  branch_both c z i low l code =
      let target = goes_to next z in
      let d = rel_bytes (to + 6) target in
      let g = record (near_branch c 0 0 0 0) { imm = d } in
      let op = Jcc c (absolute next z) in
      let op' = Jcc c (absolute (to + 6) (integer_of d)) in
      let short : c < 16 = ltb-true c 16 (subst (λ (y : Insn). has_condition y ≡ true) i (condition_code f)) in
      let is : IsInstruction g = record { formed = formed_branch c _ _ _ _ short; short = omega arith } in
      let ku : IsKnown u g (to + 6) op' = known_fixed u to g (to + 6) op' is there code refl (omega arith) (ap (resolved_insn (to + 6)) (branch_insn c d short)) (λ x. refl) refl in
      let b = is_met c s.core.flags in
      let own = ap (λ w. unwrap_or (cond b (Some w) None) next) (absolute_word next z) ∙ taken b target next in
      let w : word_of (absolute (to + 6) (integer_of d)) ≡ target = absolute_word (to + 6) (integer_of d) ∙ names_it (to + 6) target l low in
      let other = ap (λ (k : Core). unwrap_or (cond (is_met c k.flags) (Some (word_of (absolute (to + 6) (integer_of d)))) None) (to + 6)) (sym e.core)
      ∙ ap (λ y. unwrap_or (cond b (Some y) None) (to + 6)) w ∙ taken b target (to + 6) in
      let t = branch_tail b s.core u.core _ _ target (to + 6) e.core (ap falls i) (ap (λ y. to + length (thread_relocated y f next to)) (sym i)) own other u.mem u.world in
      pair_both hidden stale f next to s u g (to + 6) op op' (own_known (Jcc c z) op i refl (λ x. refl)) ku e
      refl refl refl e.core refl (own_quiet (Jcc c z) op i refl) (ap is_syscall i) t.0 t.1

  -- CALL rel and the PUSH of its relocated code: where one makes its step the other does
  pub call_both : (z : ℤ) → insn_of f ≡ Exact (Call (Rel z)) → to + 5 < 2 ^ 31 → IsFixed u.mem to (push_code next) → BothWays hidden stale f next to s u
  unfolding effect
  call_both z i l c =
      let op = Call (Rel (absolute next z)) in
      pair_both hidden stale f next to s u (push_fields next) (to + 5) op (push_op next) (own_known (Call (Rel z)) op i refl (λ x. refl)) (known_push u to next l there c) e
      refl refl (ap (λ k. Some (top (lowered k))) e.core) (ap lowered e.core) (sym (pushed_word next next_low)) (own_quiet (Call (Rel z)) op i refl) (ap is_syscall i)
      Jump (ap is_call i, sym (ap lowered e.core), refl, absolute_word next z ∙ sym (ap (λ x. call_target x next (lowered s.core)) i))

  -- CALL through a register other than rsp and the PUSH of its relocated code: where one makes its step the other does
  pub call_reg_both : (r : ℕ) → insn_of f ≡ Exact (Call (Through (Reg r))) → r ≢ rsp → to + 5 < 2 ^ 31 → IsFixed u.mem to (push_code next) → BothWays hidden stale f next to s u
  unfolding effect
  call_reg_both r i n l c =
      let op = Call (Through (Reg r)) in
      let same : reg (lowered s.core) r ≡ reg s.core r = get_or-set_other s.core.regs 4 r (advanced (reg s.core rsp) (2 ^ 64 - 8)) 0 n in
      pair_both hidden stale f next to s u (push_fields next) (to + 5) op (push_op next) (own_known op op i refl (λ x. refl)) (known_push u to next l there c) e
      refl refl (ap (λ k. Some (top (lowered k))) e.core) (ap lowered e.core) (sym (pushed_word next next_low)) (own_quiet op op i refl) (ap is_syscall i)
      Jump (ap is_call i, sym (ap lowered e.core), refl, ap (cut W64) (sym same) ∙ sym (ap (λ x. call_target x next (lowered s.core)) i))
