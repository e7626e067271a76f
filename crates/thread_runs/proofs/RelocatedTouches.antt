-- What the instructions of relocated code read and write, and where they stand.
use Rattle.std.proofs.Common.{◌≡◌, ℕ, ◌+◌, ◌-◌, ◌^◌, ◌<◌, Bool, true, false, List, ◌++◌, length, length-append, replicate, Option, Some, None, Ok, unwrap_or, refl, sym, ap, ◌∙◌, subst, arith, true≢false}
use Rattle.std.proofs.lemmas.Bool.{ltb-true}
use Rattle.cpu_state.specs.declared.state.Core.{Core}
use Rattle.cpu_state.specs.declared.world.Entry.{Entry}
use Rattle.cpu_state.specs.declared.world.Question.{Question}
use Rattle.cpu_state.specs.Fixed.{IsFixed}
use Rattle.pun_base.specs.Memory.{Bytes}
use Rattle.length_decode.specs.Forms.{near_branch}
use Rattle.length_decode.specs.Spelling.{Fields, IsInstruction, spelling}
use Rattle.length_decode.proofs.NumberedOpcodes.{formed_branch}
use Rattle.insn_form.specs.declared.form.AskedForm.{AskedForm}
use Rattle.insn_form.specs.declared.form.Spot.TheVariants.{Reg, High, Mem}
use Rattle.insn_form.specs.declared.form.Target.TheVariants.{Rel, Through}
use Rattle.insn_form.specs.declared.form.Op.{Op}
use Rattle.insn_form.specs.declared.form.Op.TheVariants.{Jcc, Loop, Jmp, Call, Ret}
use Rattle.insn_form.specs.declared.form.Insn.{Insn}
use Rattle.insn_form.specs.declared.form.Insn.TheVariants.{Exact, Asked, Ending}
use Rattle.insn_form.specs.Stack.{lowered, top}
use Rattle.insn_form.specs.Classes.{template}
use Rattle.insn_form.specs.Filling.{filled, integer_of}
use Rattle.insn_form.specs.Instruction.{insn_of}
use Rattle.insn_form.specs.Resolving.{absolute, resolved, resolved_insn}
use Rattle.insn_form.specs.Displacing.{goes_to, has_condition, code_length}
use Rattle.insn_form.specs.Moved.{direct_target, rel_bytes, moved_fields}
use Rattle.insn_form.specs.Meaning.{effect}
use Rattle.insn_form.specs.Plan.{Plan, lacking_in, number_in, writes_in, lacking_writes, by_answer, plan}
use Rattle.insn_form.specs.Machine.{Machine, Task, first, avoids_span}
use Rattle.insn_form.specs.Step.{IsAt, next_after, task_of}
use Rattle.insn_form.specs.Touched.{reads_avoid, writes_avoid, reads_none, writes_none}
use Rattle.event_steps.specs.ThreadSteps.{is_locked_inc, is_locked_xadd, unlocked, adding, thread_task}
use Rattle.insn_form.proofs.UniqueSteps.{one_instruction}
use Rattle.insn_form.proofs.FrameRule.{unless_ok, ask_ok, same_Ok, carry_ok}
use Rattle.insn_form.proofs.RepeatedSteps.{exact_target}
use Rattle.insn_form.proofs.AlikeMemories.{reads_anywhere, writes_anywhere}
use Rattle.insn_form.proofs.ConditionCodes.{condition_code}
use Rattle.event_steps.proofs.Acting.{base, rip_is}
use Rattle.event_steps.proofs.ThreadSteps.{unlocked_task}
use Rattle.relocate_insn.specs.Pieces.{jump_code, push_code, ecx_code}
use Rattle.relocate_insn.specs.Relocating.{copy_of, asked_code}
use Rattle.relocate_insn.proofs.FixedCode.{next_address, fixed_front}
use Rattle.relocate_insn.proofs.RelocatedLengths.{copy_length}
use Rattle.relocate_insn.proofs.PieceSteps.{is_at, next_is, jump_fields, push_fields}
use Rattle.relocate_insn.proofs.BranchRuns.{branch_insn}
use Rattle.thread_runs.specs.ThreadCode.{jump_reg, thread_relocated}
use Rattle.thread_runs.specs.Work.{IsWork}
use Rattle.thread_runs.specs.Watching.{leads_to}
use Rattle.thread_runs.specs.Premises.{reads_nothing_of}
use Rattle.thread_runs.specs.StepLaws.{writes_of, WorkTouches, WorkedCore, LeadsTold, NotLocked}
use Rattle.event_steps.proofs.KnownCodeSteps.{IsKnown, known_fixed, known_told}
use Rattle.thread_runs.proofs.LockInc.{same_thread, thread_insn, not_locked, locked, locked_is, locked_task, xadd_is, xadd_task, Reading, Incs, Adds, Plain, reading}
use Rattle.event_steps.proofs.ClaimSteps.{exchanging}
use Rattle.thread_runs.proofs.KnownPieces.{jump_op, known_jump, push_op, known_push}
use Rattle.thread_runs.proofs.EffectSteps.{rip_low, atomic, has_length, relocated_stands, relocated_low}

-- after the effect step registers and flags are the original's, but for rcx after a SYSCALL
pub worked_core : WorkedCore
worked_core hidden stale f next to s u s' u' w q = q.core

-- an instruction that is exact is neither LOCK INC nor LOCK XADD
pub not_locked_is : NotLocked
not_locked_is = not_locked

-- where an instruction leads
plan_leads : (i : Insn) (a : Question) (next : ℕ) (c : Core) (m : Bytes) (entry : Option Entry) (p : Plan) → plan i a next c m entry ≡ Ok p → unwrap_or p.target next ≡ leads_to i next c m
plan_leads (Exact op) a next c m entry p k =
    let e = effect op next c in
    let k1 = unless_ok (lacking_in 4 m e.read) _ p k in
    let k2 = unless_ok (lacking_in 2 m e.write) _ p k1 in
    let o = e.out (number_in m e.read) in
    ap (λ z. unwrap_or z next) (exact_target a (writes_in e.write o.value) o entry p k2)
plan_leads (Asked form) a next c m entry p k =
    let q = ask_ok a entry (by_answer form.syscall next c m) p k in
    let r = unless_ok (lacking_writes m q.0.answer.writes) _ p q.2 in
    ap (λ (z : Plan). unwrap_or z.target next) (sym (same_Ok _ p r))
plan_leads Ending a next c m entry p k = absurd cc

-- LOCK INC leads to the next instruction, as it does where it is asked
inc_leads : (d im : List ℕ) (next : ℕ) (c : Core) (m : Bytes) → leads_to (task_of (unlocked (locked d im)) next).insn next c m ≡ leads_to (resolved_insn next (insn_of (locked d im))) next c m
unfolding template filled effect
inc_leads d im next c m = refl

-- so does LOCK XADD
sum_leads : (d im : List ℕ) (next : ℕ) (c : Core) (m : Bytes) → leads_to (task_of (adding (exchanging d im)) next).insn next c m ≡ leads_to (resolved_insn next (insn_of (exchanging d im))) next c m
unfolding template filled effect
sum_leads d im next c m = refl

-- LOCK INC leads a thread to where it leads a processor
locked_leads : (f : Fields) (next : ℕ) (c : Core) (m : Bytes) → is_locked_inc f ≡ true → leads_to (thread_task f next).insn next c m ≡ leads_to (resolved_insn next (insn_of f)) next c m
locked_leads f next c m k =
    ap (λ (z : Task). leads_to z.insn next c m) (locked_task f next k) ∙ inc_leads f.disp f.imm next c m ∙ ap (λ z. leads_to (resolved_insn next (insn_of z)) next c m) (sym (locked_is f k))

-- an instruction that acts leads where its operands say
pub leads_told : LeadsTold
leads_told f next s s' e =
    let x = is_locked_xadd f in
    let t = thread_task f next in
    let b = base x t next s s' e in
    let q = carry_ok next s.mem s.world _ b.plain b.acts in
    rip_is x t next s s' e ∙ ap (λ (z : Machine). z.rip) q.2 ∙ plan_leads t.insn t.asks next s.core s.mem (first s.world) q.0 q.1 ∙ by_reading (reading f)
  where
    by_reading : Reading f → leads_to (thread_task f next).insn next s.core s.mem ≡ leads_to (resolved_insn next (insn_of f)) next s.core s.mem
    by_reading (Plain k) = ap (λ (z : Task). leads_to z.insn next s.core s.mem) (unlocked_task f next k)
    by_reading (Incs k) = locked_leads f next s.core s.mem k
    by_reading (Adds n k) =
        ap (λ (z : Task). leads_to z.insn next s.core s.mem) (xadd_task f next n k) ∙ sum_leads f.disp f.imm next s.core s.mem
        ∙ ap (λ z. leads_to (resolved_insn next (insn_of z)) next s.core s.mem) (sym (xadd_is f k))

-- whether an instruction of known operation reads a byte of a set is whether its effect does
pub known_reads : (set : ℕ → Bool) (v : Machine) (f : Fields) (next : ℕ) (op : Op) → next_after v.rip f ≡ next → (thread_task f next).insn ≡ Exact op → reads_nothing_of set f v ≡ avoids_span set (effect op next v.core).read
known_reads set' v f next op n i = ap (λ z. reads_avoid set' (thread_task f z).insn z v.core) n ∙ ap (λ z. reads_avoid set' z next v.core) i

-- whether an instruction of known operation writes a byte of a set is whether its effect does
pub known_writes : (set : ℕ → Bool) (v : Machine) (f : Fields) (next : ℕ) (op : Op) → next_after v.rip f ≡ next → (thread_task f next).insn ≡ Exact op → writes_of set f v ≡ avoids_span set (effect op next v.core).write
known_writes set' v f next op n i = ap (λ z. writes_avoid set' (thread_task f z).insn z v.core (first v.world)) n ∙ ap (λ z. writes_avoid set' z next v.core (first v.world)) i

module _ (f : Fields) (next to : ℕ) (s u : Machine) (w : IsWork f s.rip next to u) (there : u.rip ≡ to) (core : u.core ≡ s.core) (world : u.world ≡ s.world) where
  abbrev wide : ℕ
  wide = length (spelling f)

  -- the address after the instruction is the given one
  behind : next_after s.rip f ≡ next
  behind = (let l = w.low in let b = w.behind in next_address s.rip wide (omega (arith, b))) ∙ sym w.behind

  -- fields stand where the relocated code begins, and touch what the instruction touches
  record Touches : Type 0 where
    fields : Fields
    at : IsAt u fields
    same : (set : ℕ → Bool) → (reads_nothing_of set fields u ≡ reads_nothing_of set f s) × (writes_of set fields u ≡ writes_of set f s)

  -- two operations with equal reads and writes touch the same
  pair_touches : (g : Fields) (next' : ℕ) (o op op' : Op) → insn_of f ≡ Exact o → resolved next o ≡ op → IsKnown u g next' op' → (effect op next s.core).read ≡ (effect op' next' u.core).read
      → (effect op next s.core).write ≡ (effect op' next' u.core).write → Touches
  pair_touches g next' o op op' i r k read write = record {
    fields = g;
    at = k.at;
    same = λ set'. (
      known_reads set' u g next' op' k.behind k.insn ∙ ap (avoids_span set') (sym read) ∙ sym (known_reads set' s f next op behind (thread_insn f o next i ∙ ap Exact r)),
      known_writes set' u g next' op' k.behind k.insn ∙ ap (avoids_span set') (sym write) ∙ sym (known_writes set' s f next op behind (thread_insn f o next i ∙ ap Exact r)),
    );
  }

  -- a copy touches what the instruction does
  copy_touches : IsFixed u.mem to (copy_of f next to) → to + wide < 2 ^ 31 → direct_target (insn_of f) ≡ None → Touches
  copy_touches c l d =
      let next' = to + wide in
      let g = moved_fields f next next' in
      let same = same_thread f next next' w.spelled d l (rip_low f s.rip next to u w) in
      let n : next_after u.rip g ≡ next' = next_is u to g (omega (arith, same.1, l)) there ∙ ap (λ z. to + z) same.1 in
      record {
        fields = g;
        at = is_at u to g same.0 there c;
        same = λ set'. (
          ap (λ z. reads_none set' (thread_task g z) z u) n ∙ ap (λ z. reads_none set' z next' u) same.2 ∙ reads_anywhere set' (thread_task f next) next' next u
              ∙ ap (λ z. reads_avoid set' (thread_task f next).insn next z) core ∙ ap (λ z. reads_none set' (thread_task f z) z s) (sym behind),
          ap (λ z. writes_none set' (thread_task g z) z u) n ∙ ap (λ z. writes_none set' z next' u) same.2 ∙ writes_anywhere set' (thread_task f next) next' next u
              ∙ (λ j. writes_avoid set' (thread_task f next).insn next (core j) (first (world j))) ∙ ap (λ z. writes_none set' (thread_task f z) z s) (sym behind),
        );
      }

  -- relocated code that is a copy touches what the instruction does
  copied : (x : Insn) (e : insn_of f ≡ x) → thread_relocated x f next to ≡ copy_of f next to → direct_target x ≡ None → Touches
  copied x e c d =
      let l = relocated_low f s.rip next to u w x e in
      let n : length (thread_relocated x f next to) ≡ wide = ap length c ∙ copy_length f next to w.spelled in
      copy_touches (subst (IsFixed u.mem to) c (relocated_stands f s.rip next to u w x e)) (omega (arith, n, l)) (ap direct_target e ∙ d)

  -- the code of an asked instruction touches what the instruction does
  asked : (form : AskedForm) (b : Bool) → insn_of f ≡ Asked form → thread_relocated (Asked form) f next to ≡ asked_code b (copy_of f next to) next → Touches
  asked form false e c = copied (Asked form) e c refl
  asked form true e c =
      let l = relocated_low f s.rip next to u w (Asked form) e in
      let n : length (thread_relocated (Asked form) f next to) ≡ wide + 5 = ap length c ∙ length-append (copy_of f next to) (ecx_code next) ∙ ap (λ z. z + 5) (copy_length f next to w.spelled) in
      copy_touches (fixed_front u.mem to (copy_of f next to) (ecx_code next) (subst (IsFixed u.mem to) c (relocated_stands f s.rip next to u w (Asked form) e))) (omega (arith, n, l)) (ap direct_target e)

  -- any relocated code touches what the instruction does
  touches_by : (x : Insn) → insn_of f ≡ x → code_length x wide ≡ Some w.size → Touches
  unfolding effect
  touches_by (Exact (Jcc c z)) e h =
      let x = Exact (Jcc c z) in let l = relocated_low f s.rip next to u w x e in
      let d = rel_bytes (to + 6) (goes_to next z) in
      let g = record (near_branch c 0 0 0 0) { imm = d } in
      let op' = Jcc c (absolute (to + 6) (integer_of d)) in
      let short : c < 16 = ltb-true c 16 (subst (λ (y : Insn). has_condition y ≡ true) e (condition_code f)) in
      let is : IsInstruction g = record { formed = formed_branch c _ _ _ _ short; short = omega arith } in
      let k : IsKnown u g (to + 6) op' = known_fixed u to g (to + 6) op' is there (relocated_stands f s.rip next to u w x e) refl (omega (arith, l)) (ap (resolved_insn (to + 6)) (branch_insn c d short)) (λ y. refl) refl in
      pair_touches g (to + 6) (Jcc c z) (Jcc c (absolute next z)) op' e refl k refl refl
  touches_by (Exact (Loop kind z short)) e h = absurd cc
  touches_by (Exact (Jmp (Rel z))) e h =
      let x = Exact (Jmp (Rel z)) in let l = relocated_low f s.rip next to u w x e in
      pair_touches (jump_fields (rel_bytes (to + 5) (goes_to next z))) (to + 5) (Jmp (Rel z)) (Jmp (Rel (absolute next z))) (jump_op to (goes_to next z)) e refl
      (known_jump u to (goes_to next z) l there (relocated_stands f s.rip next to u w x e)) refl refl
  touches_by (Exact (Jmp (Through o))) e h = copied (Exact (Jmp (Through o))) e refl refl
  touches_by (Exact (Call (Rel z))) e h =
      let x = Exact (Call (Rel z)) in let l = relocated_low f s.rip next to u w x e in
      pair_touches (push_fields next) (to + 5) (Call (Rel z)) (Call (Rel (absolute next z))) (push_op next) e refl
      (known_push u to next (omega (arith, l)) there (fixed_front u.mem to (push_code next) (jump_code (to + 5) (goes_to next z)) (relocated_stands f s.rip next to u w x e))) refl (ap (λ k. Some (top (lowered k))) (sym core))
  touches_by (Exact (Call (Through (Reg r)))) e h =
      let x = Exact (Call (Through (Reg r))) in let l = relocated_low f s.rip next to u w x e in
      let pads = jump_reg r ++ replicate (34 - length (jump_reg r)) 0x90 in
      let n = length-append (push_code next) pads in
      pair_touches (push_fields next) (to + 5) (Call (Through (Reg r))) (Call (Through (Reg r))) (push_op next) e refl
      (known_push u to next (omega (arith, l, n)) there (fixed_front u.mem to (push_code next) pads (relocated_stands f s.rip next to u w x e))) refl (ap (λ k. Some (top (lowered k))) (sym core))
  touches_by (Exact (Call (Through (High r)))) e h = absurd (true≢false (sym (atomic f s.rip next to u w (Exact (Call (Through (High r)))) e)))
  touches_by (Exact (Call (Through (Mem m)))) e h = absurd (true≢false (sym (atomic f s.rip next to u w (Exact (Call (Through (Mem m)))) e)))
  touches_by (Exact (Ret extra)) e h = copied (Exact (Ret extra)) e refl refl
  touches_by (Exact o) e h = copied (Exact o) e refl refl
  touches_by (Asked form) e h = asked form form.syscall e refl
  touches_by Ending e h = absurd cc

-- the first instruction of relocated code reads and writes what the displaced instruction does
pub work_touches : WorkTouches
work_touches f g next to s u w there core world at set' =
    let q = touches_by f next to s u w there core world (insn_of f) refl (has_length f s.rip next to u w (insn_of f) refl) in
    let e : g ≡ q.fields = one_instruction u g q.fields at q.at in
    (ap (λ z. reads_nothing_of set' z u) e ∙ (q.same set').0, ap (λ z. writes_of set' z u) e ∙ (q.same set').1)
