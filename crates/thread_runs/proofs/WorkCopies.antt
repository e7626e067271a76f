-- Copies as relocated code.
use Rattle.std.proofs.Common.{◌≡◌, inr, ℕ, ◌+◌, ◌^◌, ◌<◌, ◌==◌, Bool, true, false, not, length, Option, Some, None, Ok, unwrap_or, refl, sym, ap, ◌∙◌, subst, arith, true≢false}
use Rattle.std.specs.Option.{is_some}
use Rattle.std.proofs.lemmas.Bool.{cond-true, cond-false}
use Rattle.pun_base.specs.Memory.{Bytes}
use Rattle.cpu_state.specs.Fixed.{IsFixed}
use Rattle.length_decode.specs.Spelling.{Fields, IsInstruction, spelling, parts_of}
use Rattle.insn_form.specs.declared.form.AskedForm.{AskedForm}
use Rattle.insn_form.specs.declared.form.Insn.TheVariants.{Asked}
use Rattle.insn_form.specs.Operands.{with_reg, rcx}
use Rattle.insn_form.specs.Classes.{has_rip}
use Rattle.insn_form.specs.Instruction.{insn_of}
use Rattle.insn_form.specs.Resolving.{resolved_insn}
use Rattle.insn_form.specs.Displacing.{falls}
use Rattle.insn_form.specs.Moved.{direct_target, named, moved_fields}
use Rattle.insn_form.specs.Machine.{Machine, Task, first, act, leaves}
use Rattle.insn_form.specs.Step.{IsAt, next_after, question_of}
use Rattle.insn_form.specs.Laws.{is_steady}
use Rattle.insn_form.specs.Touched.{reads_none, writes_avoid}
use Rattle.insn_form.specs.Again.{always_goes, syscall_task}
use Rattle.event_steps.specs.ThreadSteps.{is_locked_xadd, thread_task, acting, thread_act, ThreadStepsBy, ThreadStep}
use Rattle.insn_form.specs.Alike.{AreAlike, IsAlike, writes_at, still, GoesAlike, GoesAlikeBehind}
use Rattle.insn_form.proofs.UniqueSteps.{one_instruction}
use Rattle.insn_form.proofs.AlikeMemories.{alike_syscall, writes_anywhere}
use Rattle.event_steps.proofs.Acting.{acting_alike}
use Rattle.event_steps.proofs.ThreadSteps.{made, unlocked_task}
use Rattle.relocate_insn.specs.Relocating.{copy_of}
use Rattle.relocate_insn.proofs.RelocatedLengths.{copy_length}
use Rattle.relocate_insn.proofs.PieceSteps.{is_at, next_is}
use Rattle.thread_runs.specs.ThreadCode.{thread_relocated}
use Rattle.thread_runs.specs.Work.{Worked, is_syscall}
use Rattle.thread_runs.specs.Work.Tail.{Out, Back, Ecx}
use Rattle.thread_runs.proofs.LockInc.{same_thread, thread_steady, syscall_not_locked}

-- s stands at an instruction, whose copy stands at a place where u stands
pub record AtCopy (hidden stale : ℕ → Bool) (f : Fields) (next to : ℕ) (s u : Machine) : Type 0 where
  pub here : IsAt s f
  pub behind : next_after s.rip f ≡ next
  pub there : u.rip ≡ to
  pub copy : IsFixed u.mem to (copy_of f next to)
  pub low : to + length (spelling f) < 2 ^ 31
  pub direct : direct_target (insn_of f) ≡ None
  pub rip : has_rip (parts_of f) ≡ true → named f next < 2 ^ 31
  pub alike : IsAlike hidden stale s u
  pub apart : leaves hidden (thread_task f next) next s ≡ true
  pub fresh : reads_none stale (thread_task f next) next s ≡ true

module _ (hidden stale : ℕ → Bool) (f : Fields) (next to : ℕ) (s u : Machine) (w : AtCopy hidden stale f next to s u) where
  abbrev next' : ℕ
  next' = to + length (spelling f)

  abbrev g : Fields
  g = moved_fields f next next'

  abbrev t : Task
  t = thread_task f next

  -- whether it loads what it reads
  abbrev x : Bool
  x = is_locked_xadd f

  -- the copy is an instruction of the same length and the same task
  same : IsInstruction g × (length (spelling g) ≡ length (spelling f)) × (thread_task g next' ≡ t)
  same = same_thread f next next' w.here.spelled w.direct w.low w.rip

  -- the copy stands at the relocated code's place
  other_at : IsAt u g
  other_at = is_at u to g same.0 w.there w.copy

  -- the address after the copy is the given one
  other_behind : next_after u.rip g ≡ next'
  other_behind = next_is u to g (let l = w.low in omega (arith, same.1)) w.there ∙ ap (λ z. to + z) same.1

  -- the step of either, as the same task's
  own_acts : (s' : Machine) → ThreadStepsBy f s s' → acting x t next s ≡ Ok s'
  own_acts s' st = subst (λ z. thread_act f z s ≡ Ok s') w.behind st.acts

  -- what the task does is a step of the instruction
  own_steps : (s' : Machine) → acting x t next s ≡ Ok s' → ThreadStepsBy f s s'
  own_steps s' e = made f s s' w.here (subst (λ z. thread_act f z s ≡ Ok s') (sym w.behind) e)

  -- a step of the thread at the copy is what the task does
  other_acts : (u' : Machine) → ThreadStep u u' → acting x t next' u ≡ Ok u'
  other_acts u' st =
      let e : st.0 ≡ g = one_instruction u st.0 g st.1.at other_at in
      let a : thread_act g (next_after u.rip g) u ≡ Ok u' = subst (λ z. thread_act z (next_after u.rip z) u ≡ Ok u') e st.1.acts in
      let b : thread_act g next' u ≡ Ok u' = subst (λ z. thread_act g z u ≡ Ok u') other_behind a in
      subst (λ z. acting x z next' u ≡ Ok u') same.2 b

  -- what the task does is a step of the copy
  other_steps : (u' : Machine) → acting x t next' u ≡ Ok u' → ThreadStepsBy g u u'
  other_steps u' e = made g u u' other_at (subst (λ z. thread_act g z u ≡ Ok u') (sym other_behind) (subst (λ z. acting x z next' u ≡ Ok u') (sym same.2) e))

  -- both write the same
  same_written : (x : ℕ) → writes_at t next s x ≡ writes_at (thread_task g (next_after u.rip g)) (next_after u.rip g) u x
  same_written x =
      (λ i. not (writes_avoid (λ a. x == a) t.insn next (w.alike.core i) (first (w.alike.world i))))
      ∙ ap not (writes_anywhere (λ a. x == a) t next next' u)
      ∙ ap (λ z. writes_at z next' u x) (sym same.2)
      ∙ ap (λ z. writes_at (thread_task g z) z u x) (sym other_behind)

  -- memories that are alike but for stale bytes are so by the copy's own writes
  same_still : (m v : Bytes) → AreAlike hidden (still stale (writes_at t next s)) m v → AreAlike hidden (still stale (writes_at (thread_task g (next_after u.rip g)) (next_after u.rip g) u)) m v
  same_still m v e = subst (λ z. AreAlike hidden (still stale z) m v) (λ i x. same_written x i) e

  module _ (size : length (thread_relocated (insn_of f) f next to) ≡ length (copy_of f next to)) where
    -- the relocated code ends where the copy does
    length_is : to + length (thread_relocated (insn_of f) f next to) ≡ next'
    length_is = ap (λ z. to + z) (size ∙ copy_length f next to w.here.spelled)

    -- where the copy of an instruction goes that is not SYSCALL
    module _ (plain : is_syscall (insn_of f) ≡ false) (steady : is_steady (resolved_insn next (insn_of f)) ≡ true) (goes : falls (insn_of f) ≡ false → always_goes t.insn ≡ true) where
      -- two alike steps, of instruction and copy, are an effect step
      worked : (s' u' : Machine) → ThreadStepsBy f s s' → ThreadStepsBy g u u' → GoesAlike hidden (still stale (writes_at t next s)) t.insn next next' s' u' → Worked hidden stale f next to s u s' u'
      worked s' u' a b q = by_target q.target refl (falls (insn_of f)) refl
        where
          by_target : (o : Option ℕ) → q.target ≡ o → (b : Bool) → falls (insn_of f) ≡ b → Worked hidden stale f next to s u s' u'
          by_target (Some z) e c k = record {
            own = a;
            fields = g;
            other = b;
            tail = Out;
            there = (sym q.alike.core, q.other ∙ ap (λ o. unwrap_or o next') e ∙ sym (q.own ∙ ap (λ o. unwrap_or o next) e));
            core = q.alike.core ∙ sym (cond-false (is_syscall (insn_of f)) (with_reg u'.core rcx next) u'.core plain);
            world = q.alike.world;
            mem = same_still s'.mem u'.mem q.alike.mem;
          }
          by_target None e true k = record {
            own = a;
            fields = g;
            other = b;
            tail = Back;
            there = (k, sym q.alike.core, q.other ∙ ap (λ o. unwrap_or o next') e ∙ sym length_is, q.own ∙ ap (λ o. unwrap_or o next) e);
            core = q.alike.core ∙ sym (cond-false (is_syscall (insn_of f)) (with_reg u'.core rcx next) u'.core plain);
            world = q.alike.world;
            mem = same_still s'.mem u'.mem q.alike.mem;
          }
          by_target None e false k = absurd (true≢false (sym (q.gone (goes k)) ∙ ap is_some e))

      -- where an instruction other than SYSCALL makes its step its copy does, and the other way round
      pub copy_both : ((s' : Machine) → ThreadStepsBy f s s' → (u' : Machine) × Worked hidden stale f next to s u s' u') × ((u' : Machine) → ThreadStep u u' → (s' : Machine) × Worked hidden stale f next to s u s' u')
      copy_both =
          let all = acting_alike hidden stale x t next next' s u (inr (thread_steady f next steady)) w.alike w.apart w.fresh in (
            λ s' st. (let q = all.0 s' (own_acts s' st) in (q.0, worked s' q.0 st (other_steps q.0 q.1) q.2)),
            λ u' st. (let a = other_acts u' st in let q = all.1 u' a in (q.0, worked q.0 u' (own_steps q.0 q.1) (other_steps u' a) q.2)),
          )

  -- and that of SYSCALL
  module _ (form : AskedForm) (i : insn_of f ≡ Asked form) (y : form.syscall ≡ true) where
    -- the instruction is SYSCALL
    sys : is_syscall (insn_of f) ≡ true
    sys = ap is_syscall i ∙ y

    abbrev told : AskedForm
    told = record { rip_disp = None; syscall = form.syscall; copied = form.copied }

    -- the instruction's task is that of SYSCALL
    task_is : t ≡ syscall_task told (question_of f next)
    task_is = unlocked_task f next (syscall_not_locked f sys) ∙ (λ j. record { insn = resolved_insn next (i j); asks = question_of f next })

    -- it loads nothing
    unloaded : (z : ℕ) (v : Machine) → acting x t z v ≡ act t z v
    unloaded z v = ap (λ y. acting y t z v) (syscall_not_locked f sys).1

    -- two alike steps of SYSCALL are an effect step, with rcx to be set
    behind_it : (s' u' : Machine) → ThreadStepsBy f s s' → ThreadStepsBy g u u' → GoesAlikeBehind hidden (still stale (writes_at (syscall_task told (question_of f next)) next s)) next next' s' u' → Worked hidden stale f next to s u s' u'
    behind_it s' u' a b q = record {
      own = a;
      fields = g;
      other = b;
      tail = Ecx;
      there = (sys, sym q.alike.core, q.other, q.own);
      core = q.alike.core ∙ sym (cond-true (is_syscall (insn_of f)) (with_reg u'.core rcx next) u'.core sys);
      world = q.alike.world;
      mem = same_still s'.mem u'.mem (subst (λ z. AreAlike hidden (still stale (writes_at z next s)) s'.mem u'.mem) (sym task_is) q.alike.mem);
    }

    -- where SYSCALL makes its step its copy does, and the other way round
    pub syscall_both : ((s' : Machine) → ThreadStepsBy f s s' → (u' : Machine) × Worked hidden stale f next to s u s' u') × ((u' : Machine) → ThreadStep u u' → (s' : Machine) × Worked hidden stale f next to s u s' u')
    syscall_both =
        let all = alike_syscall hidden stale told (question_of f next) next next' s u y w.alike (subst (λ z. leaves hidden z next s ≡ true) task_is w.apart) in (
          λ s' st. (let q = all.0 s' (subst (λ z. act z next s ≡ Ok s') task_is (sym (unloaded next s) ∙ own_acts s' st)) in
              (q.0, behind_it s' q.0 st (other_steps q.0 (unloaded next' u ∙ subst (λ z. act z next' u ≡ Ok q.0) (sym task_is) q.1)) q.2)),
          λ u' st. (let a = other_acts u' st in let q = all.1 u' (subst (λ z. act z next' u ≡ Ok u') task_is (sym (unloaded next' u) ∙ a)) in
              (q.0, behind_it q.0 u' (own_steps q.0 (unloaded next s ∙ subst (λ z. act z next s ≡ Ok q.0) (sym task_is) q.1)) (other_steps u' a) q.2)),
        )
