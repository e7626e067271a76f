-- The effect step of threads by an instruction that kills a place.
use Rattle.std.proofs.Common.{◌≡◌, ℕ, ◌+◌, ◌^◌, ◌<◌, ◌==◌, Bool, true, false, not, List, length, Option, None, refl, sym, ap, ◌∙◌, subst, arith, true≢false}
use Rattle.pun_base.specs.Memory.{Bytes}
use Rattle.cpu_state.specs.declared.state.Core.{Core}
use Rattle.cpu_state.specs.declared.world.Entry.{Entry}
use Rattle.cpu_state.specs.Fixed.{IsFixed}
use Rattle.length_decode.specs.Spelling.{Fields, IsInstruction, spelling}
use Rattle.insn_form.specs.declared.form.Op.TheVariants.{Jcc, Loop, Jmp, Call}
use Rattle.insn_form.specs.declared.form.Insn.{Insn}
use Rattle.insn_form.specs.declared.form.Insn.TheVariants.{Exact, Asked, Ending}
use Rattle.insn_form.specs.Effect.{Effect}
use Rattle.insn_form.specs.Instruction.{insn_of}
use Rattle.insn_form.specs.Resolving.{resolved_insn}
use Rattle.insn_form.specs.Moved.{direct_target, moved_fields}
use Rattle.insn_form.specs.Machine.{Machine, Task, first, avoids_span}
use Rattle.insn_form.specs.Step.{IsAt, next_after, task_of}
use Rattle.insn_form.specs.Touched.{writes_avoid}
use Rattle.insn_form.specs.Alike.{AreAlike, still, writes_at}
use Rattle.insn_form.proofs.UniqueSteps.{one_instruction}
use Rattle.insn_form.proofs.TaskCopies.{same_task}
use Rattle.killing.specs.declared.place.Place.{Place}
use Rattle.killing.specs.declared.place.Place.TheVariants.{FiveFlags, SixFlags, Register}
use Rattle.killing.specs.Places.{cleared, AgreeBut}
use Rattle.killing.specs.Table.{kills}
use Rattle.killing.proofs.Places.{mended, one_effect, kills_anywhere}
use Rattle.relocate_insn.specs.Relocating.{copy_of}
use Rattle.relocate_insn.proofs.RelocatedLengths.{copy_length}
use Rattle.relocate_insn.proofs.PieceSteps.{is_at}
use Rattle.event_steps.specs.ThreadSteps.{thread_task, ThreadStepsBy, ThreadStep}
use Rattle.thread_runs.specs.ThreadCode.{thread_relocated}
use Rattle.thread_runs.specs.Work.{IsWork, AtWork, Worked}
use Rattle.event_steps.proofs.ThreadSteps.{unlocked_task}
use Rattle.thread_runs.proofs.EffectSteps.{rip_low, relocated_stands, relocated_low, effect_step}
use Rattle.bare_threads.specs.KilledThreads.{AtWorkBut, IsKilledEffectStep}
use Rattle.bare_threads.proofs.KilledThreads.{plain, killed_thread}

-- an instruction that kills a place has no direct target, and its relocated code is its copy
record IsCopied (i : Insn) : Type 0 where
  direct : direct_target i ≡ None
  copy : (f : Fields) (next place : ℕ) → thread_relocated i f next place ≡ copy_of f next place

no : (i : Insn) → true ≡ false → IsCopied i
no i h = absurd (true≢false h)

copied : (p : Place) (i : Insn) → kills p i ≡ true → IsCopied i
copied FiveFlags (Exact (Jcc c rel)) h = no _ (sym h)
copied FiveFlags (Exact (Loop kind rel short)) h = no _ (sym h)
copied FiveFlags (Exact (Jmp target)) h = no _ (sym h)
copied FiveFlags (Exact (Call target)) h = no _ (sym h)
copied SixFlags (Exact (Jcc c rel)) h = no _ (sym h)
copied SixFlags (Exact (Loop kind rel short)) h = no _ (sym h)
copied SixFlags (Exact (Jmp target)) h = no _ (sym h)
copied SixFlags (Exact (Call target)) h = no _ (sym h)
copied (Register r) (Exact (Jcc c rel)) h = no _ (sym h)
copied (Register r) (Exact (Loop kind rel short)) h = no _ (sym h)
copied (Register r) (Exact (Jmp target)) h = no _ (sym h)
copied (Register r) (Exact (Call target)) h = no _ (sym h)
copied p (Exact op) h = record { direct = refl; copy = λ a b c. refl }
copied p (Asked form) h = no _ (sym h)
copied p Ending h = no _ (sym h)

-- it writes the same bytes
one_write : (set : ℕ → Bool) (p : Place) (i : Insn) (next : ℕ) (c d : Core) (entry : Option Entry) → kills p i ≡ true → cleared p c ≡ cleared p d
    → writes_avoid set i next c entry ≡ writes_avoid set i next d entry
one_write set p (Exact op) next c d entry h e = ap (λ (z : Effect). avoids_span set z.write) (one_effect p op next c d h e)
one_write set p (Asked form) next c d entry h e = absurd (true≢false (sym h))
one_write set p Ending next c d entry h e = absurd (true≢false (sym h))

module _ (hidden stale : ℕ → Bool) (p : Place) (f : Fields) (next to : ℕ) (s u : Machine) (h : kills p (insn_of f) ≡ true) (w : AtWorkBut hidden stale p f next to s u) where
  -- the thread with the original's registers and flags
  abbrev z : Machine
  z = mended s u

  agree : AgreeBut p z u
  agree = λ i. record { core = w.alike.core i; rip = u.rip; mem = u.mem; world = u.world }

  work : IsWork f s.rip next to z
  work = record { spelled = w.work.spelled; size = w.work.size; displaced = w.work.displaced; behind = w.work.behind; low = w.work.low; stands = w.work.stands; place_low = w.work.place_low }

  at_work : AtWork hidden stale f next to s z
  at_work = record { here = w.here; there = w.there; work = work; alike = record { core = refl; world = w.alike.world; mem = w.alike.mem }; apart = w.apart; fresh = w.fresh }

  abbrev next' : ℕ
  next' = to + length (spelling f)

  abbrev g : Fields
  g = moved_fields f next next'

  c : IsCopied (insn_of f)
  c = copied p (insn_of f) h

  low : next' < 2 ^ 31
  low =
      let n : length (thread_relocated (insn_of f) f next to) ≡ length (spelling f) = ap (λ (y : List ℕ). length y) (c.copy f next to) ∙ copy_length f next to w.work.spelled in
      omega (arith, n, relocated_low f s.rip next to u w.work (insn_of f) refl)

  same : IsInstruction g × (length (spelling g) ≡ length (spelling f)) × (task_of g next' ≡ task_of f next)
  same = same_task f next next' w.work.spelled c.direct low (rip_low f s.rip next to u w.work)

  -- the copy kills the place
  copy_kills : kills p (insn_of g) ≡ true
  copy_kills =
      sym (kills_anywhere p next' (insn_of g)) ∙ ap (λ (t : Task). kills p t.insn) same.2 ∙ kills_anywhere p next (insn_of f) ∙ h

  copy_stands : IsFixed u.mem to (copy_of f next to)
  copy_stands = subst (IsFixed u.mem to) (c.copy f next to) (relocated_stands f s.rip next to u w.work (insn_of f) refl)

  -- so does what stands where the thread stands
  first_kills : (v : Machine) (k : Fields) → v.rip ≡ to → v.mem ≡ u.mem → IsAt v k → kills p (insn_of k) ≡ true
  first_kills v k r m a =
      let e : k ≡ g = one_instruction v k g a (is_at v to g same.0 r (subst (λ (y : Bytes). IsFixed y to (copy_of f next to)) (sym m) copy_stands)) in
      ap (λ (y : Fields). kills p (insn_of y)) e ∙ copy_kills

  -- what the mended thread's step writes the thread's step writes
  same_written : (k : Fields) → kills p (insn_of k) ≡ true → (x : ℕ) → writes_at (thread_task k (next_after u.rip k)) (next_after u.rip k) z x ≡ writes_at (thread_task k (next_after u.rip k)) (next_after u.rip k) u x
  same_written k e x =
      let n = next_after u.rip k in
      let t : thread_task k n ≡ task_of k n = unlocked_task k n (plain p k (insn_of k) refl e) in
      ap (λ (y : Task). writes_at y n z x) t
      ∙ ap not (one_write (λ a. x == a) p (resolved_insn n (insn_of k)) n s.core u.core (first u.world) (kills_anywhere p n (insn_of k) ∙ e) w.alike.core)
      ∙ sym (ap (λ (y : Task). writes_at y n u x) t)

  back : (s' u' : Machine) → Worked hidden stale f next to s z s' u' → Worked hidden stale f next to s u s' u'
  back s' u' k =
      let e = first_kills z k.fields w.there refl k.other.at in
      record {
        own = k.own;
        fields = k.fields;
        other = killed_thread p k.fields e z u u' agree k.other;
        tail = k.tail;
        there = k.there;
        core = k.core;
        world = k.world;
        mem = subst (λ (y : ℕ → Bool). AreAlike hidden (still stale y) s'.mem u'.mem) (λ i x. same_written k.fields e x i) k.mem;
      }

  both : ((s' : Machine) → ThreadStepsBy f s s' → (u' : Machine) × Worked hidden stale f next to s u s' u') × ((u' : Machine) → ThreadStep u u' → (s' : Machine) × Worked hidden stale f next to s u s' u')
  both =
      let q = effect_step hidden stale f next to s z at_work in (
        λ s' st. (let r = q.0 s' st in (r.0, back s' r.0 r.1)),
        λ u' st. (let o = killed_thread p st.0 (first_kills u st.0 w.there refl st.1.at) u z u' (sym agree) st.1 in let r = q.1 u' (st.0, o) in (r.0, back r.0 u' r.1)),
      )

-- the effect step of an instruction that kills the place
pub killed_effect : IsKilledEffectStep
killed_effect hidden stale p f next to s u h w = both hidden stale p f next to s u h w
