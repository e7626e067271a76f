-- A step of a thread: it is one of a single processor, but for LOCK INC and LOCK XADD; code and permissions stay.
use Rattle.std.proofs.Common.{◌≡◌, ℕ, false, Ok, refl, sym, ap, ◌∙◌, subst, zero, suc, cond, Some, ap₂}
use Rattle.std.proofs.lemmas.Bool.{cond-false}
use Rattle.length_decode.specs.Spelling.{Fields}
use Rattle.insn_form.specs.Machine.{Machine, Task, act}
use Rattle.insn_form.specs.Step.{IsAt, next_after, task_of}
use Rattle.insn_form.proofs.UniqueSteps.{one_instruction}
use Rattle.event_steps.specs.ThreadSteps.{is_locked_inc, is_locked_xadd, adding, thread_task, acting, thread_act, ThreadStepsBy, ThreadStep, IsThreadStep}
use Rattle.event_steps.proofs.Acting.{same_state, acting_perms, acting_guarded}
use Rattle.pun_base.specs.Memory.{Bytes}
use Rattle.cpu_state.specs.Bytes.{advanced, allows, lacking}
use Rattle.insn_form.specs.Touched.{perms_at}
use Rattle.relocate_insn.proofs.FixedCode.{SameCode}
use Rattle.insn_form.proofs.AlikeMemories.{same_allows}

-- an instruction that acts makes a step
pub made : (f : Fields) (s t : Machine) → IsAt s f → thread_act f (next_after s.rip f) s ≡ Ok t → ThreadStepsBy f s t
made f s t at acts = record { at = at; acts = acts }

-- neither LOCK INC nor LOCK XADD
abbrev pub IsPlain : Fields → Type 0
IsPlain f = (is_locked_inc f ≡ false) × (is_locked_xadd f ≡ false)

-- the reading of another instruction
pub unlocked_task : (f : Fields) (next : ℕ) → IsPlain f → thread_task f next ≡ task_of f next
unlocked_task f next h = cond-false (is_locked_inc f) _ _ h.0 ∙ cond-false (is_locked_xadd f) (task_of (adding f) next) (task_of f next) h.1

-- an instruction that loads nothing acts as its task does
pub alone_acts : (f : Fields) (next : ℕ) (s : Machine) → is_locked_xadd f ≡ false → thread_act f next s ≡ act (thread_task f next) next s
alone_acts f next s h = ap (λ x. acting x (thread_task f next) next s) h

-- so does each but LOCK INC and LOCK XADD, as a single processor reads it
pub plain_acts : (f : Fields) (next : ℕ) (s : Machine) → IsPlain f → thread_act f next s ≡ act (task_of f next) next s
plain_acts f next s h = alone_acts f next s h.1 ∙ ap (λ (t : Task). act t next s) (unlocked_task f next h)

-- a step that a single processor makes by an instruction other than LOCK INC and LOCK XADD is one of a thread
pub thread_step : IsThreadStep
thread_step set' f s t h x st = made f s t st.at (plain_acts f (next_after s.rip f) s (h, x) ∙ st.acts)

-- a state has one next state at most
pub one_thread_next : (s t u : Machine) → ThreadStep s t → ThreadStep s u → t ≡ u
one_thread_next s t u a b =
    let e = one_instruction s a.0 b.0 a.1.at b.1.at in
    same_state t u (sym (subst (λ (f : Fields). thread_act f (next_after s.rip f) s ≡ Ok t) e a.1.acts) ∙ b.1.acts)

-- after a step of a thread memory has the code that it had before
pub keeps_code : (m : Bytes) (f : Fields) (s t : Machine) → ThreadStepsBy f s t → SameCode m s.mem → SameCode m t.mem
keeps_code m f s t st h x a w =
    let e = h x a w in
    acting_guarded (is_locked_xadd f) (thread_task f (next_after s.rip f)) (next_after s.rip f) s t st.acts x (ap (allows 2) e ∙ w) ∙ e

-- no step of a thread changes permissions
pub keeps_perms : (f : Fields) (s t : Machine) → ThreadStepsBy f s t → (x : ℕ) → perms_at t.mem x ≡ perms_at s.mem x
keeps_perms f s t st x = acting_perms (is_locked_xadd f) (thread_task f (next_after s.rip f)) (next_after s.rip f) s t st.acts x

-- where permissions are equal, the first byte that lacks one is the same
pub lacking_on : (p : ℕ) (m w : Bytes) (a n : ℕ) → ((x : ℕ) → perms_at w x ≡ perms_at m x) → lacking p w a n ≡ lacking p m a n
lacking_on p m w a zero h = refl
lacking_on p m w a (suc n) h = ap₂ (λ b o. cond b o (Some a)) (same_allows p (w a) (m a) (h a)) (lacking_on p m w (advanced a 1) n h)
