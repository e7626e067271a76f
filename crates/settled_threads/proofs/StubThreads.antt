-- The stub's steps are steps of a thread: none of them asks the world, so none is LOCK INC or LOCK XADD.
use Rattle.std.proofs.Common.{◌≡◌, ℕ, ◌<◌, ◌≤◌, Bool, true, false, cond, List, [], ◌∷◌, length, Some, None, Ok, refl, sym, ap, ◌∙◌, subst, arith}
use Rattle.length_decode.specs.Spelling.{Fields}
use Rattle.cpu_state.specs.declared.world.Entry.{Entry}
use Rattle.cpu_state.specs.declared.world.Question.{Question}
use Rattle.insn_form.specs.declared.form.AskedForm.{AskedForm}
use Rattle.insn_form.specs.declared.form.Insn.{Insn}
use Rattle.insn_form.specs.declared.form.Insn.TheVariants.{Exact, Asked, Ending}
use Rattle.insn_form.specs.Instruction.{insn_of}
use Rattle.insn_form.specs.Resolving.{resolved_insn}
use Rattle.insn_form.specs.Plan.{Plan, lacking_writes, by_answer}
use Rattle.insn_form.specs.Machine.{Machine, Task, first, rest, act}
use Rattle.insn_form.specs.Step.{StepsBy, next_after, question_of, task_of}
use Rattle.insn_form.specs.Runs.{nowhere, IsPath, last_of}
use Rattle.insn_form.proofs.FrameRule.{carry_ok, ask_ok, unless_ok, same_Ok}
use Rattle.event_steps.specs.ThreadSteps.{ThreadStep}
use Rattle.event_steps.proofs.ThreadSteps.{IsPlain, thread_step}
use Rattle.thread_runs.proofs.LockInc.{not_locked}
use Rattle.settled_runs.specs.Laws.{StubStep}

-- a rest of the world is no longer than it
rest_less : (w : List Entry) → length (rest w) ≤ length w
rest_less [] = omega arith
rest_less (e ∷ es) = omega arith

-- where it has an entry, it is shorter
rest_shorter : (w : List Entry) (e : Entry) → first w ≡ Some e → length (rest w) < length w
rest_shorter [] e q = absurd cc
rest_shorter (x ∷ xs) e q = omega arith

left_less : (b : Bool) (w : List Entry) → length (cond b (rest w) w) ≤ length w
left_less true w = rest_less w
left_less false w = omega arith

-- no step makes the world longer
world_less : (t : Task) (next : ℕ) (s u : Machine) → act t next s ≡ Ok u → length u.world ≤ length s.world
world_less t next s u e =
    let q = carry_ok next s.mem s.world _ u e in
    subst (λ (z : Machine). length z.world ≤ length s.world) (sym q.2) (left_less q.0.used s.world)

-- an instruction that asks makes it shorter
asked_shorter : (form : AskedForm) (asks : Question) (next : ℕ) (s u : Machine) → act (record { insn = Asked form; asks = asks }) next s ≡ Ok u
    → length u.world < length s.world
asked_shorter form asks next s u e =
    let q = carry_ok next s.mem s.world _ u e in let p = q.0 in
    let a = ask_ok asks (first s.world) (by_answer form.syscall next s.core s.mem) p q.1 in
    let r = unless_ok (lacking_writes s.mem a.0.answer.writes) _ p a.2 in
    let used : p.used ≡ true = sym (ap (λ (z : Plan). z.used) (same_Ok _ p r)) in
    let world : u.world ≡ rest s.world = ap (λ (z : Machine). z.world) q.2 ∙ ap (λ b. cond b (rest s.world) s.world) used in
    subst (λ (z : List Entry). length z < length s.world) (sym world) (rest_shorter s.world a.0 a.1)

-- an ending instruction has no step
none_ends : (asks : Question) (next : ℕ) (s u : Machine) → act (record { insn = Ending; asks = asks }) next s ≡ Ok u → ⊥
none_ends asks next s u e = cc

-- so a step that leaves the world is neither LOCK INC nor LOCK XADD
plain_step : (f : Fields) (s t : Machine) → StepsBy nowhere f s t → length s.world ≤ length t.world → IsPlain f
plain_step f s t st l = by_insn (insn_of f) refl
  where
    acts : (i : Insn) → insn_of f ≡ i
        → act (record { insn = resolved_insn (next_after s.rip f) i; asks = question_of f (next_after s.rip f) }) (next_after s.rip f) s ≡ Ok t
    acts i e = let next = next_after s.rip f in subst (λ z. act (record { insn = resolved_insn next z; asks = question_of f next }) next s ≡ Ok t) e st.acts

    by_insn : (i : Insn) → insn_of f ≡ i → IsPlain f
    by_insn (Exact op) e = not_locked f op e
    by_insn (Asked form) e = absurd (let k = asked_shorter (record { rip_disp = None; syscall = form.syscall; copied = form.copied }) (question_of f (next_after s.rip f)) (next_after s.rip f) s t (acts (Asked form) e) in omega (arith, k, l))
    by_insn Ending e = absurd (none_ends (question_of f (next_after s.rip f)) (next_after s.rip f) s t (acts Ending e))

-- along the stub's steps the world grows no longer
path_less : (at : ℕ) (s : Machine) (ts : List Machine) → IsPath (StubStep at) s ts → length (last_of s ts).world ≤ length s.world
path_less at s [] p = omega arith
path_less at s (t ∷ ts) p =
    let o = p.0.own in let next = next_after s.rip o.0 in
    let k = path_less at t ts p.1 in let j = world_less (task_of o.0 next) next s t o.1.acts in
    omega (arith, k, j)

-- where they leave it, each is a step of a thread
pub stub_threads : (at : ℕ) (s : Machine) (ts : List Machine) → IsPath (StubStep at) s ts → length s.world ≤ length (last_of s ts).world → IsPath ThreadStep s ts
stub_threads at s [] p l = tt
stub_threads at s (t ∷ ts) p l =
    let o = p.0.own in let next = next_after s.rip o.0 in
    let k = path_less at t ts p.1 in let j = world_less (task_of o.0 next) next s t o.1.acts in
    let q = plain_step o.0 s t o.1 (omega (arith, k, l)) in
    ((o.0, thread_step nowhere o.0 s t q.0 q.1 o.1), stub_threads at t ts p.1 (omega (arith, j, l)))
