-- One step of a thread: that of LOCK INC is the step of INC one address further, and each other one but that of LOCK XADD is a single processor's.
use Rattle.std.proofs.Common.{◌≡◌, ℕ, Bool, true, false, List, [], ◌∷◌, ◌++◌, length, drop, Option, Some, None, Result, Ok, Err, refl, sym, ap, ◌∙◌, subst, arith}
use Rattle.std.specs.Prelude.{nat_le}
use Rattle.std.proofs.lemmas.Bool.Decides.{nat_tests}
use Rattle.pun_base.specs.Memory.{Bytes}
use Rattle.length_decode.specs.declared.field_bytes.Stop as reading
use Rattle.length_decode.specs.Spelling.{Fields, IsInstruction, spelling}
use Rattle.length_decode.specs.Parse.{parse}
use Rattle.cpu_state.specs.declared.state.Core.{Core}
use Rattle.cpu_state.specs.declared.state.State.{State}
use Rattle.cpu_state.specs.declared.world.Entry.{Entry}
use Rattle.cpu_state.specs.declared.world.Question.{Question}
use Rattle.cpu_state.specs.Bytes.{advanced, code_at}
use Rattle.cpu_state.specs.Regions.{cell_at}
use Rattle.insn_form.specs.declared.form.Insn.{Insn}
use Rattle.insn_form.specs.Classes.{template}
use Rattle.insn_form.specs.Filling.{filled}
use Rattle.insn_form.specs.Meaning.{effect}
use Rattle.insn_form.specs.Plan.{Plan, Halt, Lacks, Ends, Empty, Differs, plan, unless}
use Rattle.insn_form.specs.Machine.{Machine, Task, act, first, standing_at}
use Rattle.insn_form.specs.Step.{IsAt, Step, next_after, task_of}
use Rattle.insn_form.specs.Runs.{nowhere}
use Rattle.insn_form.proofs.UniqueSteps.{front, one_instruction}
use Rattle.insn_form.proofs.TouchedMemory.{leaves_nowhere}
use Rattle.cpu_step.specs.declared.step_info.StepInfo.{StepInfo}
use Rattle.cpu_step.specs.declared.stop.Stop.{Stop}
use Rattle.cpu_step.specs.Stepping.{judged_code, judged_in, judged_reading, judged_task, judgement, machine_of, taken_or_stop}
use Rattle.cpu_step.specs.Steps.{Steps, Uses, told}
use Rattle.cpu_step.proofs.JudgedSteps.{judged_there, read_is_at}
use Rattle.cpu_step.proofs.Windows.{stands}
use Rattle.image_step.proofs.RunnerSteps.{told_err}
use Rattle.event_steps.specs.ThreadSteps.{is_locked_inc, is_locked_xadd, unlocked, thread_task, thread_act, ThreadStep}
use Rattle.thread_runs.specs.ThreadJudging.{loading, thread_reading, thread_code, thread_judgement, UsesOne, StepsThread, begins_locked, begins_xadd}
use Rattle.thread_runs.proofs.LockInc.{locked}
use Rattle.thread_runs.proofs.LockIncSpelling.{locked_formed, locked_spelled, xadd_spelled, begun}
use Rattle.thread_runs.proofs.ThreadJudgements.{thread_there}
use Rattle.event_steps.proofs.ThreadSteps.{IsPlain as IsPlainFields, made, thread_step, unlocked_task, plain_acts}

-- ---- LOCK INC

-- the machine one address further
abbrev behind : Machine → Machine
behind s = standing_at (advanced s.rip 1) s

-- LOCK INC without F0 is an instruction
unlocked_formed : (a b c d : ℕ) → IsInstruction (unlocked (locked (a ∷ b ∷ c ∷ d ∷ []) []))
unlocked_formed a b c d = record { formed = record { prefixes = refl; escape = refl; opcode = refl; known = refl; modrm = refl; operand = (refl, refl); imm = refl }; short = omega arith }

-- LOCK INC stands at rip, and INC after its first byte
record HasLocked (s : Machine) : Type 0 where
  pub disp : List ℕ
  pub at : IsAt s (locked disp [])
  pub behind : IsAt (behind s) (unlocked (locked disp []))
  pub next : next_after (advanced s.rip 1) (unlocked (locked disp [])) ≡ next_after s.rip (locked disp [])

-- one address further and eight more are nine
one_on : (a : ℕ) → advanced (advanced a 1) 8 ≡ advanced a 9
one_on a = omega arith

-- where the bytes at rip pass the test, LOCK INC stands there, and without F0 one address further
locked_here : (s : Machine) → begins_locked (code_at s.mem s.rip 15) ≡ true → HasLocked s
locked_here s h =
    let g = begun 0xf0 0x48 0xff 0x04 0x25 (code_at s.mem s.rip 15) h in
    let f = locked (g.a ∷ g.b ∷ g.c ∷ g.d ∷ []) [] in
    let st = stands s.mem s.rip 15 (spelling f) g.rest g.joined in
    record {
      disp = g.a ∷ g.b ∷ g.c ∷ g.d ∷ [];
      at = record { spelled = locked_formed g.a g.b g.c g.d; here = st };
      behind = record { spelled = unlocked_formed g.a g.b g.c g.d; here = st.2 };
      next = one_on s.rip;
    }

-- INC one address further does what LOCK INC does
acts_alike : (d : List ℕ) (s : Machine) (n n' : ℕ) → n' ≡ n → act (task_of (unlocked (locked d [])) n') n' (behind s) ≡ act (thread_task (locked d []) n) n s
acts_alike d s n n' e = ap (λ z. act (task_of (unlocked (locked d [])) z) z s) e

-- the step of INC one address further is a thread's step of LOCK INC
to_thread : (s t : Machine) → HasLocked s → Step nowhere (behind s) t → ThreadStep s t
to_thread s t h x =
    let f = locked h.disp [] in
    let b = behind s in
    let e = one_instruction b x.0 (unlocked f) x.1.at h.behind in
    let acts = subst (λ (g : Fields). act (task_of g (next_after b.rip g)) (next_after b.rip g) b ≡ Ok t) e x.1.acts in
    (f, made f s t h.at (sym (acts_alike h.disp s (next_after s.rip f) (next_after b.rip (unlocked f)) h.next) ∙ acts))

-- a thread's step of LOCK INC is the step of INC one address further
from_thread : (s t : Machine) → HasLocked s → ThreadStep s t → Step nowhere (behind s) t
from_thread s t h x =
    let f = locked h.disp [] in
    let b = behind s in
    let n = next_after b.rip (unlocked f) in
    let e = one_instruction s x.0 f x.1.at h.at in
    let acts = subst (λ (g : Fields). thread_act g (next_after s.rip g) s ≡ Ok t) e x.1.acts in
    (unlocked f, record { at = h.behind; apart = leaves_nowhere (task_of (unlocked f) n) n b; acts = acts_alike h.disp s (next_after s.rip f) n h.next ∙ acts })

-- ---- what is judged

-- a stop that names no instruction is the same at each place
abbrev IsPlain : Result Plan Halt → Type 0
IsPlain (Ok p) = Unit {0}
IsPlain (Err (Lacks a)) = Unit {0}
IsPlain (Err Ends) = ⊥
IsPlain (Err Empty) = ⊥
IsPlain (Err Differs) = ⊥

-- a plain answer is the same wherever the instruction stands
plain_stop : (rip rip' : ℕ) (q : Question) (i : Insn) (next : ℕ) (c : Core) (r : Result Plan Halt) → IsPlain r → taken_or_stop rip q i next c r ≡ taken_or_stop rip' q i next c r
plain_stop rip rip' q i next c (Ok p) h = refl
plain_stop rip rip' q i next c (Err (Lacks a)) h = refl
plain_stop rip rip' q i next c (Err Ends) h = absurd h
plain_stop rip rip' q i next c (Err Empty) h = absurd h
plain_stop rip rip' q i next c (Err Differs) h = absurd h

-- a plan that is made unless bytes are lacking is plain
plain_unless : (o u : Option ℕ) (p : Plan) → IsPlain (unless o (unless u (Ok p)))
plain_unless None None p = tt
plain_unless None (Some a) p = tt
plain_unless (Some a) u p = tt

-- the plan of LOCK INC without F0 is plain
plan_inc : (d : List ℕ) (n : ℕ) (c : Core) (m : Bytes) (entry : Option Entry) → let t = task_of (unlocked (locked d [])) n in IsPlain (plan t.insn t.asks n c m entry)
unfolding template filled effect
plan_inc d n c m entry = plain_unless _ _ _

-- LOCK INC is judged as it is without F0, wherever it stands
inc_judged : (d : List ℕ) (n : ℕ) (c : Core) (rip rip' : ℕ) (m : Bytes) (entry : Option Entry)
    → judged_task (thread_task (locked d []) n) n c rip m entry ≡ judged_task (task_of (unlocked (locked d [])) n) n c rip' m entry
inc_judged d n c rip rip' m entry =
    let t = task_of (unlocked (locked d [])) n in
    plain_stop rip rip' t.asks t.insn n c (plan t.insn t.asks n c m entry) (plan_inc d n c m entry)

-- a thread at LOCK INC is judged as a processor at INC one address further
judged_behind : (s : Machine) → HasLocked s → thread_judgement s ≡ judgement (behind s)
judged_behind s h =
    let f = locked h.disp [] in
    let b = behind s in
    thread_there s f h.at
    ∙ inc_judged h.disp (next_after s.rip f) s.core s.rip b.rip s.mem (first s.world)
    ∙ ap (λ n. judged_task (task_of (unlocked f) n) n s.core b.rip s.mem (first s.world)) (sym h.next)
    ∙ sym (judged_there b (unlocked f) h.behind)

-- ---- another instruction

-- the nine bytes of LOCK INC, with any after them, pass the test
begins : (a b c d : ℕ) (rest : List ℕ) → begins_locked (0xf0 ∷ 0x48 ∷ 0xff ∷ 0x04 ∷ 0x25 ∷ a ∷ b ∷ c ∷ d ∷ rest) ≡ true
begins a b c d rest =
    let e : nat_le 9 (length (0xf0 ∷ 0x48 ∷ 0xff ∷ 0x04 ∷ 0x25 ∷ a ∷ b ∷ c ∷ d ∷ rest)) ≡ true = grind (arith, nat_tests) in
    rw e refl

-- so do those of LOCK XADD pass theirs
begins_too : (a b c d : ℕ) (rest : List ℕ) → begins_xadd (0xf0 ∷ 0x0f ∷ 0xc1 ∷ 0x04 ∷ 0x25 ∷ a ∷ b ∷ c ∷ d ∷ rest) ≡ true
begins_too a b c d rest =
    let e : nat_le 9 (length (0xf0 ∷ 0x0f ∷ 0xc1 ∷ 0x04 ∷ 0x25 ∷ a ∷ b ∷ c ∷ d ∷ rest)) ≡ true = grind (arith, nat_tests) in
    rw e refl

-- where the bytes at rip don't pass the test, the instruction that stands there isn't LOCK INC
not_begun : (s : Machine) (f : Fields) → IsAt s f → begins_locked (code_at s.mem s.rip 15) ≡ false → is_locked_inc f ≡ false
not_begun s f at h = by_test (is_locked_inc f) refl
  where
    by_test : (b : Bool) → is_locked_inc f ≡ b → b ≡ false
    by_test false k = refl
    by_test true k =
        let l = (locked_spelled f at.spelled).0 k in
        let bytes = front s.mem s.rip 15 (spelling f) at.spelled.short at.here in
        let rest = drop (length (spelling f)) (code_at s.mem s.rip 15) in
        sym (ap begins_locked bytes ∙ ap (λ bs. begins_locked (bs ++ rest)) l.spelled ∙ begins l.a l.b l.c l.d rest) ∙ h

-- nor LOCK XADD
not_exchanging : (s : Machine) (f : Fields) → IsAt s f → begins_xadd (code_at s.mem s.rip 15) ≡ false → is_locked_xadd f ≡ false
not_exchanging s f at h = by_test (is_locked_xadd f) refl
  where
    by_test : (b : Bool) → is_locked_xadd f ≡ b → b ≡ false
    by_test false k = refl
    by_test true k =
        let l = (xadd_spelled f at.spelled).0 k in
        let bytes = front s.mem s.rip 15 (spelling f) at.spelled.short at.here in
        let rest = drop (length (spelling f)) (code_at s.mem s.rip 15) in
        sym (ap begins_xadd bytes ∙ ap (λ bs. begins_xadd (bs ++ rest)) l.spelled ∙ begins_too l.a l.b l.c l.d rest) ∙ h

-- neither of the two stands at the instruction pointer
abbrev pub IsAlone : Machine → Type 0
IsAlone s = (begins_locked (code_at s.mem s.rip 15) ≡ false) × (begins_xadd (code_at s.mem s.rip 15) ≡ false)

-- where neither stands at rip, the instruction there is plain
plain_there : (s : Machine) (f : Fields) → IsAt s f → IsAlone s → IsPlainFields f
plain_there s f at h = (not_begun s f at h.0, not_exchanging s f at h.1)

-- there what is read is judged as a processor's
alone_reading : (s : Machine) (n : ℕ) (r : Result Fields reading.Stop) → parse (code_at s.mem s.rip 15) ≡ r → IsAlone s
    → thread_reading n r s.core s.rip s.mem (first s.world) ≡ judged_reading n r s.core s.rip s.mem (first s.world)
alone_reading s n (Ok f) e h =
    let next = next_after s.rip f in
    let k = plain_there s f (read_is_at s f e) h in
    ap (λ x. loading x (thread_task f next) next s.core s.mem (judged_task (thread_task f next) next s.core s.rip s.mem (first s.world))) k.1
    ∙ ap (λ (t : Task). judged_task t next s.core s.rip s.mem (first s.world)) (unlocked_task f next k)
alone_reading s n (Err k) e h = refl

-- so are the bytes there
alone_code : (s : Machine) (bs : List ℕ) → code_at s.mem s.rip 15 ≡ bs → IsAlone s
    → thread_code bs s.core s.rip s.mem (first s.world) ≡ judged_code bs s.core s.rip s.mem (first s.world)
alone_code s [] e h = refl
alone_code s (b ∷ bs) e h = alone_reading s (length (b ∷ bs)) (parse (b ∷ bs)) (ap parse e) h

-- a thread that is at neither is judged as a processor
judged_alone : (s : Machine) → IsAlone s → thread_judgement s ≡ judgement s
judged_alone s h = alone_code s (code_at s.mem s.rip 15) refl h

-- a thread's step is a processor's where it is at neither
alone_step : (s t : Machine) → IsAlone s → ThreadStep s t → Step nowhere s t
alone_step s t h x =
    let f = x.0 in
    let next = next_after s.rip f in
    (f, record { at = x.1.at; apart = leaves_nowhere (task_of f next) next s; acts = sym (plain_acts f next s (plain_there s f x.1.at h)) ∙ x.1.acts })

-- ---- calls of step

abbrev further : State → State
further s = record s { rip = advanced s.rip 1 }

-- a step that uses an entry of the world was given one
uses_one : (old new : State) (next : Option Entry) (info : StepInfo) → Uses next old new (Ok info) → UsesOne next info.used
uses_one old new None info u = u
uses_one old new (Some e) info u = tt

-- at LOCK INC the step of INC, one address further, is the thread's step
pub locked_ok : (old new : State) (next : Option Entry) (info : StepInfo) → begins_locked (code_at (cell_at old.mem) old.rip 15) ≡ true
    → Steps next (further old) new (Ok info) → Uses next (further old) new (Ok info) → StepsThread next old new (Ok info.used)
locked_ok old new next info h st u = (
  uses_one (further old) new next info u,
  λ world f. (let s = machine_of old world in to_thread s _ (locked_here s h) (st world f)),
)

-- at LOCK INC, where INC one address further has no step, the thread has none, for the same reason, and stays
pub locked_err : (old new : State) (next : Option Entry) (stop : Stop) → begins_locked (code_at (cell_at old.mem) old.rip 15) ≡ true
    → ◌≡◌ {A = Result StepInfo Stop} (Err stop) (told (judged_in (further old) next)) → Steps next (further old) new (Err stop) → new ≡ further old
    → StepsThread next old (record new { rip = old.rip }) (Err stop)
locked_err old new next stop h t st e = (
  ap (λ (z : State). record z { rip = old.rip }) e,
  λ world f. (let s = machine_of old world in
      let l = locked_here s h in
      record {
        reason = judged_behind s l ∙ ap (λ (n : Option Entry). judged_in (further old) n) f ∙ told_err (judged_in (further old) next) stop t;
        none = λ u x. st world f u (from_thread s u l x);
      }),
)

-- at any other instruction a single processor's step is the thread's step
pub alone_ok : (old new : State) (next : Option Entry) (info : StepInfo) → (begins_locked (code_at (cell_at old.mem) old.rip 15) ≡ false) × (begins_xadd (code_at (cell_at old.mem) old.rip 15) ≡ false)
    → Steps next old new (Ok info) → Uses next old new (Ok info) → StepsThread next old new (Ok info.used)
alone_ok old new next info h st u = (
  uses_one old new next info u,
  λ world f. (let s = machine_of old world in
      let x = st world f in
      let k = plain_there s x.0 x.1.at h in
      (x.0, thread_step nowhere x.0 s _ k.0 k.1 x.1)),
)

-- at any other instruction, where a single processor has no step, the thread has none, for the same reason, and stays
pub alone_err : (old new : State) (next : Option Entry) (stop : Stop) → (begins_locked (code_at (cell_at old.mem) old.rip 15) ≡ false) × (begins_xadd (code_at (cell_at old.mem) old.rip 15) ≡ false)
    → ◌≡◌ {A = Result StepInfo Stop} (Err stop) (told (judged_in old next)) → Steps next old new (Err stop) → new ≡ old → StepsThread next old new (Err stop)
alone_err old new next stop h t st e = (
  e,
  λ world f. (let s = machine_of old world in
      record {
        reason = judged_alone s h ∙ ap (λ (n : Option Entry). judged_in old n) f ∙ told_err (judged_in old next) stop t;
        none = λ u x. st world f u (alone_step s u h x);
      }),
)
