-- A run fixes its world, where each answer sets nothing.
use Rattle.std.proofs.Common.{◌≡◌, ℕ, Bool, true, false, cond, eqb, List, [], ◌∷◌, length, Option, Some, Result, Ok, Err, refl, sym, ap, ◌∙◌, subst, arith}
use Rattle.std.specs.List.{AllByRecursion}
use Rattle.std.proofs.lemmas.Bool.{and_parts}
use Rattle.pun_base.specs.Memory.{Bytes}
use Rattle.cpu_alu.specs.FlagWord.{unpacked}
use Rattle.cpu_state.specs.declared.script.Script.{Script}
use Rattle.cpu_state.specs.declared.state.Core.{Core}
use Rattle.cpu_state.specs.declared.world.Answer.{Answer}
use Rattle.cpu_state.specs.declared.world.Entry.{Entry}
use Rattle.cpu_state.specs.declared.world.MemWrite.{MemWrite}
use Rattle.cpu_state.specs.declared.world.Question.{Question}
use Rattle.length_decode.specs.Spelling.{Fields}
use Rattle.insn_form.specs.declared.effect.Out.{Out}
use Rattle.insn_form.specs.declared.form.Insn.{Insn}
use Rattle.insn_form.specs.declared.form.Insn.TheVariants.{Exact, Asked, Ending}
use Rattle.insn_form.specs.Meaning.{effect}
use Rattle.insn_form.specs.Plan.{Plan, Halt, Differs, lacking_in, number_in, writes_in, lacking_writes, same_bytes, same_address, same_question, ask, completed, planned, exactly, by_answer, plan}
use Rattle.insn_form.specs.Machine.{Machine, first, rest, carried, act}
use Rattle.insn_form.specs.Step.{IsAt, Step, next_after, task_of}
use Rattle.insn_form.specs.Runs.{nowhere, IsRun, last_of}
use Rattle.insn_form.proofs.FrameRule.{unless_ok, carry_ok, same_Ok}
use Rattle.insn_form.proofs.UniqueSteps.{one_instruction, bytes_are, address_is}
use Rattle.guest_gen.specs.Laws.{WorldIsOne}
use Rattle.guest_gen.specs.Worlds.{IsGuestScript, SetsNothing, start_of}
use Rattle.guest_gen.proofs.GuestTurns.{left}

-- questions that pass the test for being the same are equal
question_is : (p q : Question) → same_question p q ≡ true → p ≡ q
question_is p q h =
    let k = and_parts (same_bytes p.bytes q.bytes) (same_address p.addr q.addr) h in
    let b = bytes_are p.bytes q.bytes k.0 in
    let a = address_is p.addr q.addr k.1 in
    λ i. record { bytes = b i; addr = a i }

-- an entry that answers has the question that is asked
answers : (q : Question) (e : Entry) (go : Answer → Result Plan Halt) (p : Plan) → ask q (Some e) go ≡ Ok p
    → (go e.answer ≡ Ok p) × (e.question ≡ q)
answers q e go p h = by_test (same_question q e.question) refl h
  where
    by_test : (b : Bool) → same_question q e.question ≡ b → cond b (go e.answer) (Err Differs) ≡ Ok p
        → (go e.answer ≡ Ok p) × (e.question ≡ q)
    by_test true t k = (k, sym (question_is q e.question t))
    by_test false t k = absurd cc

-- the entries that a plan leaves
abbrev left_by : Plan → List Entry → List Entry
left_by p w = cond p.used (rest w) w

-- two worlds give one plan, and are equal where what it leaves of them is
record SamePlan (w v : List Entry) (p p' : Plan) : Type 0 where
  same : p ≡ p'
  back : left_by p w ≡ left_by p' v → w ≡ v

-- where the world is asked
same_asked : (q : Question) (go : Answer → Result Plan Halt) (w v : List Entry) (p p' : Plan)
    → ((a : Answer) (r : Plan) → go a ≡ Ok r → r.used ≡ true)
    → AllByRecursion SetsNothing w → AllByRecursion SetsNothing v → ask q (first w) go ≡ Ok p → ask q (first v) go ≡ Ok p'
    → SamePlan w v p p'
same_asked q go [] v p p' used h k a b = absurd cc
same_asked q go (e ∷ w) [] p p' used h k a b = absurd cc
same_asked q go (e ∷ w) (f ∷ v) p p' used h k a b =
    let x = answers q e go p a in
    let y = answers q f go p' b in
    let one = same_Ok p p' (sym x.0 ∙ ap go (h.0 ∙ sym k.0) ∙ y.0) in
    let question = x.1 ∙ sym y.1 in
    let answer = h.0 ∙ sym k.0 in
    let u = used e.answer p x.0 in
    let u' = used f.answer p' y.0 in
    record {
      same = one;
      back = λ r.
          (let tails : w ≡ v = sym (ap (λ (z : Bool). cond z w (e ∷ w)) u) ∙ (r ∙ ap (λ (z : Bool). cond z v (f ∷ v)) u') in
          λ i. record { question = question i; answer = answer i } ∷ tails i);
    }

-- an exact instruction, where its flags are defined or not
abbrev exact_by : Bool → Question → List MemWrite → Out → Option Entry → Result Plan Halt
exact_by t q ws o e =
    cond t (Ok (planned o.core o ws false)) (ask q e (λ z. Ok (planned (completed o.undefined o.core z) o ws true)))

-- of an exact instruction
same_exact : (q : Question) (ws : List MemWrite) (o : Out) (w v : List Entry) (p p' : Plan) → AllByRecursion SetsNothing w
    → AllByRecursion SetsNothing v → exactly q ws (first w) o ≡ Ok p → exactly q ws (first v) o ≡ Ok p' → SamePlan w v p p'
same_exact q ws o w v p p' h k a b = by_test (eqb o.undefined 0) a b
  where
    by_test : (t : Bool) → exact_by t q ws o (first w) ≡ Ok p → exact_by t q ws o (first v) ≡ Ok p' → SamePlan w v p p'
    by_test true x y =
        let e = same_Ok (planned o.core o ws false) p x in
        let f = same_Ok (planned o.core o ws false) p' y in
        let u = ap (λ (z : Plan). z.used) e in
        let u' = ap (λ (z : Plan). z.used) f in
        record {
          same = sym e ∙ f;
          back = λ r. ap (λ (z : Bool). cond z (rest w) w) u ∙ (r ∙ sym (ap (λ (z : Bool). cond z (rest v) v) u'));
        }
    by_test false x y =
        same_asked q (λ z. Ok (planned (completed o.undefined o.core z) o ws true)) w v p p'
        (λ z r s. sym (ap (λ (n : Plan). n.used) (same_Ok (planned (completed o.undefined o.core z) o ws true) r s))) h k x y

-- an answered plan uses an entry
uses_one : (syscall : Bool) (next : ℕ) (c : Core) (m : Bytes) (a : Answer) (r : Plan) → by_answer syscall next c m a ≡ Ok r
    → r.used ≡ true
uses_one syscall next c m a r h = sym (ap (λ (z : Plan). z.used) (same_Ok _ r (unless_ok (lacking_writes m a.writes) _ r h)))

-- of each instruction
same_plan : (i : Insn) (q : Question) (next : ℕ) (c : Core) (m : Bytes) (w v : List Entry) (p p' : Plan) → AllByRecursion SetsNothing w
    → AllByRecursion SetsNothing v → plan i q next c m (first w) ≡ Ok p → plan i q next c m (first v) ≡ Ok p' → SamePlan w v p p'
same_plan (Exact op) q next c m w v p p' h k a b =
    let e = effect op next c in
    let o = e.out (number_in m e.read) in
    let a2 = unless_ok (lacking_in 2 m e.write) _ p (unless_ok (lacking_in 4 m e.read) _ p a) in
    let b2 = unless_ok (lacking_in 2 m e.write) _ p' (unless_ok (lacking_in 4 m e.read) _ p' b) in
    same_exact q (writes_in e.write o.value) o w v p p' h k a2 b2
same_plan (Asked form) q next c m w v p p' h k a b =
    same_asked q (by_answer form.syscall next c m) w v p p' (uses_one form.syscall next c m) h k a b
same_plan Ending q next c m w v p p' h k a b = absurd cc

-- what is left sets nothing either
all_left : (b : Bool) (w : List Entry) → AllByRecursion SetsNothing w → AllByRecursion SetsNothing (cond b (rest w) w)
all_left true [] h = h
all_left true (e ∷ w) h = h.1
all_left false w h = h

-- a step under each of two worlds leads to states that differ in what is left of them alone
record SameStep (w v : List Entry) (t u : Machine) : Type 0 where
  state : Machine
  w' : List Entry
  v' : List Entry
  t_is : t ≡ left state w'
  u_is : u ≡ left state v'
  all_w : AllByRecursion SetsNothing w'
  all_v : AllByRecursion SetsNothing v'
  back : w' ≡ v' → w ≡ v

-- each pair of steps does
same_step : (s : Machine) (w v : List Entry) (t u : Machine) → AllByRecursion SetsNothing w → AllByRecursion SetsNothing v
    → Step nowhere (left s w) t → Step nowhere (left s v) u → SameStep w v t u
same_step s w v t u h k a b =
    let f = a.0 in
    let next = next_after s.rip f in
    let task = task_of f next in
    let there : IsAt (left s w) b.0 = record { spelled = b.1.at.spelled; here = b.1.at.here } in
    let e : b.0 ≡ f = one_instruction (left s w) b.0 f there a.1.at in
    let acts : act task next (left s v) ≡ Ok u =
    subst (λ (g : Fields). act (task_of g (next_after s.rip g)) (next_after s.rip g) (left s v) ≡ Ok u) e b.1.acts in
    let x = carry_ok next s.mem w _ t a.1.acts in
    let y = carry_ok next s.mem v _ u acts in
    let d = same_plan task.insn task.asks next s.core s.mem w v x.0 y.0 h k x.1 y.1 in
    let p : x.0 ≡ y.0 = d.same in
    record {
      state = carried next s.mem [] x.0;
      w' = left_by x.0 w;
      v' = left_by y.0 v;
      t_is = x.2;
      u_is = y.2
          ∙ (λ i. left (carried next s.mem [] (sym p i)) (left_by y.0 v));
      all_w = all_left x.0.used w h;
      all_v = all_left y.0.used v k;
      back = d.back;
    }

-- runs under each of two worlds
one_world : (s : Machine) (w v : List Entry) (ts us : List Machine) → length ts ≡ length us → AllByRecursion SetsNothing w
    → AllByRecursion SetsNothing v → IsRun Step (left s w) ts → IsRun Step (left s v) us → (last_of (left s w) ts).world ≡ []
    → (last_of (left s v) us).world ≡ [] → w ≡ v
one_world s w v [] [] l h k a b e f = e ∙ sym f
one_world s w v [] (u ∷ us) l h k a b e f = absurd (omega arith)
one_world s w v (t ∷ ts) [] l h k a b e f = absurd (omega arith)
one_world s w v (t ∷ ts) (u ∷ us) l h k a b e f =
    let d = same_step s w v t u h k a.0 b.0 in
    d.back (one_world d.state d.w' d.v' ts us (omega arith) d.all_w d.all_v
    (subst (λ (z : Machine). IsRun Step z ts) d.t_is a.1) (subst (λ (z : Machine). IsRun Step z us) d.u_is b.1)
    (subst (λ (z : Machine). (last_of z ts).world ≡ []) d.t_is e) (subst (λ (z : Machine). (last_of z us).world ≡ []) d.u_is f))

-- two scripts start a file alike, but for their worlds
same_start : (file : List ℕ) (s t : Script) → IsGuestScript s → IsGuestScript t → start_of file t ≡ left (start_of file s) t.world.entries
same_start file s t g h =
    let regs = h.regs ∙ sym g.regs in
    let flags = ap unpacked (h.flags ∙ sym g.flags) in
    let fs = h.fs ∙ sym g.fs in
    let gs = h.gs ∙ sym g.gs in
    let at = start_of file s in
    λ i. record { core = record { regs = regs i; flags = flags i; fs = fs i; gs = gs i }; rip = at.rip; mem = at.mem; world = t.world.entries }

-- so a guest has one world
pub world_is_one : WorldIsOne
world_is_one n file s t g h a b =
    let p = same_start file s t g h in
    one_world (start_of file s) s.world.entries t.world.entries a.states b.states
    (a.uses.count ∙ sym b.uses.count) a.nothing b.nothing a.uses.run
    (subst (λ (z : Machine). IsRun Step z b.states) p b.uses.run) a.uses.used
    (subst (λ (z : Machine). (last_of z b.states).world ≡ []) p b.uses.used)
