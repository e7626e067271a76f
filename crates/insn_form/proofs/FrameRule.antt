-- Why a step that leaves a set of addresses alone doesn't depend on it.
use Rattle.std.proofs.Common.{◌≡◌, ℕ, Bool, true, false, ◌&&◌, List, [], ◌∷◌, length, Option, Some, None, Result, Ok, Err, refl, sym, ap, ap₂, ◌∙◌, unwrap_or, cond, ◌==◌, true≢false, not}
use Rattle.std.proofs.lemmas.Bool.{and_parts}
use Rattle.pun_base.specs.Memory.{Bytes, without}
use Rattle.cpu_state.specs.declared.state.Core.{Core}
use Rattle.cpu_state.specs.declared.world.Question.{Question}
use Rattle.cpu_state.specs.declared.world.Answer.{Answer}
use Rattle.cpu_state.specs.declared.world.Entry.{Entry}
use Rattle.cpu_state.specs.declared.world.MemWrite.{MemWrite}
use Rattle.cpu_state.specs.Bytes.{put_list, avoids}
use Rattle.cpu_state.proofs.MemoryFrames.{lacking_frame, number_frame, put_list_frame, put_list_keeps}
use Rattle.insn_form.specs.declared.effect.Span.{Span}
use Rattle.insn_form.specs.declared.effect.Out.{Out}
use Rattle.insn_form.specs.declared.form.Insn.{Insn}
use Rattle.insn_form.specs.declared.form.Insn.TheVariants.{Exact, Asked, Ending}
use Rattle.insn_form.specs.declared.form.Op.TheVariants.{Leave, Call}
use Rattle.insn_form.specs.Effect.{Effect}
use Rattle.insn_form.specs.Meaning.{effect}
use Rattle.insn_form.specs.Plan.{Plan, Halt, Differs, lacking_in, number_in, writes_in, unless, or_first, lacking_writes, same_question, ask, completed, planned, exactly, by_effect, after_answer, by_answer, plan}
use Rattle.insn_form.specs.Machine.{Machine, Task, first, rest, put_all, carried, carry, view, standing_at, avoids_span, avoids_writes, avoids_effect, avoids_answer, avoids_insn, leaves}
use Rattle.insn_form.specs.Laws.{viewed, SameView, IsFramed, IsKept, is_steady}
use Rattle.cpu_state.proofs.Readback.{bytes_of_length}

module _ (set : ℕ → Bool) (m m' : Bytes) (e : without set m ≡ without set m') where
  -- in a span outside the set the first byte that lacks a permission is the same in both memories
  pub lacking_in_frame : (p : ℕ) (s : Option Span) → avoids_span set s ≡ true → lacking_in p m s ≡ lacking_in p m' s
  lacking_in_frame p None h = refl
  lacking_in_frame p (Some s) h = lacking_frame set m m' p s.addr s.size e h

  -- a span outside the set holds the same number in both memories
  pub number_in_frame : (s : Option Span) → avoids_span set s ≡ true → number_in m s ≡ number_in m' s
  number_in_frame None h = refl
  number_in_frame (Some s) h = number_frame set m m' s.addr s.size e h

  -- of writes outside the set the first byte that can't be written is the same in both memories
  pub lacking_writes_frame : (ws : List MemWrite) → avoids_writes set ws ≡ true → lacking_writes m ws ≡ lacking_writes m' ws
  lacking_writes_frame [] h = refl
  lacking_writes_frame (w ∷ ws) h =
      let q = and_parts (avoids set w.addr (length w.bytes)) (avoids_writes set ws) h in
      ap₂ or_first (lacking_frame set m m' 2 w.addr (length w.bytes) e q.0) (lacking_writes_frame ws q.1)

  -- an operation that reads and writes outside the set has the same plan in both memories
  pub effect_frame : (a : Question) (f : Effect) (entry : Option Entry) → avoids_effect set f ≡ true → by_effect a f m entry ≡ by_effect a f m' entry
  effect_frame a f entry h =
      let q = and_parts (avoids_span set f.read) (avoids_span set f.write) h in
      let r = lacking_in_frame 4 f.read q.0 in let w = lacking_in_frame 2 f.write q.1 in let v = number_in_frame f.read q.0 in
      λ i. unless (r i) (unless (w i) (exactly a (writes_in f.write (f.out (v i)).value) entry (f.out (v i))))

  -- an instruction that avoids the set has the same plan in both memories
  pub plan_frame : (i : Insn) (a : Question) (next : ℕ) (c : Core) (entry : Option Entry) → avoids_insn set i next c entry ≡ true → plan i a next c m entry ≡ plan i a next c m' entry
  plan_frame (Exact op) a next c entry h = effect_frame a (effect op next c) entry h
  plan_frame (Asked form) a next c None h = refl
  plan_frame (Asked form) a next c (Some f) h =
      ap (λ z. cond (same_question a f.question) (unless z (Ok (record { core = after_answer form.syscall next f.answer c; target = None; writes = f.answer.writes; used = true }))) (Err Differs)) (lacking_writes_frame f.answer.writes h)
  plan_frame Ending a next c entry h = refl

-- memories that are equal outside a set are so after the same writes
pub put_all_frame : (set : ℕ → Bool) (m m' : Bytes) (ws : List MemWrite) → without set m ≡ without set m' → without set (put_all m ws) ≡ without set (put_all m' ws)
put_all_frame set m m' [] e = e
put_all_frame set m m' (w ∷ ws) e = put_all_frame set (put_list m w.addr w.bytes) (put_list m' w.addr w.bytes) ws (put_list_frame set m m' w.addr w.bytes e)

-- writes that avoid a set keep each byte of it
pub put_all_keeps : (set : ℕ → Bool) (m : Bytes) (ws : List MemWrite) (x : ℕ) → avoids_writes set ws ≡ true → set x ≡ true → put_all m ws x ≡ m x
put_all_keeps set m [] x h k = refl
put_all_keeps set m (w ∷ ws) x h k =
    let q = and_parts (avoids set w.addr (length w.bytes)) (avoids_writes set ws) h in
    put_all_keeps set (put_list m w.addr w.bytes) ws x q.1 k ∙ put_list_keeps set m w.addr w.bytes x q.0 k

-- states with equal views have one world
pub world_same : (set : ℕ → Bool) (s u : Machine) → SameView set s u → s.world ≡ u.world
world_same set s u e = ap (λ (z : Machine). z.world) e

-- states with equal views hold the same bytes outside the set
pub bytes_same : (set : ℕ → Bool) (s u : Machine) → SameView set s u → without set s.mem ≡ without set u.mem
bytes_same set s u e = ap (λ (z : Machine). z.mem) e

-- an instruction that leaves the set alone has one plan in states with equal views
pub same_plan : (set : ℕ → Bool) (t : Task) (next : ℕ) (s u : Machine) → SameView set s u → leaves set t next s ≡ true → plan t.insn t.asks next s.core s.mem (first s.world) ≡ plan t.insn t.asks next u.core u.mem (first u.world)
same_plan set t next s u e h =
    plan_frame set s.mem u.mem (bytes_same set s u e) t.insn t.asks next s.core (first s.world) h
    ∙ ap (λ (z : Machine). plan t.insn t.asks next z.core u.mem (first z.world)) e

-- one plan, carried out in states with equal views, leads to states with equal views
pub carried_frame : (set : ℕ → Bool) (rip next next' : ℕ) (s u : Machine) (p : Plan) → SameView set s u → standing_at rip (view set (carried next s.mem s.world p)) ≡ standing_at rip (view set (carried next' u.mem u.world p))
carried_frame set rip next next' s u p e =
    let w = world_same set s u e in let m = put_all_frame set s.mem u.mem p.writes (bytes_same set s u e) in
    λ i. record { core = p.core; rip = rip; mem = m i; world = cond p.used (rest (w i)) (w i) }

-- one plan, or one reason for none, leads from states with equal views to equal views
pub carry_frame : (set : ℕ → Bool) (next : ℕ) (s u : Machine) (r : Result Plan Halt) → SameView set s u → viewed set (carry next s.mem s.world r) ≡ viewed set (carry next u.mem u.world r)
carry_frame set next s u (Ok p) e = ap Ok (carried_frame set (unwrap_or p.target next) next next s u p e)
carry_frame set next s u (Err h) e = refl

-- an instruction that leaves a set alone does the same in each state that differs in the set alone
pub frame : IsFramed
frame set t next s u e h =
    carry_frame set next s u (plan t.insn t.asks next s.core s.mem (first s.world)) e
    ∙ ap (λ r. viewed set (carry next u.mem u.world r)) (same_plan set t next s u e h)

-- where the test for a lacking byte lets a plan through, it is the plan behind the test
pub unless_ok : (o : Option ℕ) (r : Result Plan Halt) (p : Plan) → unless o r ≡ Ok p → r ≡ Ok p
unless_ok None r p e = e
unless_ok (Some a) r p e = absurd cc

-- the write into a span that avoids a set avoids the set
pub writes_in_avoid : (set : ℕ → Bool) (s : Option Span) (v : ℕ) → avoids_span set s ≡ true → avoids_writes set (writes_in s v) ≡ true
writes_in_avoid set None v h = refl
writes_in_avoid set (Some s) v h = ap (λ n. avoids set s.addr n && true) (bytes_of_length s.size v) ∙ ap (λ b. b && true) h

-- a plan that is made by asking is made from the answer of the world's next entry
pub ask_ok : (a : Question) (entry : Option Entry) (go : Answer → Result Plan Halt) (p : Plan) → ask a entry go ≡ Ok p → (e : Entry) × (entry ≡ Some e) × (go e.answer ≡ Ok p)
ask_ok a None go p h = absurd cc
ask_ok a (Some e) go p h = found (same_question a e.question) h
  where
    found : (b : Bool) → cond b (go e.answer) (Err Differs) ≡ Ok p → (f : Entry) × (Some e ≡ Some f) × (go f.answer ≡ Ok p)
    found true k = (e, refl, k)
    found false k = absurd cc

-- plans that are equal as results are equal
pub same_Ok : (p q : Plan) → ◌≡◌ {A = Result Plan Halt} (Ok p) (Ok q) → p ≡ q
same_Ok p q e = cc

-- the plan of an exact instruction makes the writes that are handed to it
pub exact_writes : (a : Question) (ws : List MemWrite) (o : Out) (entry : Option Entry) (p : Plan) → exactly a ws entry o ≡ Ok p → p.writes ≡ ws
exact_writes a ws o entry p h = by_test (o.undefined == 0) h
  where
    by_test : (b : Bool) → cond b (Ok (planned o.core o ws false)) (ask a entry (λ z. Ok (planned (completed o.undefined o.core z) o ws true))) ≡ Ok p → p.writes ≡ ws
    by_test true k = sym (ap (λ (z : Plan). z.writes) (same_Ok _ p k))
    by_test false k = let q = ask_ok a entry _ p k in sym (ap (λ (z : Plan). z.writes) (same_Ok _ p q.2))

-- the plan of an instruction that avoids a set writes nothing into it
pub plan_avoids : (set : ℕ → Bool) (i : Insn) (a : Question) (next : ℕ) (c : Core) (m : Bytes) (entry : Option Entry) (p : Plan) → avoids_insn set i next c entry ≡ true → plan i a next c m entry ≡ Ok p → avoids_writes set p.writes ≡ true
plan_avoids set (Exact op) a next c m entry p h k =
    let e = effect op next c in
    let q = and_parts (avoids_span set e.read) (avoids_span set e.write) h in
    let k1 = unless_ok (lacking_in 4 m e.read) _ p k in
    let k2 = unless_ok (lacking_in 2 m e.write) _ p k1 in
    let o = e.out (number_in m e.read) in
    let w = exact_writes a (writes_in e.write o.value) o entry p k2 in
    ap (avoids_writes set) w ∙ writes_in_avoid set e.write o.value q.1
plan_avoids set (Asked form) a next c m entry p h k =
    let q = ask_ok a entry (by_answer form.syscall next c m) p k in
    let r = unless_ok (lacking_writes m q.0.answer.writes) _ p q.2 in
    ap (avoids_writes set) (sym (ap (λ (z : Plan). z.writes) (same_Ok _ p r))) ∙ ap (avoids_answer set) (sym q.1) ∙ h
plan_avoids set Ending a next c m entry p h k = absurd cc

-- where an instruction acts, it has a plan, and the state after it is the plan carried out
pub carry_ok : (next : ℕ) (m : Bytes) (world : List Entry) (r : Result Plan Halt) (s' : Machine) → carry next m world r ≡ Ok s' → (p : Plan) × (r ≡ Ok p) × (s' ≡ carried next m world p)
carry_ok next m world (Ok p) s' e = let e' : carried next m world p ≡ s' = cc in (p, refl, sym e')
carry_ok next m world (Err h) s' e = absurd cc

-- an instruction that leaves a set alone changes no byte of it
pub keep : IsKept
keep set t next s s' h e =
    let q = carry_ok next s.mem s.world _ s' e in
    λ x k. ap (λ (z : Machine). z.mem x) q.2 ∙ put_all_keeps set s.mem q.0.writes x (plan_avoids set t.insn t.asks next s.core s.mem (first s.world) q.0 h q.1) k

-- an instruction that doesn't name the address after it
pub steady_plan : (i : Insn) (a : Question) (next next' : ℕ) (c : Core) (m : Bytes) (entry : Option Entry) → is_steady i ≡ true → plan i a next c m entry ≡ plan i a next' c m entry
unfolding effect
steady_plan (Exact (Call target)) a next next' c m entry h = absurd (true≢false (sym h))
steady_plan (Exact op) a next next' c m entry h = refl
steady_plan (Asked form) a next next' c m entry h = by_syscall form.syscall h
  where
    by_syscall : (b : Bool) → not b ≡ true → ask a entry (by_answer b next c m) ≡ ask a entry (by_answer b next' c m)
    by_syscall false k = refl
    by_syscall true k = absurd (true≢false (sym k))
steady_plan Ending a next next' c m entry h = refl

-- what an instruction avoids, it avoids wherever it stands
pub steady_leaves : (set : ℕ → Bool) (i : Insn) (next next' : ℕ) (c : Core) (entry : Option Entry) → avoids_insn set i next c entry ≡ true → avoids_insn set i next' c entry ≡ true
unfolding effect
steady_leaves set (Exact Leave) next next' c entry h = h
steady_leaves set i next next' c entry h = h
