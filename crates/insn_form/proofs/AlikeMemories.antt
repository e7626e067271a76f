-- The same instruction over two memories that are alike.
use Rattle.std.proofs.Common.{◌≡◌, ◌⊎◌, inl, inr, ℕ, zero, suc, ◌+◌, ◌*◌, Bool, true, false, not, ◌&&◌, cond, ◌==◌, eqb, List, [], ◌∷◌, length, Option, Some, None, Result, Ok, Err, refl, sym, ap, ap₂, ◌∙◌, subst, true≢false}
use Rattle.std.specs.Prelude.{bit_and}
use Rattle.std.specs.Option.{option_map}
use Rattle.std.proofs.lemmas.Bool.{and_parts, eq-eqb, not-true}
use Rattle.pun_base.specs.Memory.{Cell, Bytes}
use Rattle.length_decode.specs.Spelling.{Fields}
use Rattle.cpu_state.specs.declared.state.Core.{Core}
use Rattle.cpu_state.specs.declared.world.Question.{Question}
use Rattle.cpu_state.specs.declared.world.Answer.{Answer}
use Rattle.cpu_state.specs.declared.world.Entry.{Entry}
use Rattle.cpu_state.specs.declared.world.MemWrite.{MemWrite}
use Rattle.cpu_state.specs.Bytes.{advanced, allows, byte_of, with_byte, lacking, number_at, put, put_list, bytes_of, avoids}
use Rattle.cpu_state.proofs.Readback.{bytes_of_length}
use Rattle.insn_form.specs.declared.effect.Span.{Span}
use Rattle.insn_form.specs.declared.form.AskedForm.{AskedForm}
use Rattle.insn_form.specs.declared.form.Insn.{Insn}
use Rattle.insn_form.specs.declared.form.Insn.TheVariants.{Exact, Asked, Ending}
use Rattle.insn_form.specs.declared.form.Op.{Op}
use Rattle.insn_form.specs.declared.form.Op.TheVariants.{Leave}
use Rattle.insn_form.specs.Operands.{with_reg, rcx}
use Rattle.insn_form.specs.Effect.{Effect}
use Rattle.insn_form.specs.Meaning.{effect}
use Rattle.insn_form.specs.Plan.{Plan, Halt, Differs, lacking_in, number_in, writes_in, unless, or_first, lacking_writes, same_question, ask, exactly, by_effect, answered_core, after_answer, by_answer, plan}
use Rattle.insn_form.specs.Machine.{Machine, Task, first, rest, put_all, carried, carry, act, avoids_span, avoids_writes, avoids_effect, avoids_answer, avoids_insn, leaves}
use Rattle.insn_form.specs.Step.{IsAt, StepsAs, next_after}
use Rattle.insn_form.specs.Runs.{nowhere}
use Rattle.insn_form.specs.Laws.{is_steady}
use Rattle.insn_form.specs.Touched.{reads_avoid, writes_avoid, reads_none, writes_none, perms_at}
use Rattle.insn_form.specs.Again.{syscall_task}
use Rattle.insn_form.specs.Alike.{AreAlike, writes_at, still, IsAlike, GoesAlike, IsAlikeAct, GoesAlikeBehind, IsAlikeSyscall, IsAlikeStep, IsUnwrittenAt, ReadsAnywhere, WritesAnywhere}
use Rattle.insn_form.proofs.FrameRule.{unless_ok, ask_ok, same_Ok, carry_ok, exact_writes, steady_plan}
use Rattle.insn_form.proofs.TouchedMemory.{put_perms, put_list_perms, put_all_perms, unwritten, leaves_nowhere}
use Rattle.insn_form.proofs.RepeatedSteps.{plan_target, set_again}

-- equal permissions allow the same
pub same_allows : (p : ℕ) (o q : Option Cell) → option_map (λ (c : Cell). c.perms) o ≡ option_map (λ (c : Cell). c.perms) q → allows p o ≡ allows p q
same_allows p None None e = refl
same_allows p None (Some d) e = absurd cc
same_allows p (Some c) None e = absurd cc
same_allows p (Some c) (Some d) e = let f : c.perms ≡ d.perms = cc in ap (λ z. not (eqb (bit_and z p) 0)) f

-- and with the same byte are the same
same_with : (b : ℕ) (o q : Option Cell) → option_map (λ (c : Cell). c.perms) o ≡ option_map (λ (c : Cell). c.perms) q → with_byte b o ≡ with_byte b q
same_with b None None e = refl
same_with b None (Some d) e = absurd cc
same_with b (Some c) None e = absurd cc
same_with b (Some c) (Some d) e = let f : c.perms ≡ d.perms = cc in ap (λ z. Some (record { byte = b; perms = z })) f

-- the plan over memories that are alike
module _ (hidden stale : ℕ → Bool) (m w : Bytes) (e : AreAlike hidden stale m w) where
  lacking_alike : (p a n : ℕ) → avoids hidden a n ≡ true → lacking p m a n ≡ lacking p w a n
  lacking_alike p a zero h = refl
  lacking_alike p a (suc n) h =
      let r = and_parts (not (hidden a)) (avoids hidden (advanced a 1) n) h in
      let q = same_allows p (m a) (w a) (e.perms a (not-true (hidden a) r.0)) in
      let k = lacking_alike p (advanced a 1) n r.1 in
      λ i. cond (q i) (k i) (Some a)

  number_alike : (a n : ℕ) → avoids hidden a n ≡ true → avoids stale a n ≡ true → number_at m a n ≡ number_at w a n
  number_alike a zero h k = refl
  number_alike a (suc n) h k =
      let r = and_parts (not (hidden a)) (avoids hidden (advanced a 1) n) h in
      let t = and_parts (not (stale a)) (avoids stale (advanced a 1) n) k in
      ap₂ (λ x y. byte_of x + 256 * y) (e.bytes a (not-true (hidden a) r.0) (not-true (stale a) t.0)) (number_alike (advanced a 1) n r.1 t.1)

  -- in a span without hidden bytes the first byte that lacks a permission is the same in both memories
  pub lacking_in_alike : (p : ℕ) (s : Option Span) → avoids_span hidden s ≡ true → lacking_in p m s ≡ lacking_in p w s
  lacking_in_alike p None h = refl
  lacking_in_alike p (Some s) h = lacking_alike p s.addr s.size h

  -- a span without hidden and stale bytes holds the same number in both memories
  pub number_in_alike : (s : Option Span) → avoids_span hidden s ≡ true → avoids_span stale s ≡ true → number_in m s ≡ number_in w s
  number_in_alike None h k = refl
  number_in_alike (Some s) h k = number_alike s.addr s.size h k

  lacking_writes_alike : (ws : List MemWrite) → avoids_writes hidden ws ≡ true → lacking_writes m ws ≡ lacking_writes w ws
  lacking_writes_alike [] h = refl
  lacking_writes_alike (v ∷ ws) h =
      let q = and_parts (avoids hidden v.addr (length v.bytes)) (avoids_writes hidden ws) h in
      ap₂ or_first (lacking_alike 2 v.addr (length v.bytes) q.0) (lacking_writes_alike ws q.1)

  effect_alike : (a : Question) (f : Effect) (entry : Option Entry) → avoids_effect hidden f ≡ true → avoids_span stale f.read ≡ true → by_effect a f m entry ≡ by_effect a f w entry
  effect_alike a f entry h k =
      let q = and_parts (avoids_span hidden f.read) (avoids_span hidden f.write) h in
      let r = lacking_in_alike 4 f.read q.0 in let l = lacking_in_alike 2 f.write q.1 in let v = number_in_alike f.read q.0 k in
      λ i. unless (r i) (unless (l i) (exactly a (writes_in f.write (f.out (v i)).value) entry (f.out (v i))))

  plan_alike : (i : Insn) (a : Question) (next : ℕ) (c : Core) (entry : Option Entry) → avoids_insn hidden i next c entry ≡ true → reads_avoid stale i next c ≡ true → plan i a next c m entry ≡ plan i a next c w entry
  plan_alike (Exact op) a next c entry h k = effect_alike a (effect op next c) entry h k
  plan_alike (Asked form) a next c None h k = refl
  plan_alike (Asked form) a next c (Some f) h k =
      ap (λ z. cond (same_question a f.question) (unless z (Ok (record { core = after_answer form.syscall next f.answer c; target = None; writes = f.answer.writes; used = true }))) (Err Differs)) (lacking_writes_alike f.answer.writes h)
  plan_alike Ending a next c entry h k = refl

-- writes into memories that are alike: where a byte was the same, or is written, it is the same afterwards
put_list_alike : (m w : Bytes) (a : ℕ) (bs : List ℕ) (x : ℕ) → perms_at m x ≡ perms_at w x → (m x ≡ w x) ⊎ (avoids (λ y. x == y) a (length bs) ≡ false) → put_list m a bs x ≡ put_list w a bs x
put_list_alike m w a [] x p (inl e) = e
put_list_alike m w a [] x p (inr k) = absurd (true≢false k)
put_list_alike m w a (b ∷ bs) x p h = put_list_alike (put m a b) (put w a b) (advanced a 1) bs x (put_perms (eqb x a) b (m x) ∙ p ∙ sym (put_perms (eqb x a) b (w x))) (after (eqb x a) h)
  where
    after : (t : Bool) → (m x ≡ w x) ⊎ ((not t && avoids (λ y. x == y) (advanced a 1) (length bs)) ≡ false)
        → (cond t (with_byte b (m x)) (m x) ≡ cond t (with_byte b (w x)) (w x)) ⊎ (avoids (λ y. x == y) (advanced a 1) (length bs) ≡ false)
    after true k = inl (same_with b (m x) (w x) p)
    after false (inl k) = inl k
    after false (inr k) = inr k

-- after the same writes a byte of equal permissions is the same in both memories, if it was before or is written
pub put_all_alike : (m w : Bytes) (ws : List MemWrite) (x : ℕ) → perms_at m x ≡ perms_at w x → (m x ≡ w x) ⊎ (avoids_writes (λ y. x == y) ws ≡ false) → put_all m ws x ≡ put_all w ws x
put_all_alike m w [] x p (inl e) = e
put_all_alike m w [] x p (inr k) = absurd (true≢false k)
put_all_alike m w (v ∷ ws) x p h =
    put_all_alike (put_list m v.addr v.bytes) (put_list w v.addr v.bytes) ws x (put_list_perms m v.addr v.bytes x ∙ p ∙ sym (put_list_perms w v.addr v.bytes x))
    (after (avoids (λ y. x == y) v.addr (length v.bytes)) refl h)
  where
    after : (t : Bool) → avoids (λ y. x == y) v.addr (length v.bytes) ≡ t → (m x ≡ w x) ⊎ ((t && avoids_writes (λ y. x == y) ws) ≡ false)
        → (put_list m v.addr v.bytes x ≡ put_list w v.addr v.bytes x) ⊎ (avoids_writes (λ y. x == y) ws ≡ false)
    after t q (inl k) = inl (put_list_alike m w v.addr v.bytes x p (inl k))
    after true q (inr k) = inr k
    after false q (inr k) = inl (put_list_alike m w v.addr v.bytes x p (inr q))

-- the write into a span avoids a set exactly where the span does
pub writes_in_same : (set' : ℕ → Bool) (s : Option Span) (v : ℕ) → avoids_writes set' (writes_in s v) ≡ avoids_span set' s
writes_in_same set' None v = refl
writes_in_same set' (Some s) v = and_true (avoids set' s.addr (length (bytes_of s.size v))) ∙ ap (avoids set' s.addr) (bytes_of_length s.size v)
  where
    and_true : (b : Bool) → (b && true) ≡ b
    and_true true = refl
    and_true false = refl

plan_writes_same : (set' : ℕ → Bool) (i : Insn) (a : Question) (next : ℕ) (c : Core) (m : Bytes) (entry : Option Entry) (p : Plan) → plan i a next c m entry ≡ Ok p → avoids_writes set' p.writes ≡ writes_avoid set' i next c entry
plan_writes_same set' (Exact op) a next c m entry p k =
    let e = effect op next c in
    let k1 = unless_ok (lacking_in 4 m e.read) _ p k in
    let k2 = unless_ok (lacking_in 2 m e.write) _ p k1 in
    let o = e.out (number_in m e.read) in
    ap (avoids_writes set') (exact_writes a (writes_in e.write o.value) o entry p k2) ∙ writes_in_same set' e.write o.value
plan_writes_same set' (Asked form) a next c m entry p k =
    let q = ask_ok a entry (by_answer form.syscall next c m) p k in
    let r = unless_ok (lacking_writes m q.0.answer.writes) _ p q.2 in
    ap (avoids_writes set') (sym (ap (λ (z : Plan). z.writes) (same_Ok _ p r))) ∙ ap (avoids_answer set') (sym q.1)
plan_writes_same set' Ending a next c m entry p k = absurd cc

-- what is written is stale no more
pub carried_alike : (hidden stale written : ℕ → Bool) (m w : Bytes) (ws : List MemWrite) → AreAlike hidden stale m w → ((x : ℕ) → written x ≡ not (avoids_writes (λ y. x == y) ws)) → AreAlike hidden (still stale written) (put_all m ws) (put_all w ws)
carried_alike hidden stale written m w ws e n = record {
  bytes = λ x h k. put_all_alike m w ws x (e.perms x h) (by_stale x h (stale x) (written x) refl (n x) k);
  perms = λ x h. put_all_perms m ws x ∙ e.perms x h ∙ sym (put_all_perms w ws x);
}
  where
    turned : (b : Bool) → true ≡ not b → b ≡ false
    turned true h = absurd (true≢false h)
    turned false h = refl

    by_stale : (x : ℕ) → hidden x ≡ false → (b c : Bool) → stale x ≡ b → c ≡ not (avoids_writes (λ y. x == y) ws) → (b && not c) ≡ false → (m x ≡ w x) ⊎ (avoids_writes (λ y. x == y) ws ≡ false)
    by_stale x h false c q d k = inl (e.bytes x h q)
    by_stale x h true true q d k = inr (turned (avoids_writes (λ y. x == y) ws) d)
    by_stale x h true false q d k = absurd (true≢false k)

module _ (hidden stale : ℕ → Bool) (t : Task) (next next' : ℕ) (s u : Machine) (place : (next ≡ next') ⊎ (is_steady t.insn ≡ true)) (e : IsAlike hidden stale s u)
    (h : leaves hidden t next s ≡ true) (r : reads_none stale t next s ≡ true) where
  anywhere : (next ≡ next') ⊎ (is_steady t.insn ≡ true) → plan t.insn t.asks next u.core u.mem (first u.world) ≡ plan t.insn t.asks next' u.core u.mem (first u.world)
  anywhere (inl k) = ap (λ n. plan t.insn t.asks n u.core u.mem (first u.world)) k
  anywhere (inr k) = steady_plan t.insn t.asks next next' u.core u.mem (first u.world) k

  -- both plan the same
  same : plan t.insn t.asks next s.core s.mem (first s.world) ≡ plan t.insn t.asks next' u.core u.mem (first u.world)
  same = plan_alike hidden stale s.mem u.mem e.mem t.insn t.asks next s.core (first s.world) h r ∙ (λ i. plan t.insn t.asks next (e.core i) u.mem (first (e.world i))) ∙ anywhere place

  goes : (p : Plan) → plan t.insn t.asks next s.core s.mem (first s.world) ≡ Ok p → GoesAlike hidden (still stale (writes_at t next s)) t.insn next next' (carried next s.mem s.world p) (carried next' u.mem u.world p)
  goes p k = record {
    alike = record {
      core = refl;
      world = λ i. cond p.used (rest (e.world i)) (e.world i);
      mem = carried_alike hidden stale (writes_at t next s) s.mem u.mem p.writes e.mem (λ x. ap not (sym (plan_writes_same (λ y. x == y) t.insn t.asks next s.core s.mem (first s.world) p k)));
    };
    target = p.target;
    own = refl;
    other = refl;
    gone = plan_target t.insn t.asks next s.core s.mem (first s.world) p k;
  }

  forth : (s' : Machine) → act t next s ≡ Ok s' → (u' : Machine) × (act t next' u ≡ Ok u') × GoesAlike hidden (still stale (writes_at t next s)) t.insn next next' s' u'
  forth s' k =
      let q = carry_ok next s.mem s.world _ s' k in
      (carried next' u.mem u.world q.0, ap (carry next' u.mem u.world) (sym same ∙ q.1), subst (λ z. GoesAlike hidden (still stale (writes_at t next s)) t.insn next next' z (carried next' u.mem u.world q.0)) (sym q.2) (goes q.0 q.1))

  back : (u' : Machine) → act t next' u ≡ Ok u' → (s' : Machine) × (act t next s ≡ Ok s') × GoesAlike hidden (still stale (writes_at t next s)) t.insn next next' s' u'
  back u' k =
      let q = carry_ok next' u.mem u.world _ u' k in
      let p = same ∙ q.1 in
      (carried next s.mem s.world q.0, ap (carry next s.mem s.world) p, subst (λ z. GoesAlike hidden (still stale (writes_at t next s)) t.insn next next' (carried next s.mem s.world q.0) z) (sym q.2) (goes q.0 p))

  halts : (b : Halt) → act t next s ≡ Err b → act t next' u ≡ Err b
  halts b k = ap (carry next' u.mem u.world) (sym same ∙ carry_err (plan t.insn t.asks next s.core s.mem (first s.world)) k)
    where
      carry_err : (z : Result Plan Halt) → carry next s.mem s.world z ≡ Err b → z ≡ Err b
      carry_err (Ok p) i = absurd cc
      carry_err (Err c) i = cc

-- an instruction that reads no stale byte acts alike over memories that are alike, or acts in neither for one reason
pub alike_act : IsAlikeAct
alike_act hidden stale t next next' s u place e h r = (forth hidden stale t next next' s u place e h r, back hidden stale t next next' s u place e h r, halts hidden stale t next next' s u place e h r)

-- the plan of SYSCALL: rcx has the next address, and the answer's writes are made
pub rcx_made : ℕ → Core → List MemWrite → Plan
rcx_made next z ws = record { core = with_reg z rcx next; target = None; writes = ws; used = true }

answer_behind : (a : Answer) (next : ℕ) (c : Core) (m : Bytes) (p : Plan) → by_answer true next c m a ≡ Ok p → (p ≡ rcx_made next (answered_core a c) a.writes) × (lacking_writes m a.writes ≡ None)
unfolding rcx_made
answer_behind a next c m p h = by_lack (lacking_writes m a.writes) h
  where
    by_lack : (o : Option ℕ) → unless o (Ok (rcx_made next (answered_core a c) a.writes)) ≡ Ok p → (p ≡ rcx_made next (answered_core a c) a.writes) × (o ≡ None)
    by_lack None k = (sym (same_Ok _ p k), refl)
    by_lack (Some x) k = absurd cc

syscall_plans : (b : Bool) (q : Question) (next next' : ℕ) (c : Core) (m : Bytes) (entry : Option Entry) (p : Plan) → b ≡ true → ask q entry (by_answer b next c m) ≡ Ok p
    → (z : Core) × (p ≡ rcx_made next z p.writes) × (ask q entry (by_answer b next' c m) ≡ Ok (rcx_made next' z p.writes))
unfolding rcx_made
syscall_plans true q next next' c m None p b h = absurd cc
syscall_plans true q next next' c m (Some e) p b h = by_question (same_question q e.question) h
  where
    by_question : (t : Bool) → cond t (by_answer true next c m e.answer) (Err Differs) ≡ Ok p
        → (z : Core) × (p ≡ rcx_made next z p.writes) × (cond t (by_answer true next' c m e.answer) (Err Differs) ≡ Ok (rcx_made next' z p.writes))
    by_question true k =
        let r = answer_behind e.answer next c m p k in
        let z = answered_core e.answer c in
        let ws : e.answer.writes ≡ p.writes = sym (ap (λ (y : Plan). y.writes) r.0) in
        (z, r.0 ∙ ap (rcx_made next z) ws, ap (λ o. unless o (Ok (rcx_made next' z e.answer.writes))) r.1 ∙ ap (λ y. Ok (rcx_made next' z y)) ws)
    by_question false k = absurd cc
syscall_plans false q next next' c m entry p b h = absurd (true≢false (sym b))

twice : (c : Core) (a b : ℕ) → with_reg (with_reg c rcx a) rcx b ≡ with_reg c rcx b
twice c a b = let e = set_again c.regs rcx a b in λ j. record { regs = e j; flags = c.flags; fs = c.fs; gs = c.gs }

module _ (hidden stale : ℕ → Bool) (form : AskedForm) (asks : Question) (next next' : ℕ) (s u : Machine) (y : form.syscall ≡ true) (e : IsAlike hidden stale s u)
    (h : leaves hidden (syscall_task form asks) next s ≡ true) where
  abbrev t : Task
  t = syscall_task form asks

  -- at one place both plan the same
  one_place : plan t.insn t.asks next s.core s.mem (first s.world) ≡ plan t.insn t.asks next u.core u.mem (first u.world)
  one_place = same hidden stale t next next s u (inl refl) e h refl

  behind : (z : Core) (ws : List MemWrite) → plan t.insn t.asks next s.core s.mem (first s.world) ≡ Ok (rcx_made next z ws)
      → GoesAlikeBehind hidden (still stale (writes_at t next s)) next next' (carried next s.mem s.world (rcx_made next z ws)) (carried next' u.mem u.world (rcx_made next' z ws))
  unfolding rcx_made
  behind z ws k = record {
    alike = record {
      core = sym (twice z next' next);
      world = ap rest e.world;
      mem = carried_alike hidden stale (writes_at t next s) s.mem u.mem ws e.mem (λ x. ap not (sym (plan_writes_same (λ a. x == a) t.insn t.asks next s.core s.mem (first s.world) (rcx_made next z ws) k)));
    };
    own = refl;
    other = refl;
  }

  syscall_forth : (s' : Machine) → act t next s ≡ Ok s' → (u' : Machine) × (act t next' u ≡ Ok u') × GoesAlikeBehind hidden (still stale (writes_at t next s)) next next' s' u'
  syscall_forth s' k =
      let q = carry_ok next s.mem s.world _ s' k in
      let r = syscall_plans form.syscall asks next next' u.core u.mem (first u.world) q.0 y (sym one_place ∙ q.1) in (
        carried next' u.mem u.world (rcx_made next' r.0 q.0.writes),
        ap (carry next' u.mem u.world) r.2,
        subst (λ z. GoesAlikeBehind hidden (still stale (writes_at t next s)) next next' z (carried next' u.mem u.world (rcx_made next' r.0 q.0.writes)))
            (sym (q.2 ∙ ap (carried next s.mem s.world) r.1)) (behind r.0 q.0.writes (q.1 ∙ ap Ok r.1)),
      )

  syscall_back : (u' : Machine) → act t next' u ≡ Ok u' → (s' : Machine) × (act t next s ≡ Ok s') × GoesAlikeBehind hidden (still stale (writes_at t next s)) next next' s' u'
  syscall_back u' k =
      let q = carry_ok next' u.mem u.world _ u' k in
      let r = syscall_plans form.syscall asks next' next u.core u.mem (first u.world) q.0 y q.1 in
      let p = one_place ∙ r.2 in (
        carried next s.mem s.world (rcx_made next r.0 q.0.writes),
        ap (carry next s.mem s.world) p,
        subst (λ z. GoesAlikeBehind hidden (still stale (writes_at t next s)) next next' (carried next s.mem s.world (rcx_made next r.0 q.0.writes)) z)
            (sym (q.2 ∙ ap (carried next' u.mem u.world) r.1)) (behind r.0 q.0.writes p),
      )

-- SYSCALL acts alike over memories that are alike, but that rcx gets the address after its own place
pub alike_syscall : IsAlikeSyscall
alike_syscall hidden stale form asks next next' s u y e h = (syscall_forth hidden stale form asks next next' s u y e h, syscall_back hidden stale form asks next next' s u y e h)

-- a step that acts is a step, whatever it touches
made : (tasks : Fields → ℕ → Task) (f : Fields) (s t : Machine) → IsAt s f → act (tasks f (next_after s.rip f)) (next_after s.rip f) s ≡ Ok t → StepsAs tasks nowhere f s t
made tasks f s t at e = record { at = at; apart = leaves_nowhere (tasks f (next_after s.rip f)) (next_after s.rip f) s; acts = e }

-- where one of two states that are alike and stand at one place has a step, the other has it too
pub alike_step : IsAlikeStep
alike_step tasks hidden stale f s u e rip here there h r =
    let next = next_after s.rip f in
    let n : next ≡ next_after u.rip f = ap (λ a. next_after a f) rip in
    let all = alike_act hidden stale (tasks f next) next next s u (inl refl) e h r in (
      λ s' st. (let q = all.0 s' st.acts in (
        q.0,
        record { own = st; other = made tasks f u q.0 there (subst (λ a. act (tasks f a) a u ≡ Ok q.0) n q.1); alike = q.2.alike; rip = q.2.own ∙ sym q.2.other },
      )),
      λ u' st. (let q = all.1 u' (subst (λ a. act (tasks f a) a u ≡ Ok u') (sym n) st.acts) in (
        q.0,
        record { own = made tasks f s q.0 here q.1; other = st; alike = q.2.alike; rip = q.2.own ∙ sym q.2.other },
      )),
    )

-- a byte that isn't written stays
pub unwritten_at : IsUnwrittenAt
unwritten_at t next s s' x h k = unwritten (λ a. x == a) t next s s' (untrue (writes_none (λ a. x == a) t next s) h) k x (eq-eqb x x refl)
  where
    untrue : (b : Bool) → not b ≡ false → b ≡ true
    untrue true i = refl
    untrue false i = absurd (true≢false i)

-- the place of an instruction doesn't say what it reads and writes
op_reads : (op : Op) (next next' : ℕ) (c : Core) → (effect op next c).read ≡ (effect op next' c).read
unfolding effect
op_reads Leave next next' c = refl
op_reads op next next' c = refl

op_writes : (op : Op) (next next' : ℕ) (c : Core) → (effect op next c).write ≡ (effect op next' c).write
unfolding effect
op_writes Leave next next' c = refl
op_writes op next next' c = refl

-- what an instruction reads doesn't depend on where it stands
pub reads_anywhere : ReadsAnywhere
reads_anywhere set' t next next' s = by_insn t.insn
  where
    by_insn : (i : Insn) → reads_avoid set' i next s.core ≡ reads_avoid set' i next' s.core
    by_insn (Exact op) = ap (avoids_span set') (op_reads op next next' s.core)
    by_insn (Asked form) = refl
    by_insn Ending = refl

-- nor does what it writes
pub writes_anywhere : WritesAnywhere
writes_anywhere set' t next next' s = by_insn t.insn
  where
    by_insn : (i : Insn) → writes_avoid set' i next s.core (first s.world) ≡ writes_avoid set' i next' s.core (first s.world)
    by_insn (Exact op) = ap (avoids_span set') (op_writes op next next' s.core)
    by_insn (Asked form) = refl
    by_insn Ending = refl
