-- What is told of a step, against the sets that it leaves alone and the entry that it uses.
use Rattle.std.proofs.Common.{◌≡◌, ℕ, Bool, true, false, ◌&&◌, ◌||◌, not, ◌==◌, cond, List, [], ◌∷◌, length, Option, Some, None, Result, Ok, Err, refl, sym, ap, ◌∙◌, subst, arith, true≢false}
use Rattle.std.proofs.lemmas.Bool.{eqb-true}
use Rattle.pun_base.specs.Memory.{Bytes}
use Rattle.length_decode.specs.Spelling.{Fields}
use Rattle.cpu_state.specs.declared.state.Core.{Core}
use Rattle.cpu_state.specs.declared.state.State.{State}
use Rattle.cpu_state.specs.declared.world.Question.{Question}
use Rattle.cpu_state.specs.declared.world.Entry.{Entry}
use Rattle.cpu_state.specs.declared.world.MemWrite.{MemWrite}
use Rattle.cpu_state.specs.Bytes.{avoids}
use Rattle.cpu_state.specs.Regions.{cell_at}
use Rattle.cpu_state.specs.Parts.{core_of}
use Rattle.insn_form.specs.declared.effect.Span.{Span}
use Rattle.insn_form.specs.declared.effect.Out.{Out}
use Rattle.insn_form.specs.declared.form.Insn.{Insn}
use Rattle.insn_form.specs.declared.form.Insn.TheVariants.{Exact, Asked, Ending}
use Rattle.insn_form.specs.Meaning.{effect}
use Rattle.insn_form.specs.Plan.{Plan, Halt, Empty, lacking_in, number_in, writes_in, lacking_writes, planned, by_answer, plan}
use Rattle.insn_form.specs.Machine.{Machine, first, avoids_span, avoids_writes, avoids_answer, avoids_insn, leaves}
use Rattle.insn_form.specs.Step.{IsAt, Step, next_after, task_of}
use Rattle.insn_form.specs.Runs.{nowhere}
use Rattle.insn_form.proofs.FrameRule.{unless_ok, ask_ok, same_Ok}
use Rattle.insn_form.proofs.UniqueSteps.{one_instruction, one_next}
use Rattle.cpu_step.specs.declared.stop.Stop.{Stop}
use Rattle.cpu_step.specs.declared.step_info.StepInfo.{StepInfo}
use Rattle.cpu_step.specs.Stepping.{Taken, has_byte, taken, taken_or_stop, judged, machine_of, world_after}
use Rattle.cpu_step.specs.Steps.{accesses, info_of, told, Moved, avoids_accesses, avoids_told, Touches, Uses}
use Rattle.cpu_step.proofs.JudgedSteps.{judged_there}
use Rattle.cpu_step.proofs.JudgedTasks.{same_info, steps_by}

-- a step that is made has a plan
taken_plan : (rip next : ℕ) (q : Question) (i : Insn) (c : Core) (r : Result Plan Halt) (t : Taken)
    → taken_or_stop rip q i next c r ≡ Ok t → (p : Plan) × (r ≡ Ok p) × (taken i next c p ≡ t)
taken_plan rip next q i c (Ok p) t e = (p, refl, same_taken _ t e)
  where
    same_taken : (x y : Taken) → ◌≡◌ {A = Result Taken Stop} (Ok x) (Ok y) → x ≡ y
    same_taken x y h = cc
taken_plan rip next q i c (Err h) t e = absurd cc

-- a test and nothing more
and_last : (b : Bool) → (b && true) ≡ b
and_last true = refl
and_last false = refl

-- a list of one access at most
accesses_avoid : (set : ℕ → Bool) (s : Option Span) → avoids_accesses set (accesses s) ≡ avoids_span set s
accesses_avoid set None = refl
accesses_avoid set (Some s) = and_last (avoids set s.addr s.size)

-- a write without a byte avoids each set
one_avoids : (set : ℕ → Bool) (a n : ℕ) (more others : Bool) → (more ≡ false → others ≡ true) → (not (n == 0) || more) ≡ false
    → (avoids set a n && others) ≡ true
one_avoids set a n more others f h = by_zero (n == 0) refl h
  where
    by_zero : (b : Bool) → (n == 0) ≡ b → (not b || more) ≡ false → (avoids set a n && others) ≡ true
    by_zero true e k = subst (λ (z : ℕ). (avoids set a z && others) ≡ true) (sym (eqb-true n 0 e)) (f k)
    by_zero false e k = absurd (true≢false k)

none_avoid : (set : ℕ → Bool) (ws : List MemWrite) → has_byte ws ≡ false → avoids_writes set ws ≡ true
none_avoid set [] h = refl
none_avoid set (w ∷ ws) h = one_avoids set w.addr (length w.bytes) (has_byte ws) (avoids_writes set ws) (none_avoid set ws) h

-- so the writes of an answer count where it has a byte to write
answer_avoids : (set : ℕ → Bool) (ws : List MemWrite) → avoids_writes set ws ≡ cond (has_byte ws) (avoids_writes set ws) true
answer_avoids set ws = by_byte (has_byte ws) refl
  where
    by_byte : (b : Bool) → has_byte ws ≡ b → avoids_writes set ws ≡ cond b (avoids_writes set ws) true
    by_byte true e = refl
    by_byte false e = none_avoid set ws e

-- an instruction that has a plan leaves a set alone exactly where the set avoids what is told
plan_told : (set : ℕ → Bool) (i : Insn) (q : Question) (next : ℕ) (c : Core) (m : Bytes) (entry : Option Entry) (p : Plan)
    → plan i q next c m entry ≡ Ok p → avoids_insn set i next c entry ≡ avoids_told set entry (info_of (taken i next c p))
plan_told set (Exact op) q next c m entry p k =
    let e = effect op next c in
    let r = accesses_avoid set e.read in let w = accesses_avoid set e.write in
    sym ((λ j. (r j && w j) && true) ∙ and_last (avoids_span set e.read && avoids_span set e.write))
plan_told set (Asked form) q next c m entry p k =
    let x = ask_ok q entry (by_answer form.syscall next c m) p k in
    let ws = x.0.answer.writes in
    let w : ws ≡ p.writes = ap (λ (z : Plan). z.writes) (same_Ok _ p (unless_ok (lacking_writes m ws) _ p x.2)) in
    let e = sym x.1 in
    ap (avoids_answer set) x.1 ∙ answer_avoids set ws ∙ (λ j. cond (has_byte (w j)) (avoids_answer set (e j)) true)
plan_told set Ending q next c m entry p k = absurd cc

-- where the world has no entry, none is used
plan_unused : (i : Insn) (q : Question) (next : ℕ) (c : Core) (m : Bytes) (p : Plan) → plan i q next c m None ≡ Ok p → p.used ≡ false
plan_unused (Exact op) q next c m p k =
    let e = effect op next c in
    let k1 = unless_ok (lacking_in 4 m e.read) _ p k in
    let k2 = unless_ok (lacking_in 2 m e.write) _ p k1 in
    let o = e.out (number_in m e.read) in
    by_test (writes_in e.write o.value) o (o.undefined == 0) k2
  where
    by_test : (ws : List MemWrite) (o : Out) (b : Bool) → cond b (Ok (planned o.core o ws false)) (Err Empty) ≡ Ok p → p.used ≡ false
    by_test ws o true h = sym (ap (λ (z : Plan). z.used) (same_Ok _ p h))
    by_test ws o false h = absurd cc
plan_unused (Asked form) q next c m p k = absurd cc
plan_unused Ending q next c m p k = absurd cc

-- the instruction of a step that is made, and its plan
made : (next : Option Entry) (old : State) (world : List Entry) (t : Taken) (f : Fields)
    → judged (core_of old) old.rip (cell_at old.mem) next ≡ Ok t → first world ≡ next → IsAt (machine_of old world) f
    → let n = next_after old.rip f in
    (p : Plan) × (plan (task_of f n).insn (task_of f n).asks n (core_of old) (cell_at old.mem) (first world) ≡ Ok p)
    × (taken (task_of f n).insn n (core_of old) p ≡ t)
made next old world t f e w at =
    let s = machine_of old world in
    let n = next_after old.rip f in
    let there = sym (judged_there s f at) ∙ ap (judged s.core s.rip s.mem) w ∙ e in
    taken_plan s.rip n (task_of f n).asks (task_of f n).insn s.core
    (plan (task_of f n).insn (task_of f n).asks n s.core s.mem (first world)) t there

-- what is told of a judged step is what it touches
pub touches_by : (next : Option Entry) (old new : State) (r : Result StepInfo Stop) (j : Result Taken Stop)
    → judged (core_of old) old.rip (cell_at old.mem) next ≡ j → r ≡ told j → Moved j old new → Touches next old new r
touches_by next old new (Ok i) (Ok t) e h k = λ set world w.
    let s = machine_of old world in
    let x = steps_by next old new (Ok i) (Ok t) e h k world w in
    let f = x.0 in
    let n = next_after s.rip f in
    let p = made next old world t f e w x.1.at in
    let i' = ap info_of p.2 ∙ sym (same_info i (info_of t) h) in
    let apart : leaves set (task_of f n) n s ≡ avoids_told set next i =
    plan_told set (task_of f n).insn (task_of f n).asks n s.core s.mem (first world) p.0 p.1 ∙ (λ x. avoids_told set (w x) (i' x)) in (
      λ y.
          let g = one_instruction s y.0 f y.1.at x.1.at in
          sym apart ∙ subst (λ (z : Fields). leaves set (task_of z (next_after s.rip z)) (next_after s.rip z) s ≡ true) g y.1.apart,
      λ b. (f, record { at = x.1.at; apart = apart ∙ b; acts = x.1.acts }),
    )
touches_by next old new (Ok i) (Err s) e h k = absurd cc
touches_by next old new (Err s) j e h k = tt

-- a list isn't its own rest
longer : (e : Entry) (es : List Entry) → e ∷ es ≡ es → ⊥
longer e es h = let k = ap length h in omega (arith, k)

-- and whether it uses the entry
pub uses_by : (next : Option Entry) (old new : State) (r : Result StepInfo Stop) (j : Result Taken Stop)
    → judged (core_of old) old.rip (cell_at old.mem) next ≡ j → r ≡ told j → Moved j old new → Uses next old new r
uses_by None old new (Ok i) (Ok t) e h k =
    let x = steps_by None old new (Ok i) (Ok t) e h k [] refl in
    let f = x.0 in
    let n = next_after old.rip f in
    let p = made None old [] t f e refl x.1.at in
    ap (λ (z : StepInfo). z.used) (same_info i (info_of t) h) ∙ ap (λ (z : Taken). z.used) (sym p.2)
    ∙ plan_unused (task_of f n).insn (task_of f n).asks n (core_of old) (cell_at old.mem) p.0 p.1
uses_by (Some e) old new (Ok i) (Ok t) d h k = λ es.
    let s = machine_of old (e ∷ es) in
    let x : Step nowhere s (machine_of new (world_after i.used (e ∷ es))) = steps_by (Some e) old new (Ok i) (Ok t) d h k (e ∷ es) refl in
    (λ u. subst (λ (b : Bool). Step nowhere s (machine_of new (world_after b (e ∷ es)))) u x, by_used es i.used x)
  where
    by_used : (es : List Entry) (b : Bool) → Step nowhere (machine_of old (e ∷ es)) (machine_of new (world_after b (e ∷ es)))
        → Step nowhere (machine_of old (e ∷ es)) (machine_of new es) → b ≡ true
    by_used es true x y = refl
    by_used es false x y =
        let same = one_next task_of nowhere nowhere (machine_of old (e ∷ es)) (machine_of new (e ∷ es)) (machine_of new es) x y in
        absurd (longer e es (ap (λ (z : Machine). z.world) same))
uses_by None old new (Ok i) (Err s) e h k = absurd cc
uses_by (Some e) old new (Ok i) (Err s) d h k = absurd cc
uses_by None old new (Err s) j e h k = tt
uses_by (Some e) old new (Err s) j d h k = tt
