-- One step of a thread at LOCK XADD: the four bytes rise by eax, which gets what they were.
use Rattle.std.proofs.Common.{◌≡◌, ℕ, ◌+◌, ◌*◌, ◌%◌, ◌^◌, ◌<◌, Bool, true, List, [], ◌∷◌, length, Option, Some, None, Result, Ok, Err, refl, sym, ap, ap₂, ◌∙◌, subst, arith}
use Rattle.pun_base.specs.Memory.{Bytes}
use Rattle.cpu_alu.specs.declared.operation.Width.TheVariants.{W32}
use Rattle.cpu_alu.specs.declared.operation.AluOp.TheVariants.{Add}
use Rattle.cpu_alu.specs.Arithmetic.{operated, arithmetic}
use Rattle.cpu_alu.specs.Widths.{cut}
use Rattle.cpu_state.specs.declared.state.Core.{Core}
use Rattle.cpu_state.specs.declared.state.State.{State}
use Rattle.cpu_state.specs.declared.world.Entry.{Entry}
use Rattle.cpu_state.specs.declared.world.Question.{Question}
use Rattle.cpu_state.specs.Bytes.{advanced, lacking, number_at, put_number, put_list, bytes_of, code_at}
use Rattle.cpu_state.specs.Numbers.{unless_lacking, loaded as loaded_number}
use Rattle.cpu_state.specs.Parts.{core_of}
use Rattle.cpu_state.specs.Regions.{cell_at}
use Rattle.length_decode.specs.Spelling.{Fields, spelling}
use Rattle.insn_form.specs.declared.form.Insn.{Insn}
use Rattle.insn_form.specs.declared.form.Insn.TheVariants.{Exact}
use Rattle.insn_form.specs.Filling.{integer_of}
use Rattle.insn_form.specs.Operands.{word_of, reg, with_reg, with_flags, rax, place}
use Rattle.insn_form.specs.Meaning.{effect}
use Rattle.insn_form.specs.Plan.{Plan, plan, unless, or_first}
use Rattle.insn_form.specs.Machine.{Machine, Task, first}
use Rattle.insn_form.specs.Step.{IsAt, next_after}
use Rattle.insn_form.specs.Exactly.{after_op, HasOperands}
use Rattle.cpu_step.specs.declared.stop.Stop.{Stop}
use Rattle.cpu_step.specs.declared.stop.Stop.TheVariants.{NoByte as StopNoByte}
use Rattle.cpu_step.specs.Stepping.{taken_or_stop, machine_of, world_after}
use Rattle.cpu_step.proofs.Windows.{stands}
use Rattle.relocate_insn.proofs.PieceSteps.{at_fixed}
use Rattle.event_steps.specs.ThreadSteps.{thread_task, number_read, ThreadStepsBy}
use Rattle.thread_runs.specs.ThreadJudging.{loading, thread_judgement, UsesOne, StepsThread, begins_xadd, xadd_address, sum_at, Exchanges}
use Rattle.event_steps.proofs.ClaimSteps.{exchanging, sum_by, sum_insn, claimed, claim_told, claim_step}
use Rattle.thread_runs.proofs.LockIncSpelling.{exchanging_formed, begun}
use Rattle.thread_runs.proofs.ThreadJudgements.{thread_there}

-- a number that is loaded is that of its bytes, none of which lacks R
pub load_told : (m : Bytes) (a n x : ℕ) → loaded_number m a n ≡ Ok x → (lacking 4 m a n ≡ None) × (x ≡ number_at m a n)
load_told m a n x e = by_lack (lacking 4 m a n) refl e
  where
    by_lack : (o : Option ℕ) → lacking 4 m a n ≡ o → unless_lacking o (number_at m a n) ≡ Ok x → (lacking 4 m a n ≡ None) × (x ≡ number_at m a n)
    by_lack None h k = (h, (let z : number_at m a n ≡ x = cc in sym z))
    by_lack (Some l) h k = absurd cc

-- LOCK XADD stands at rip, and names the address that its bytes do
record HasXadd (s : Machine) : Type 0 where
  pub disp : List ℕ
  pub size : length disp ≡ 4
  pub at : IsAt s (exchanging disp [])
  pub behind : next_after s.rip (exchanging disp []) ≡ advanced s.rip 9
  pub named : xadd_address (code_at s.mem s.rip 15) ≡ word_of (integer_of disp)
  pub small : word_of (integer_of disp) < 2 ^ 64

-- where the bytes at rip pass the test, LOCK XADD stands there
xadd_here : (s : Machine) → begins_xadd (code_at s.mem s.rip 15) ≡ true → xadd_address (code_at s.mem s.rip 15) < 2 ^ 64 → HasXadd s
xadd_here s h l =
    let g = begun 0xf0 0x0f 0xc1 0x04 0x25 (code_at s.mem s.rip 15) h in
    let f = exchanging (g.a ∷ g.b ∷ g.c ∷ g.d ∷ []) [] in
    record {
      disp = g.a ∷ g.b ∷ g.c ∷ g.d ∷ [];
      size = refl;
      at = record { spelled = exchanging_formed g.a g.b g.c g.d; here = stands s.mem s.rip 15 (spelling f) g.rest g.joined };
      behind = refl;
      named = ap xadd_address g.joined;
      small = subst (λ z. z < 2 ^ 64) (ap xadd_address g.joined) l;
    }

-- the address of LOCK XADD's operand
named_place : (c : Core) (d : List ℕ) → word_of (integer_of d) < 2 ^ 64 → place c (at_fixed d) ≡ word_of (integer_of d)
named_place c d h = cut_once (word_of (integer_of d)) h
  where
    cut_once : (x : ℕ) → x < 2 ^ 64 → ((0 + 0 * 1 + x) % 2 ^ 64 + 0) % 2 ^ 64 ≡ x
    cut_once x h = omega (arith, h)

-- what LOCK XADD reads and writes, by its operand's address
plan_sum : (d : List ℕ) (next : ℕ) (asks : Question) (c : Core) (m : Bytes) (entry : Option Entry)
    → (p : Plan) × (plan (Exact (sum_by d)) asks next c m entry ≡ unless (lacking 4 m (place c (at_fixed d)) 4) (unless (lacking 2 m (place c (at_fixed d)) 4) (Ok p)))
unfolding effect
plan_sum d next asks c m entry = (_, refl)

-- a plan that lacks a byte leads to the stop that names it
lacks_stop : (o u : Option ℕ) (p : Plan) (x rip : ℕ) (asks : Question) (i : Insn) (next : ℕ) (c : Core) (t : Task) (m : Bytes) → or_first o u ≡ Some x
    → loading true t next c m (taken_or_stop rip asks i next c (unless o (unless u (Ok p)))) ≡ Err (StopNoByte x)
lacks_stop None None p x rip asks i next c t m e = absurd cc
lacks_stop None (Some a) p x rip asks i next c t m e = let z : a ≡ x = cc in ap (λ y. Err (StopNoByte y)) z
lacks_stop (Some a) u p x rip asks i next c t m e = let z : a ≡ x = cc in ap (λ y. Err (StopNoByte y)) z

module _ (s : Machine) (h : HasXadd s) where
  abbrev f : Fields
  f = exchanging h.disp []

  abbrev next : ℕ
  next = next_after s.rip f

  -- its operand's address
  abbrev a : ℕ
  a = word_of (integer_of h.disp)

  -- where no byte lacks a permission, it has its operands
  operands : lacking 4 s.mem a 4 ≡ None → lacking 2 s.mem a 4 ≡ None → HasOperands s next (sum_by h.disp)
  unfolding effect
  operands r w = let q = named_place s.core h.disp h.small in record { read = ap (λ z. lacking 4 s.mem z 4) q ∙ r; write = ap (λ z. lacking 2 s.mem z 4) q ∙ w }

  -- where one does, it hasn't
  no_operands : (x : ℕ) → or_first (lacking 4 s.mem a 4) (lacking 2 s.mem a 4) ≡ Some x → HasOperands s next (sum_by h.disp) → ⊥
  unfolding effect
  no_operands x e o =
      let q = sym (named_place s.core h.disp h.small) in
      none (lacking 4 s.mem a 4) (lacking 2 s.mem a 4) (ap (λ z. lacking 4 s.mem z 4) q ∙ o.read) (ap (λ z. lacking 2 s.mem z 4) q ∙ o.write) e
    where
      none : (o u : Option ℕ) → o ≡ None → u ≡ None → or_first o u ≡ Some x → ⊥
      none None None e f g = absurd cc
      none None (Some y) e f g = absurd cc
      none (Some y) u e f g = absurd cc

  -- the state after it
  left : claimed s h.disp next h.size h.at refl ≡ record {
    core = with_reg (with_flags s.core (arithmetic Add W32 (number_at s.mem a 4) (reg s.core rax) s.core.flags).flags) rax (number_at s.mem a 4 % 2 ^ 32);
    rip = next;
    mem = put_number s.mem a 4 (arithmetic Add W32 (number_at s.mem a 4) (reg s.core rax) s.core.flags).value;
    world = s.world;
  }
  unfolding effect
  left =
      let q = named_place s.core h.disp h.small in
      let read = ap (λ i. number_read i next s.core s.mem) (sum_insn h.disp next h.size) in
      (λ i. record {
        core = with_reg (after_op s next (sum_by h.disp)).core rax (cut W32 (read i));
        rip = next;
        mem = (after_op s next (sum_by h.disp)).mem;
        world = s.world;
      }) ∙ (λ i. record {
        core = with_reg (with_flags s.core (arithmetic Add W32 (number_at s.mem (q i) 4 % 2 ^ 32) (reg s.core rax % 2 ^ 32) s.core.flags).flags) rax (number_at s.mem (q i) 4 % 2 ^ 32);
        rip = next;
        mem = put_list s.mem (q i) (bytes_of 4 (arithmetic Add W32 (number_at s.mem (q i) 4 % 2 ^ 32) (reg s.core rax % 2 ^ 32) s.core.flags).value);
        world = s.world;
      }) ∙ (λ i. record {
        core = with_reg (with_flags s.core (cuts i).flags) rax (number_at s.mem a 4 % 2 ^ 32);
        rip = next;
        mem = put_list s.mem a (bytes_of 4 (cuts i).value);
        world = s.world;
      })
    where
      twice : (x : ℕ) → x % 2 ^ 32 % 2 ^ 32 ≡ x % 2 ^ 32
      twice x = omega arith

      cuts : arithmetic Add W32 (number_at s.mem a 4 % 2 ^ 32) (reg s.core rax % 2 ^ 32) s.core.flags ≡ arithmetic Add W32 (number_at s.mem a 4) (reg s.core rax) s.core.flags
      cuts = ap₂ (λ x y. operated Add W32 x y s.core.flags) (twice (number_at s.mem a 4)) (twice (reg s.core rax))

-- LOCK XADD of a state makes the step of a thread, or has none, for the reason that is told
pub xadd_steps : (old new : State) (next : Option Entry) (r : Result Bool Stop) → begins_xadd (code_at (cell_at old.mem) old.rip 15) ≡ true → xadd_address (code_at (cell_at old.mem) old.rip 15) < 2 ^ 64
    → Exchanges (xadd_address (code_at (cell_at old.mem) old.rip 15)) old new r → StepsThread next old new r
unfolding xadd_here
xadd_steps old new entry (Ok used) b l e = (
  by_next entry,
  λ world g. (let s = machine_of old world in
      let h = xadd_here s b l in
      let q = h.named in
      let o = operands s h (ap (λ z. lacking 4 s.mem z 4) (sym q) ∙ e.read) (ap (λ z. lacking 2 s.mem z 4) (sym q) ∙ e.written) in
      (exchanging h.disp [], subst (λ (t : Machine). ThreadStepsBy (exchanging h.disp []) s t) (left s h ∙ sym (there s h world q)) (claim_step s h.disp (next_after s.rip (exchanging h.disp [])) h.size h.at refl o))),
)
  where
    by_next : (n : Option Entry) → UsesOne n used
    by_next None = e.unused
    by_next (Some k) = tt

    there : (s : Machine) (h : HasXadd s) (world : List Entry) → xadd_address (code_at (cell_at old.mem) old.rip 15) ≡ word_of (integer_of h.disp) → machine_of new (world_after used world) ≡ record {
      core = with_reg (with_flags (core_of old) (arithmetic Add W32 (number_at (cell_at old.mem) (word_of (integer_of h.disp)) 4) (reg (core_of old) rax) old.flags).flags) rax (number_at (cell_at old.mem) (word_of (integer_of h.disp)) 4 % 2 ^ 32);
      rip = advanced old.rip 9;
      mem = put_number (cell_at old.mem) (word_of (integer_of h.disp)) 4 (arithmetic Add W32 (number_at (cell_at old.mem) (word_of (integer_of h.disp)) 4) (reg (core_of old) rax) old.flags).value;
      world = world;
    }
    there s h world q =
        (λ i. record { core = e.core i; rip = e.rip i; mem = e.mem i; world = world_after (e.unused i) world })
        ∙ (λ i. record {
          core = with_reg (with_flags (core_of old) (sum_at (q i) old).flags) rax (number_at (cell_at old.mem) (q i) 4 % 2 ^ 32);
          rip = advanced old.rip 9;
          mem = put_number (cell_at old.mem) (q i) 4 (sum_at (q i) old).value;
          world = world;
        })
xadd_steps old new entry (Err stop) b l e = (
  e.0,
  λ world g. (let s = machine_of old world in
      let h = xadd_here s b l in
      let q = h.named in
      let x = e.1.0 in
      let lacks : or_first (lacking 4 s.mem (word_of (integer_of h.disp)) 4) (lacking 2 s.mem (word_of (integer_of h.disp)) 4) ≡ Some x = ap (λ z. or_first (lacking 4 s.mem z 4) (lacking 2 s.mem z 4)) (sym q) ∙ e.1.1 in
      record {
        reason = judged s h x lacks ∙ ap (λ z. Err z) (sym e.1.2);
        none = λ t st. no_operands s h x lacks (claim_told s h.disp (next_after s.rip (exchanging h.disp [])) h.size h.at refl t st).0;
      }),
)
  where
    judged : (s : Machine) (h : HasXadd s) (x : ℕ) → or_first (lacking 4 s.mem (word_of (integer_of h.disp)) 4) (lacking 2 s.mem (word_of (integer_of h.disp)) 4) ≡ Some x → thread_judgement s ≡ Err (StopNoByte x)
    judged s h x l =
        let f = exchanging h.disp [] in
        let n = next_after s.rip f in
        let t = thread_task f n in
        let q = named_place s.core h.disp h.small in
        let p = plan_sum h.disp n t.asks s.core s.mem (first s.world) in
        thread_there s f h.at
        ∙ ap (λ i. loading true t n s.core s.mem (taken_or_stop s.rip t.asks i n s.core (plan i t.asks n s.core s.mem (first s.world)))) (sum_insn h.disp n h.size)
        ∙ ap (λ r. loading true t n s.core s.mem (taken_or_stop s.rip t.asks (Exact (sum_by h.disp)) n s.core r)) p.1
        ∙ lacks_stop (lacking 4 s.mem (place s.core (at_fixed h.disp)) 4) (lacking 2 s.mem (place s.core (at_fixed h.disp)) 4) p.0 x s.rip t.asks (Exact (sum_by h.disp)) n s.core t s.mem
        (ap (λ z. or_first (lacking 4 s.mem z 4) (lacking 2 s.mem z 4)) q ∙ l)
