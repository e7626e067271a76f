-- Each instruction leaves sixteen registers of 64 bits.
use Rattle.std.proofs.Common.{◌≡◌, ℕ, zero, suc, ◌+◌, ◌-◌, ◌%◌, ◌^◌, ◌<◌, Bool, true, false, cond, ◌==◌, List, [], ◌∷◌, length, get_or, set, Option, Some, None, Ok, refl, sym, ap, ◌∙◌, subst, arith}
use Rattle.std.proofs.lemmas.List.{length-set}
use Rattle.cpu_alu.specs.declared.operation.Width.{Width}
use Rattle.cpu_alu.specs.declared.operation.Width.TheVariants.{W8, W16, W32, W64}
use Rattle.cpu_alu.specs.declared.flag_word.Flags.{Flags}
use Rattle.cpu_alu.specs.declared.outcome.AluOut.{AluOut}
use Rattle.cpu_alu.specs.Arithmetic.{arithmetic}
use Rattle.pun_base.specs.Memory.{Bytes}
use Rattle.cpu_state.specs.declared.state.Core.{Core}
use Rattle.cpu_state.specs.declared.world.Question.{Question}
use Rattle.cpu_state.specs.declared.world.Answer.{Answer}
use Rattle.cpu_state.specs.declared.world.Entry.{Entry}
use Rattle.cpu_state.specs.declared.world.MemWrite.{MemWrite}
use Rattle.cpu_state.specs.Bytes.{advanced}
use Rattle.insn_form.specs.declared.effect.Out.{Out}
use Rattle.insn_form.specs.declared.form.Spot.{Spot}
use Rattle.insn_form.specs.declared.form.Spot.TheVariants.{Reg, High, Mem}
use Rattle.insn_form.specs.declared.form.Insn.{Insn}
use Rattle.insn_form.specs.declared.form.Insn.TheVariants.{Exact, Asked, Ending}
use Rattle.insn_form.specs.declared.form.Op.{Op}
use Rattle.insn_form.specs.declared.form.Op.TheVariants.{Mov, Extend, Lea, Xchg, Nop, Push, Pop, Alu, Not, Cmov, Set, Widen, Leave, Cmc, Clc, Stc, Sahf, Lahf, Jcc, Loop, Jmp, Call, Ret}
use Rattle.insn_form.specs.Operands.{reg, with_reg, with_flags, rcx, rsp, merged, merged_high, with_spot, spot_number, value_number}
use Rattle.insn_form.specs.Computing.{computed}
use Rattle.insn_form.specs.Stack.{lowered, raised}
use Rattle.insn_form.specs.Branches.{jcc, counted, is_empty, goes_round}
use Rattle.insn_form.specs.Meaning.{effect}
use Rattle.insn_form.specs.Plan.{Plan, ask, completed, planned, exactly, by_answer, answered, answered_core, after_answer, plan, lacking_in, lacking_writes, number_in, writes_in}
use Rattle.insn_form.specs.Machine.{first, rest}
use Rattle.cpu_state.specs.Processor.{IsProcessorCore, AreWords, GiveWords}
use Rattle.insn_form.specs.Step.{next_after, task_of}
use Rattle.insn_form.specs.Processor.{IsProcessorState, IsProcessorAfter, IsProcessorAlong}
use Rattle.insn_form.proofs.FrameRule.{unless_ok, ask_ok, same_Ok, carry_ok}

small_set : (xs : List ℕ) (i v b : ℕ) → ((r : ℕ) → get_or xs r 0 < b) → v < b → (r : ℕ) → get_or (set xs i v) r 0 < b
small_set [] i v b h k r = h r
small_set (x ∷ xs) zero v b h k zero = k
small_set (x ∷ xs) zero v b h k (suc r) = h (suc r)
small_set (x ∷ xs) (suc i) v b h k zero = h zero
small_set (x ∷ xs) (suc i) v b h k (suc r) = small_set xs i v b (λ q. h (suc q)) k r

-- a register that is set to a number of 64 bits leaves a processor's registers
pub reg_sized : (c : Core) (r v : ℕ) → IsProcessorCore c → v < 2 ^ 64 → IsProcessorCore (with_reg c r v)
reg_sized c r v h k = record { count = length-set c.regs r v ∙ h.count; small = small_set c.regs r v (2 ^ 64) h.small k }

flags_sized : (c : Core) (f : Flags) → IsProcessorCore c → IsProcessorCore (with_flags c f)
flags_sized c f h = record { count = h.count; small = h.small }

merged_small : (w : Width) (old v : ℕ) → old < 2 ^ 64 → merged w old v < 2 ^ 64
merged_small W8 old v h = omega arith
merged_small W16 old v h = omega arith
merged_small W32 old v h = omega arith
merged_small W64 old v h = omega arith

high_small : (old v : ℕ) → old < 2 ^ 64 → merged_high old v < 2 ^ 64
high_small old v h = omega arith

spot_sized : (c : Core) (w : Width) (s : Spot) (v : ℕ) → IsProcessorCore c → IsProcessorCore (with_spot c w s v)
spot_sized c w (Reg r) v h = reg_sized c r (merged w (reg c r) v) h (merged_small w (reg c r) v (h.small r))
spot_sized c w (High r) v h = reg_sized c r (merged_high (reg c r) v) h (high_small (reg c r) v (h.small r))
spot_sized c w (Mem f) v h = h

advanced_small : (a n : ℕ) → advanced a n < 2 ^ 64
advanced_small a n = omega arith

lowered_sized : (c : Core) → IsProcessorCore c → IsProcessorCore (lowered c)
lowered_sized c h = reg_sized c rsp (advanced (reg c rsp) (2 ^ 64 - 8)) h (advanced_small (reg c rsp) (2 ^ 64 - 8))

raised_sized : (c : Core) → IsProcessorCore c → IsProcessorCore (raised c)
raised_sized c h = reg_sized c rsp (advanced (reg c rsp) 8) h (advanced_small (reg c rsp) 8)

computed_sized : (o : AluOut) (w : Width) (dst : Spot) (keep : Bool) (c : Core) → IsProcessorCore c → IsProcessorCore (computed o w dst keep c).core
computed_sized o w dst true c h = flags_sized (with_spot c w dst o.value) o.flags (spot_sized c w dst o.value h)
computed_sized o w dst false c h = flags_sized c o.flags h

-- by each operation
effect_sized : (op : Op) (next v : ℕ) (c : Core) → IsProcessorCore c → IsProcessorCore ((effect op next c).out v).core
unfolding effect
effect_sized (Mov w dst src) next v c h = spot_sized c w dst _ h
effect_sized (Extend sign from w dst src) next v c h = spot_sized c w (Reg dst) _ h
effect_sized (Lea w dst mem) next v c h = spot_sized c w (Reg dst) _ h
effect_sized (Xchg w x y) next v c h = spot_sized _ w y _ (spot_sized c w x _ h)
effect_sized (Nop disp) next v c h = h
effect_sized (Push src) next v c h = lowered_sized c h
effect_sized (Pop dst) next v c h = spot_sized (raised c) W64 dst v (raised_sized c h)
effect_sized (Alu op w dst src stores) next v c h = computed_sized (arithmetic op w (spot_number c w v dst) (value_number c w v src) c.flags) w dst stores c h
effect_sized (Not w dst) next v c h = spot_sized c w dst _ h
effect_sized (Cmov cc' w dst src) next v c h = spot_sized c w (Reg dst) _ h
effect_sized (Set cc' dst) next v c h = spot_sized c W8 dst _ h
effect_sized (Widen w true) next v c h = spot_sized c w (Reg 2) _ h
effect_sized (Widen w false) next v c h = spot_sized c w (Reg 0) _ h
effect_sized Leave next v c h = reg_sized _ 5 (v % 2 ^ 64) (reg_sized c rsp (advanced (reg c 5) 8) h (advanced_small (reg c 5) 8)) (let e : v % 2 ^ 64 < 2 ^ 64 = omega arith in e)
effect_sized Cmc next v c h = flags_sized c _ h
effect_sized Clc next v c h = flags_sized c _ h
effect_sized Stc next v c h = flags_sized c _ h
effect_sized Sahf next v c h = flags_sized c _ h
effect_sized Lahf next v c h = spot_sized c W8 (High 0) _ h
effect_sized (Jcc cc' rel) next v c h = h
effect_sized (Loop kind rel short) next v c h = by_kind (kind == 3)
  where
    by_kind : (b : Bool) → IsProcessorCore ((cond b (jcc (is_empty short (reg c rcx)) rel c) (jcc (goes_round kind (counted c) c.flags) rel (with_reg c rcx (counted c)))).out v).core
    by_kind true = h
    by_kind false = reg_sized c rcx (counted c) h (advanced_small (reg c rcx) (2 ^ 64 - 1))
effect_sized (Jmp target) next v c h = h
effect_sized (Call target) next v c h = lowered_sized c h
effect_sized (Ret extra) next v c h = reg_sized c rsp _ h (advanced_small (reg c rsp) (8 + extra))

-- by answers
length-answered : (os : List (Option ℕ)) (rs : List ℕ) → length (answered os rs) ≡ length rs
length-answered [] rs = refl
length-answered (o ∷ os) [] = refl
length-answered (o ∷ os) (r ∷ rs) = ap suc (length-answered os rs)

answered_small : (os : List (Option ℕ)) (rs : List ℕ) → AreWords os → ((r : ℕ) → get_or rs r 0 < 2 ^ 64) → (r : ℕ) → get_or (answered os rs) r 0 < 2 ^ 64
answered_small [] rs w h r = h r
answered_small (o ∷ os) [] w h r = h r
answered_small (None ∷ os) (x ∷ rs) w h zero = h zero
answered_small (None ∷ os) (x ∷ rs) w h (suc r) = answered_small os rs w.1 (λ q. h (suc q)) r
answered_small (Some v ∷ os) (x ∷ rs) w h zero = w.0
answered_small (Some v ∷ os) (x ∷ rs) w h (suc r) = answered_small os rs w.1 (λ q. h (suc q)) r

given_sized : (a : Answer) (c : Core) → AreWords a.regs → IsProcessorCore c → IsProcessorCore (answered_core a c)
given_sized a c w h = record { count = length-answered a.regs c.regs ∙ h.count; small = answered_small a.regs c.regs w h.small }

answer_sized : (syscall : Bool) (next : ℕ) (a : Answer) (c : Core) → next < 2 ^ 64 → AreWords a.regs → IsProcessorCore c → IsProcessorCore (after_answer syscall next a c)
answer_sized false next a c l w h = given_sized a c w h
answer_sized true next a c l w h = reg_sized (answered_core a c) rcx next (given_sized a c w h) l

exactly_sized : (q : Question) (ws : List MemWrite) (entry : Option Entry) (o : Out) (p : Plan) → IsProcessorCore o.core → exactly q ws entry o ≡ Ok p → IsProcessorCore p.core
exactly_sized q ws entry o p h k = by_test (o.undefined == 0) k
  where
    by_test : (b : Bool) → cond b (Ok (planned o.core o ws false)) (ask q entry (λ z. Ok (planned (completed o.undefined o.core z) o ws true))) ≡ Ok p → IsProcessorCore p.core
    by_test true e = subst (λ (z : Plan). IsProcessorCore z.core) (same_Ok _ p e) h
    by_test false e = let a = ask_ok q entry _ p e in subst (λ (z : Plan). IsProcessorCore z.core) (same_Ok _ p a.2) (flags_sized o.core _ h)

first_words : (es : List Entry) (e : Entry) → first es ≡ Some e → GiveWords es → AreWords e.answer.regs
first_words [] e f h = absurd cc
first_words (x ∷ es) e f h = let g : x ≡ e = cc in subst (λ (z : Entry). AreWords z.answer.regs) g h.0

rest_words : (es : List Entry) → GiveWords es → GiveWords (rest es)
rest_words [] h = h
rest_words (e ∷ es) h = h.1

left_words : (b : Bool) (es : List Entry) → GiveWords es → GiveWords (cond b (rest es) es)
left_words true es h = rest_words es h
left_words false es h = h

plan_sized : (i : Insn) (q : Question) (next : ℕ) (c : Core) (m : Bytes) (world : List Entry) (p : Plan) → next < 2 ^ 64 → IsProcessorCore c → GiveWords world → plan i q next c m (first world) ≡ Ok p → IsProcessorCore p.core
plan_sized (Exact op) q next c m world p l h w k =
    let e = effect op next c in
    let k1 = unless_ok (lacking_in 4 m e.read) _ p k in
    let k2 = unless_ok (lacking_in 2 m e.write) _ p k1 in
    let o = e.out (number_in m e.read) in
    exactly_sized q (writes_in e.write o.value) (first world) o p (effect_sized op next (number_in m e.read) c h) k2
plan_sized (Asked form) q next c m world p l h w k =
    let a = ask_ok q (first world) (by_answer form.syscall next c m) p k in
    let r = unless_ok (lacking_writes m a.0.answer.writes) _ p a.2 in
    subst (λ (z : Plan). IsProcessorCore z.core) (same_Ok _ p r) (answer_sized form.syscall next a.0.answer c l (first_words world a.0 a.1 w) h)
plan_sized Ending q next c m world p l h w k = absurd cc

-- an instruction makes the state of a processor from one
pub after : IsProcessorAfter
after t next s s' l h e =
    let q = carry_ok next s.mem s.world _ s' e in
    subst IsProcessorState (sym q.2) (record { core = plan_sized t.insn t.asks next s.core s.mem s.world q.0 l h.core h.world q.1; world = left_words q.0.used s.world h.world })

-- a step leads from the state of a processor to one
pub along : IsProcessorAlong
along set s t x h =
    let next = next_after s.rip x.0 in
    after (task_of x.0 next) next s t (advanced_small s.rip _) h x.1.acts
