-- Each step of an event is an instruction, and what it does.
use Rattle.std.proofs.Common.{◌≡◌, ℕ, ◌+◌, ◌-◌, ◌^◌, ◌<◌, ◌≤◌, Bool, true, false, [], length, refl, sym, ap, ◌∙◌, subst, arith, true≢false, zero, suc}
use Rattle.std.proofs.lemmas.Bool.{cond-false, false≢true}
use Rattle.cpu_alu.specs.declared.operation.Width.TheVariants.{W32}
use Rattle.cpu_alu.specs.Widths.{cut}
use Rattle.insn_form.specs.Operands.{with_reg, rax}
use Rattle.relocate_insn.specs.Pieces.{four}
use Rattle.cpu_state.specs.declared.state.Core.{Core}
use Rattle.cpu_state.specs.Fixed.{IsFixed}
use Rattle.length_decode.specs.Spelling.{Fields, IsFormed, IsInstruction, spelling}
use Rattle.insn_form.specs.declared.form.Insn.{Insn}
use Rattle.insn_form.specs.declared.form.Insn.TheVariants.{Exact}
use Rattle.insn_form.specs.declared.form.Op.{Op}
use Rattle.insn_form.specs.Classes.{template}
use Rattle.insn_form.specs.Filling.{filled}
use Rattle.insn_form.specs.Instruction.{insn_of}
use Rattle.insn_form.specs.Resolving.{resolved_insn}
use Rattle.insn_form.specs.Meaning.{effect}
use Rattle.insn_form.specs.Machine.{Machine}
use Rattle.insn_form.specs.Step.{IsAt, next_after, StepsBy}
use Rattle.insn_form.specs.Runs.{nowhere}
use Rattle.insn_form.specs.Exactly.{after_op, HasOperands}
use Rattle.insn_form.proofs.UniqueSteps.{one_instruction}
use Rattle.relocate_insn.proofs.PieceSteps.{is_at, next_is, op_step, told}
use Rattle.event_steps.specs.ThreadSteps.{is_locked_xadd, thread_task, number_read}
use Rattle.event_steps.proofs.ClaimSteps.{exchanging, sum_by, sum_insn, claimed, claim_told, claim_step}
use Rattle.event_steps.proofs.KnownCodeSteps.{IsKnown, known_fixed, known_step, known_told}
use Rattle.event_steps.specs.declared.step.Place.{Place}
use Rattle.event_steps.specs.declared.step.EventStep.{EventStep}
use Rattle.event_steps.specs.EventSteps.{Mode, size, fields_of, op_of, IsStep}
use Rattle.event_steps.specs.MadeSteps.{StepIn, loads, after_step}
use Rattle.event_steps.specs.EventSteps.Mode.{Alone, Shared}
use Rattle.event_steps.specs.declared.step.Place.TheVariants.{At, Below}
use Rattle.event_steps.specs.declared.step.EventStep.TheVariants.{Cover, CountUp, Keep, Give, Compare, Reduce, Put, Claim, SkipIf}

-- something holds of each number below a bound
abbrev pub AllUnder : ℕ → (ℕ → Type 0) → Type 0
AllUnder zero P = Unit {0}
AllUnder (suc k) P = AllUnder k (λ n. P (suc n)) × P 0

-- what holds of each number below a bound holds of one
pub under : (k : ℕ) (P : ℕ → Type 0) → AllUnder k P → (n : ℕ) → n < k → P n
under zero P all n h = absurd (omega (arith, h))
under (suc k) P all zero h = all.1
under (suc k) P all (suc n) h = under k (λ m. P (suc m)) all.0 n (omega (arith, h))

-- the instruction that a mode reads
abbrev pub insn_in : Mode → Fields → ℕ → Insn
insn_in Alone f next = resolved_insn next (insn_of f)
insn_in Shared f next = (thread_task f next).insn

-- fields are spelled so, and read as this operation
pub record IsMade (mode : Mode) (f : Fields) (next : ℕ) (op : Op) : Type 0 where
  formed : IsFormed f
  insn : insn_in mode f next ≡ Exact op
  loads : is_locked_xadd f ≡ false

-- a step is
abbrev IsMadeStep : Mode → Place → ℕ → ℕ → EventStep → Type 0
IsMadeStep mode p d next s = IsMade mode (fields_of s p d) next (op_of s p d next)

-- those with a register, and each jump, are
keeps : (mode : Mode) (p : Place) (d next : ℕ) → AllUnder 16 (λ r. IsMadeStep mode p d next (Keep r))
unfolding template filled
keeps Alone p d next = assumption (refl, tt)
keeps Shared p d next = assumption (refl, tt)

gives : (mode : Mode) (p : Place) (d next : ℕ) → AllUnder 16 (λ r. IsMadeStep mode p d next (Give r))
unfolding template filled
gives Alone p d next = assumption (refl, tt)
gives Shared p d next = assumption (refl, tt)

compares : (mode : Mode) (p : Place) (n d next : ℕ) → AllUnder 16 (λ r. IsMadeStep mode p d next (Compare r n))
unfolding template filled
compares Alone p n d next = assumption (refl, tt)
compares Shared p n d next = assumption (refl, tt)

skips : (mode : Mode) (p : Place) (k d next : ℕ) → AllUnder 6 (λ c. IsMadeStep mode p d next (SkipIf (2 + c) k))
unfolding template filled
skips Alone p k d next = assumption (refl, tt)
skips Shared p k d next = assumption (refl, tt)

-- so is each
pub made : (mode : Mode) (s : EventStep) (p : Place) (d next : ℕ) → loads s ≡ false → IsStep mode p s → IsMadeStep mode p d next s
unfolding template filled
made mode (Keep r) p d next o h = under 16 (λ z. IsMadeStep mode p d next (Keep z)) (keeps mode p d next) r h.0
made mode (Give r) p d next o h = under 16 (λ z. IsMadeStep mode p d next (Give z)) (gives mode p d next) r h
made mode (Compare r n) p d next o h = under 16 (λ z. IsMadeStep mode p d next (Compare z n)) (compares mode p n d next) r h.0
made mode (SkipIf cc k) p d next o h =
    let e : 2 + (cc - 2) ≡ cc = omega (arith, h.0) in
    subst (λ (z : ℕ). IsMadeStep mode p d next (SkipIf z k)) e (under 6 (λ z. IsMadeStep mode p d next (SkipIf (2 + z) k)) (skips mode p k d next) (cc - 2) (omega (arith, h.0, h.1)))
made Alone (CountUp true k) p d next o h = absurd h
made Shared (CountUp true k) (At a) d next o h = record { formed = assumption (refl, tt); insn = refl; loads = refl }
made Shared (CountUp true k) (Below b) d next o h = absurd h
made Alone (CountUp false k) (At a) d next o h = record { formed = assumption (refl, tt); insn = refl; loads = refl }
made Alone (CountUp false k) (Below b) d next o h = record { formed = assumption (refl, tt); insn = refl; loads = refl }
made Shared (CountUp false k) (At a) d next o h = record { formed = assumption (refl, tt); insn = refl; loads = refl }
made Shared (CountUp false k) (Below b) d next o h = record { formed = assumption (refl, tt); insn = refl; loads = refl }
made mode (Claim k) p d next o h = absurd (true≢false o)
made mode (Put k n) (Below b) d next o h = absurd h.0
made Alone (Reduce true) p d next o h = record { formed = assumption (refl, tt); insn = refl; loads = refl }
made Alone (Reduce false) p d next o h = record { formed = assumption (refl, tt); insn = refl; loads = refl }
made Shared (Reduce true) p d next o h = record { formed = assumption (refl, tt); insn = refl; loads = refl }
made Shared (Reduce false) p d next o h = record { formed = assumption (refl, tt); insn = refl; loads = refl }
made Alone s (At a) d next o h = record { formed = assumption (refl, tt); insn = refl; loads = refl }
made Alone s (Below b) d next o h = record { formed = assumption (refl, tt); insn = refl; loads = refl }
made Shared s (At a) d next o h = record { formed = assumption (refl, tt); insn = refl; loads = refl }
made Shared s (Below b) d next o h = record { formed = assumption (refl, tt); insn = refl; loads = refl }

-- it has as many bytes as is said, few and some
pub spelled_long : (s : EventStep) (p : Place) (d : ℕ) → length (spelling (fields_of s p d)) ≡ size s
spelled_long (CountUp true k) (At a) d = refl
spelled_long (CountUp true k) (Below b) d = refl
spelled_long (CountUp false k) (At a) d = refl
spelled_long (CountUp false k) (Below b) d = refl
spelled_long (Reduce true) p d = refl
spelled_long (Reduce false) p d = refl
spelled_long (Claim k) (At a) d = refl
spelled_long (Claim k) (Below b) d = refl
spelled_long (Put k n) (At a) d = refl
spelled_long (Put k n) (Below b) d = refl
spelled_long s (At a) d = refl
spelled_long s (Below b) d = refl

pub some_size : (s : EventStep) → (0 < size s) × (size s ≤ 12)
some_size (CountUp true k) = (omega arith, omega arith)
some_size (CountUp false k) = (omega arith, omega arith)
some_size s = (omega arith, omega arith)

-- it leaves no flag undefined
pub defined : (s : EventStep) (p : Place) (d next : ℕ) (c : Core) (x : ℕ) → ((effect (op_of s p d next) next c).out x).undefined ≡ 0
unfolding effect
defined (Cover k) p d next c x = refl
defined (Reduce true) p d next c x = refl
defined (Reduce false) p d next c x = refl
defined s p d next c x = refl

-- LOCK XADD is one
claim_formed : (mode : Mode) (s : EventStep) (p : Place) (d : ℕ) → loads s ≡ true → IsStep mode p s → IsFormed (fields_of s p d)
claim_formed Alone (Claim k) p d o h = absurd h
claim_formed Shared (Claim k) (At a) d o h = record { prefixes = refl; escape = refl; opcode = refl; known = refl; modrm = refl; operand = (refl, refl); imm = refl }
claim_formed Shared (Claim k) (Below b) d o h = absurd h
claim_formed mode s p d o h = absurd (false≢true o)

-- it is an instruction
pub is_step : (mode : Mode) (s : EventStep) (p : Place) (d : ℕ) → IsStep mode p s → IsInstruction (fields_of s p d)
is_step mode s p d h = record { formed = by_loads (loads s) refl; short = (let e = spelled_long s p d in let q = some_size s in omega (arith, e, q.1)) }
  where
    by_loads : (b : Bool) → loads s ≡ b → IsFormed (fields_of s p d)
    by_loads false o = (made mode s p d 0 o h).formed
    by_loads true o = claim_formed mode s p d o h

-- where it stands in code that stays, threads know it
known : (s : EventStep) (p : Place) (d at : ℕ) (v : Machine) → loads s ≡ false → IsStep Shared p s → at + size s < 2 ^ 31 → v.rip ≡ at → IsFixed v.mem at (spelling (fields_of s p d))
    → IsKnown v (fields_of s p d) (at + size s) (op_of s p d (at + size s))
known s p d at v o k l r c =
    let m = made Shared s p d (at + size s) o k in
    known_fixed v at (fields_of s p d) (at + size s) (op_of s p d (at + size s)) (is_step Shared s p d k) r c (ap (λ z. at + z) (spelled_long s p d)) (omega (arith, l)) m.insn
    (defined s p d (at + size s) v.core) m.loads

-- one that loads nothing leads to the state after its operation
pub plain_after : (s : EventStep) (p : Place) (d next : ℕ) (v : Machine) → loads s ≡ false → after_step s p d next v ≡ after_op v next (op_of s p d next)
plain_after s p d next v o = cond-false (loads s) _ _ o

-- LOCK XADD leads to the state with what it read in eax
module _ (k a d at : ℕ) (v : Machine) (low : at + 9 < 2 ^ 31) (rip : v.rip ≡ at) (stands : IsFixed v.mem at (spelling (fields_of (Claim k) (At a) d))) where
  abbrev f : Fields
  f = exchanging (four a) []

  there : IsAt v f
  there = is_at v at f (is_step Shared (Claim k) (At a) d tt) rip stands

  next_there : next_after v.rip f ≡ at + 9
  next_there = next_is v at f (omega (arith, low)) rip

  claimed_is : claimed v (four a) (at + 9) refl there next_there ≡ after_step (Claim k) (At a) d (at + 9) v
  claimed_is =
      let e = ap (λ i. number_read i (at + 9) v.core v.mem) (sum_insn (four a) (at + 9) refl) in
      let u = after_op v (at + 9) (sum_by (four a)) in
      λ j. record { core = with_reg u.core rax (cut W32 (e j)); rip = u.rip; mem = u.mem; world = u.world }

claims : (mode : Mode) (s : EventStep) (p : Place) (d at : ℕ) (v : Machine) → loads s ≡ true → IsStep mode p s → at + size s < 2 ^ 31 → v.rip ≡ at → IsFixed v.mem at (spelling (fields_of s p d))
    → HasOperands v (at + size s) (op_of s p d (at + size s)) → StepIn mode v (after_step s p d (at + size s) v)
claims Alone (Claim k) p d at v o h l r c u = absurd h
claims Shared (Claim k) (Below b) d at v o h l r c u = absurd h
claims Shared (Claim k) (At a) d at v o h l r c u =
    subst (StepIn Shared v) (claimed_is k a d at v l r c) (exchanging (four a) [], claim_step v (four a) (at + 9) refl (there k a d at v l r c) (next_there k a d at v l r c) u)
claims mode s p d at v o h l r c u = absurd (false≢true o)

claim_tells : (mode : Mode) (s : EventStep) (p : Place) (d at : ℕ) (v w : Machine) → loads s ≡ true → IsStep mode p s → at + size s < 2 ^ 31 → v.rip ≡ at → IsFixed v.mem at (spelling (fields_of s p d))
    → StepIn mode v w → HasOperands v (at + size s) (op_of s p d (at + size s)) × (w ≡ after_step s p d (at + size s) v)
claim_tells Alone (Claim k) p d at v w o h l r c st = absurd h
claim_tells Shared (Claim k) (Below b) d at v w o h l r c st = absurd h
claim_tells Shared (Claim k) (At a) d at v w o h l r c st =
    let q = claim_told v (four a) (at + 9) refl (there k a d at v l r c) (next_there k a d at v l r c) w st in (q.0, q.1 ∙ claimed_is k a d at v l r c)
claim_tells mode s p d at v w o h l r c st = absurd (false≢true o)

-- where it stands and has its operands a machine makes this step,
pub makes : (mode : Mode) (s : EventStep) (p : Place) (d at : ℕ) (v : Machine) → IsStep mode p s → at + size s < 2 ^ 31 → v.rip ≡ at → IsFixed v.mem at (spelling (fields_of s p d))
    → HasOperands v (at + size s) (op_of s p d (at + size s)) → StepIn mode v (after_step s p d (at + size s) v)
makes mode s p d at v k l r c h = by_loads (loads s) refl
  where
    plain : (mode : Mode) → loads s ≡ false → IsStep mode p s → StepIn mode v (after_op v (at + size s) (op_of s p d (at + size s)))
    plain Alone o k =
        let f = fields_of s p d in
        let q = spelled_long s p d in
        let next = at + length (spelling f) in
        subst (λ (z : ℕ). HasOperands v z (op_of s p d z) → StepIn Alone v (after_op v z (op_of s p d z))) (ap (λ z. at + z) q)
        (λ x. op_step v at f (op_of s p d next) (is_step Alone s p d k) (omega (arith, l, q)) r c (made Alone s p d next o k).insn x (defined s p d next v.core _)) h
    plain Shared o k = (fields_of s p d, known_step v (fields_of s p d) (at + size s) (op_of s p d (at + size s)) (known s p d at v o k l r c) h)

    by_loads : (b : Bool) → loads s ≡ b → StepIn mode v (after_step s p d (at + size s) v)
    by_loads false o = subst (StepIn mode v) (sym (plain_after s p d (at + size s) v o)) (plain mode o k)
    by_loads true o = claims mode s p d at v o k l r c h

-- and each step that it makes is this one
pub tells : (mode : Mode) (s : EventStep) (p : Place) (d at : ℕ) (v w : Machine) → IsStep mode p s → at + size s < 2 ^ 31 → v.rip ≡ at → IsFixed v.mem at (spelling (fields_of s p d))
    → StepIn mode v w → HasOperands v (at + size s) (op_of s p d (at + size s)) × (w ≡ after_step s p d (at + size s) v)
tells mode s p d at v w k l r c st = by_loads (loads s) refl
  where
    plain : (mode : Mode) → loads s ≡ false → IsStep mode p s → StepIn mode v w → HasOperands v (at + size s) (op_of s p d (at + size s)) × (w ≡ after_op v (at + size s) (op_of s p d (at + size s)))
    plain Alone o k st =
        let f = fields_of s p d in
        let q = spelled_long s p d in
        let n = next_is v at f (omega (arith, l, q)) r ∙ ap (λ z. at + z) q in
        let e = one_instruction v st.0 f st.1.at (is_at v at f (is_step Alone s p d k) r c) in
        let by = subst (λ (g : Fields). StepsBy nowhere g v w) e st.1 in
        subst (λ (z : ℕ). HasOperands v z (op_of s p d z) × (w ≡ after_op v z (op_of s p d z))) n
        (told nowhere v w f (op_of s p d (next_after v.rip f)) (made Alone s p d (next_after v.rip f) o k).insn (defined s p d (next_after v.rip f) v.core) by)
    plain Shared o k st = known_told v (fields_of s p d) (at + size s) (op_of s p d (at + size s)) (known s p d at v o k l r c) w st

    by_loads : (b : Bool) → loads s ≡ b → HasOperands v (at + size s) (op_of s p d (at + size s)) × (w ≡ after_step s p d (at + size s) v)
    by_loads false o = let q = plain mode o k st in (q.0, q.1 ∙ sym (plain_after s p d (at + size s) v o))
    by_loads true o = claim_tells mode s p d at v w o k l r c st
