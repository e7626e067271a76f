-- What rax holds along an event that keeps a ring: 1 in front of LOCK XADD, and the number of a slot behind MOVZX.
use Rattle.std.proofs.Common.{◌≡◌, ◌⊎◌, inl, inr, ℕ, zero, suc, ◌+◌, ◌%◌, ◌^◌, ◌<◌, ◌≤◌, Bool, true, false, not, eqb, List, [], ◌∷◌, length, drop, refl, sym, ap, ◌∙◌, subst, arith}
use Rattle.std.specs.Prelude.{if◌then◌else◌, slice_index}
use Rattle.std.proofs.lemmas.List.{get_or-set_same, length-set}
use Rattle.pun_base.specs.Memory.{Bytes}
use Rattle.cpu_state.specs.declared.state.Core.{Core}
use Rattle.cpu_state.specs.Bytes.{number_at}
use Rattle.insn_form.specs.Operands.{reg, rax}
use Rattle.insn_form.specs.Conditions.{is_met}
use Rattle.insn_form.specs.Meaning.{effect}
use Rattle.event_steps.specs.declared.step.Datum.{Datum}
use Rattle.event_steps.specs.declared.step.EventStep.{EventStep}
use Rattle.event_steps.specs.declared.step.EventStep.TheVariants.{Store, Load, LoadLow, Keep, Give, Raise, SetLow, NextLow, Reduce, Claim, IntoAh, IntoAl, FromAl}
use Rattle.event_steps.specs.MadeSteps.{skipped}
use Rattle.event_steps.specs.DoneSteps.{Local, started, done, core_done, Hold}
use Rattle.event_steps.specs.Interleaved.{Meanwhile, Reaches}
use Rattle.thread_runs.specs.ThreadCode.{position_at}
use Rattle.thread_runs.specs.ThreadLists.{thread_ring_list}
use Rattle.thread_runs.proofs.RestoredRings.{same_head}
use Rattle.thread_runs.proofs.SiteEventsGoOn.{ends_with, drop_long}

-- no step adds a register or takes one away
done_count : (s : EventStep) (x : ℕ) (c : Core) → length (core_done s x c).regs ≡ length c.regs
unfolding effect is_met
done_count (Load k) x c = length-set c.regs 0 _
done_count (LoadLow k) x c = length-set c.regs 0 _
done_count (Keep r) x c = length-set c.regs r _
done_count (Give r) x c = length-set c.regs 0 _
done_count Raise x c = length-set c.regs 0 _
done_count (SetLow n) x c = length-set c.regs 0 _
done_count NextLow x c = length-set c.regs 0 _
done_count (Reduce true) x c = length-set c.regs 0 _
done_count (Reduce false) x c = length-set c.regs 0 _
done_count (Claim k) x c = length-set c.regs 0 _
done_count IntoAh x c = length-set c.regs 0 _
done_count IntoAl x c = length-set c.regs 0 _
done_count FromAl x c = length-set c.regs 0 _
done_count s x c = refl

-- so a thread in an event has as many as where it came
pub reaches_count : (ds : List Datum) (k : ℕ) (ss rest : List EventStep) (l l' : Local) → Reaches ds k ss rest l l' → length l'.core.regs ≡ length l.core.regs
reaches_count ds zero [] rest l l' h = ap (λ (z : Core). length z.regs) h.1.0
reaches_count ds (suc k) [] rest l l' h = ap (λ (z : Core). length z.regs) h.1.0
reaches_count ds (suc k) (s ∷ ss) rest l l' h = reaches_count ds k ss rest l l' h
reaches_count ds zero (s ∷ ss) rest l l' (inl h) = ap (λ (z : Core). length z.regs) h.1.0
reaches_count ds zero (s ∷ ss) rest l l' (inr h) =
    reaches_count ds (skipped s h.0.core) ss rest (done s h.0) l' h.2 ∙ done_count s (slice_index h.0.held _) h.0.core ∙ ap (λ (z : Core). length z.regs) h.1.0

-- a thread in front of one more step than these isn't in front of some of them
no_more : (ds : List Datum) (k : ℕ) (t : EventStep) (ss : List EventStep) (l l' : Local) → Reaches ds k ss (t ∷ ss) l l' → ⊥
no_more ds k t ss l l' h =
    let e = ends_with ds k ss (t ∷ ss) l l' h in
    let a = (drop_long e.0 ss).1 in
    let b = ap length e.1 in
    omega (arith, a, b)

-- in front of LOCK XADD rax is 1
module _ (n p i : ℕ) (tail : List EventStep) (c : Core) (l : Local) where
  abbrev us : List Datum
  us = (thread_ring_list n p i).uses

  other : (t : EventStep) (ss : List EventStep) (m : Local) → (Claim 2 ≡ t → ⊥) → Reaches us 0 (t ∷ ss) (Claim 2 ∷ tail) m l
      → ((m' : Local) → Reaches us (skipped t m'.core) ss (Claim 2 ∷ tail) (done t m') l → reg l.core rax ≡ 1) → reg l.core rax ≡ 1
  other t ss m differs (inl h) go = absurd (differs (same_head (Claim 2) t tail ss h.0))
  other t ss m differs (inr h) go = go h.0 h.2

  at_claim : (m : Local) → length (done (SetLow 1) m).core.regs ≡ 16 → Reaches us 0 (Claim 2 ∷ tail) (Claim 2 ∷ tail) (done (SetLow 1) m) l → reg l.core rax ≡ 1
  at_claim m k (inl h) = ap (λ (z : Core). reg z rax) h.1.0 ∙ get_or-set_same m.core.regs 0 1 0 (let z = length-set m.core.regs 0 1 in omega (arith, k, z))
  at_claim m k (inr h) = absurd (no_more us (skipped (Claim 2) h.0.core) (Claim 2) tail (done (Claim 2) h.0) l h.2)

  pub one_at_claim : (began : List ℕ) → length c.regs ≡ 16 → Reaches us 0 (Store 0 ∷ IntoAh ∷ IntoAl ∷ Store 1 ∷ SetLow 1 ∷ Claim 2 ∷ tail) (Claim 2 ∷ tail) (started c began) l → reg l.core rax ≡ 1
  one_at_claim began k h =
      let all = reaches_count us 0 (Store 0 ∷ IntoAh ∷ IntoAl ∷ Store 1 ∷ SetLow 1 ∷ Claim 2 ∷ tail) (Claim 2 ∷ tail) (started c began) l h in
      other (Store 0) (IntoAh ∷ IntoAl ∷ Store 1 ∷ SetLow 1 ∷ Claim 2 ∷ tail) (started c began) (λ e. absurd cc) h (λ m1 r1.
      other IntoAh (IntoAl ∷ Store 1 ∷ SetLow 1 ∷ Claim 2 ∷ tail) (done (Store 0) m1) (λ e. absurd cc) r1 (λ m2 r2.
      other IntoAl (Store 1 ∷ SetLow 1 ∷ Claim 2 ∷ tail) (done IntoAh m2) (λ e. absurd cc) r2 (λ m3 r3.
      other (Store 1) (SetLow 1 ∷ Claim 2 ∷ tail) (done IntoAl m3) (λ e. absurd cc) r3 (λ m4 r4.
      other (SetLow 1) (Claim 2 ∷ tail) (done (Store 1) m4) (λ e. absurd cc) r4 (λ m5 r5.
      at_claim m5 (sym (reaches_count us 0 (Claim 2 ∷ tail) (Claim 2 ∷ tail) (done (SetLow 1) m5) l r5) ∙ all ∙ k) r5)))))

-- the number of the position
pub position_held : (n p i : ℕ) (c : Core) (m : Bytes) (xs : List ℕ) → Hold (thread_ring_list n p i).uses c m xs → slice_index xs 2 ≡ number_at m (position_at p) 4
position_held n p i c m [] h = absurd h
position_held n p i c m (x ∷ []) h = absurd h.1
position_held n p i c m (x ∷ y ∷ []) h = absurd h.1.1
position_held n p i c m (x ∷ y ∷ z ∷ zs) h = sym (h.1.1.0 refl)

-- MOVZX leaves the number of a slot
pub reduces_to : (t : Bool) (y n : ℕ) (d : Core) → length d.regs ≡ 16 → n ≡ (if t then 65536 else 256) → reg (core_done (Reduce t) y d) rax ≡ reg d rax % n
reduces_to true y n d l k = get_or-set_same d.regs 0 (reg d rax % 2 ^ 16) 0 (omega (arith, l)) ∙ ap (λ z. reg d rax % z) (sym k)
reduces_to false y n d l k = get_or-set_same d.regs 0 (reg d rax % 2 ^ 8) 0 (omega (arith, l)) ∙ ap (λ z. reg d rax % z) (sym k)
