-- Events that count and use five flags or a register.
use Rattle.std.proofs.Common.{◌≡◌, ◌≢◌, ℕ, zero, suc, ◌+◌, ◌*◌, ◌%◌, ◌^◌, ◌<◌, List, [], ◌∷◌, set, refl, sym, ap, ◌∙◌, arith}
use Rattle.std.proofs.lemmas.List.{get_or-set_same, get_or-set_other, set-set, set_comm}
use Rattle.cpu_alu.specs.declared.flag_word.Flags.{Flags}
use Rattle.cpu_alu.specs.declared.operation.Width.TheVariants.{W64}
use Rattle.cpu_alu.specs.declared.operation.AluOp.TheVariants.{Inc}
use Rattle.cpu_alu.specs.Arithmetic.{arithmetic}
use Rattle.cpu_state.specs.declared.state.Core.{Core}
use Rattle.cpu_state.specs.Bytes.{number_at}
use Rattle.cpu_state.specs.Processor.{IsProcessorCore}
use Rattle.pun_base.specs.Memory.{Bytes}
use Rattle.insn_form.specs.declared.form.Op.TheVariants.{Sahf}
use Rattle.insn_form.specs.Operands.{reg, with_reg, with_flags, rax}
use Rattle.insn_form.specs.Conditions.{is_met}
use Rattle.insn_form.specs.Meaning.{effect}
use Rattle.insn_form.specs.FlagsBack.{core_after, add_al, kept_in_ax}
use Rattle.insn_form.proofs.RegisterSizes.{reg_sized}
use Rattle.killing.specs.declared.place.Place.TheVariants.{Register}
use Rattle.killing.specs.Places.{without_six, cleared}
use Rattle.event_steps.specs.declared.step.EventStep.{EventStep}
use Rattle.event_steps.specs.declared.step.EventStep.TheVariants.{Give}
use Rattle.event_steps.specs.DoneSteps.{ended}
use Rattle.event_steps.proofs.FlagsInAx.{reg_other, flags_back, all_back}
use Rattle.trampoline.specs.Recording.{coming}
use Rattle.trampoline.proofs.PlainEvents.{counted}
use Rattle.bare_events.specs.BareLists.{kept_count, register_steps, register_count}
use Rattle.bare_events.specs.BareRunning.{meanwhile, AllChangeLittle, CountsAreBare, RegisterCountsAreBare}

-- INC alone
pub counts_bare : CountsAreBare
counts_bare p i n room = record {
  kills = refl;
  steps = (tt, (omega arith, refl, refl), omega arith, tt);
  laid = ((omega arith, omega (arith, room)), tt);
  fits = λ c m. (tt, tt);
  little = (λ x c. refl, tt);
  restores = λ c m h. refl;
  marked = λ c m bytes h low held. counted p i n m m bytes room low held held;
}

-- another register than rax
other : (q : ℕ) → suc q ≢ 0
other q e = cc

-- meanwhile neither rax nor the register matters
rax_hidden : (r : ℕ) (c : Core) (y : ℕ) → meanwhile (Register r) (with_reg c rax y) ≡ meanwhile (Register r) c
rax_hidden r c y = let q = ap (λ z. set z r 0) (set-set c.regs 0 y 0) in λ j. record { regs = q j; flags = without_six c.flags; fs = c.fs; gs = c.gs }

own_hidden : (q : ℕ) (c : Core) (y : ℕ) → meanwhile (Register (suc q)) (with_reg c (suc q) y) ≡ meanwhile (Register (suc q)) c
own_hidden q c y =
    let e = ap (λ z. set z (suc q) 0) (set_comm c.regs (suc q) 0 y 0 (other q)) ∙ set-set (set c.regs 0 0) (suc q) y 0 in
    λ j. record { regs = e j; flags = without_six c.flags; fs = c.fs; gs = c.gs }

-- so the steps change little
kept_little : (r : ℕ) (rest : List EventStep) → AllChangeLittle (Register r) rest → AllChangeLittle (Register r) (kept_count rest)
unfolding effect is_met
kept_little r rest h = (λ x c. rax_hidden r c _, (λ x c. rax_hidden r c _, (λ x c. refl, (λ x c. rax_hidden r c _, (λ x c. refl, h)))))

steps_little : (r : ℕ) → AllChangeLittle (Register r) (register_steps r)
steps_little zero = kept_little 0 [] tt
steps_little (suc q) = (λ x c. own_hidden q c _, kept_little (suc q) (Give (suc q) ∷ []) (λ x c. rax_hidden (suc q) c _, tt))

-- what a register is set to doesn't matter once it is cleared
over : (r : ℕ) (c : Core) (v : ℕ) → cleared (Register r) (with_reg c r v) ≡ cleared (Register r) c
over r c v = let e = set-set c.regs r v 0 in λ j. record { regs = e j; flags = c.flags; fs = c.fs; gs = c.gs }

-- flags behind INC
abbrev raised_flags : ℕ → Flags → Flags
raised_flags x f = (arithmetic Inc W64 (x % 2 ^ 64) 1 f).flags

-- all comes back but the register
restores : (r p i : ℕ) → r < 16 → (c : Core) (m : Bytes) → IsProcessorCore c
    → cleared (Register r) (ended 0 (register_steps r) (coming (register_count r p i).uses c m)).core ≡ cleared (Register r) c
unfolding effect is_met
restores zero p i k c m h =
    let f = raised_flags (number_at m (p + 64 + 8 * i) 8) (kept_in_ax c).flags in
    let q = flags_back c f h refl in
    ap (cleared (Register 0)) q.1 ∙ over 0 c q.0
restores (suc q) p i k c m h =
    let z = reg c rax % 2 ^ 64 in
    let d = with_reg c (suc q) z in
    let hd = reg_sized c (suc q) z h (omega arith) in
    let f = raised_flags (number_at m (p + 64 + 8 * i) 8) (kept_in_ax d).flags in
    let b = flags_back d f hd refl in
    let e = core_after Sahf 0 (core_after add_al 0 (with_flags (kept_in_ax d) f)) in
    let own : reg e (suc q) ≡ z = ap (λ (y : Core). reg y (suc q)) b.1 ∙ reg_other d q b.0 ∙ get_or-set_same c.regs (suc q) z 0 (omega (arith, h.count, k)) in
    let rax_is : reg d rax ≡ reg c rax = get_or-set_other c.regs (suc q) 0 z 0 (λ e. other q (sym e)) in
    let small = h.small 0 in
    let back : reg e (suc q) % 2 ^ 64 ≡ reg d rax = omega (arith, own, rax_is, small) in
    ap (cleared (Register (suc q))) (all_back d f (reg e (suc q) % 2 ^ 64) hd refl back) ∙ over (suc q) c z

-- INC with the flags kept in a register
pub registers_bare : RegisterCountsAreBare
registers_bare zero p i n k ne room = record {
  kills = refl;
  steps = (tt, tt, omega arith, (tt, tt, omega arith, (tt, (omega arith, refl, refl), omega arith, (tt, tt, omega arith, (tt, tt, omega arith, tt)))));
  laid = ((omega arith, omega (arith, room)), tt);
  fits = λ c m. (tt, (tt, (tt, (tt, (tt, tt)))));
  little = steps_little 0;
  restores = restores 0 p i k;
  marked = λ c m bytes h low held. counted p i n m m bytes room low held held;
}
registers_bare (suc q) p i n k ne room = record {
  kills = refl;
  steps = ((k, ne), tt, omega arith, (tt, tt, omega arith, (tt, tt, omega arith, (tt, (omega arith, refl, refl), omega arith, (tt, tt, omega arith, (tt, tt, omega arith, (k, tt, omega arith, tt)))))));
  laid = ((omega arith, omega (arith, room)), tt);
  fits = λ c m. (tt, (tt, (tt, (tt, (tt, (tt, (tt, tt)))))));
  little = steps_little (suc q);
  restores = restores (suc q) p i k;
  marked = λ c m bytes h low held. counted p i n m m bytes room low held held;
}
