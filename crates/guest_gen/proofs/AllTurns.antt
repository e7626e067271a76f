-- Each state of a guest has a turn.
use Rattle.std.proofs.Common.{◌≡◌, ℕ, ◌+◌, ◌≤◌, true, false, List, [], ◌∷◌, length, sym, subst}
use Rattle.pun_base.specs.Memory.{Bytes}
use Rattle.cpu_state.specs.declared.state.Core.{Core}
use Rattle.cpu_state.specs.declared.state.State.{State}
use Rattle.cpu_state.specs.Fixed.{IsFixed}
use Rattle.cpu_step.specs.Stepping.{machine_of}
use Rattle.guest_gen.specs.declared.instruction.GuestInsn.{GuestInsn}
use Rattle.guest_gen.specs.declared.instruction.GuestInsn.TheVariants.{Ret, MovRaxRbx, AddRbxRax, MovEax, AddRbx, AddRcxOne, PushRax, PopRax, CmpRaxRbx, JeOverInc, IncRdx, LoadRax, StoreRax, CallRet, LeaData, XorRaxRcx, Nop, Cpuid, LeaRcx, CallRsi, JmpBack}
use Rattle.guest_gen.specs.Instructions.{text_start, stack_top}
use Rattle.guest_gen.specs.Texts.{text_from}
use Rattle.guest_gen.specs.Running.{HasRegs, Place, AtInsn, AtPop, AtRet, CanRun, is_tail, one_pushed}
use Rattle.guest_gen.proofs.GuestTurns.{Loose, Keeps, Turn, guest_at, core_at, kept_in}
use Rattle.guest_gen.proofs.PlainTurns.{mov_rax_rbx_turn, add_rbx_rax_turn, mov_eax_turn, add_rbx_turn, add_rcx_one_turn, cmp_rax_rbx_turn, inc_rdx_turn, load_rax_turn, store_rax_turn, lea_data_turn, do_nothing_turn, lea_rcx_turn}
use Rattle.guest_gen.proofs.AskedTurns.{xor_turn, cpuid_turn}
use Rattle.guest_gen.proofs.StackTurns.{push_turn, pop_turn, ret_turn, call_turn, call_rsi_turn, jump_turn, je_turn}

-- behind the branch stands the instruction that it skips
over_turn : (x : Loose) (rip : ℕ) (m : Bytes) → Keeps m → (is : List GuestInsn) → is_tail false (JeOverInc ∷ is) ≡ true
    → IsFixed m rip (text_from rip (JeOverInc ∷ is)) → rip + length (text_from rip (JeOverInc ∷ is)) ≤ 0x600000
    → Turn (guest_at stack_top x rip m [])
over_turn x rip m k [] h c l = absurd cc
over_turn x rip m k (IncRdx ∷ is) h c l = je_turn x rip m k is h c l
over_turn x rip m k (i ∷ is) h c l = absurd cc

-- with an empty stack
insn_turn : (x : Loose) (rip : ℕ) (m : Bytes) → Keeps m → (is : List GuestInsn) → is_tail false is ≡ true
    → IsFixed m rip (text_from rip is)
    → rip + length (text_from rip is) ≤ 0x600000 → Turn (guest_at stack_top x rip m [])
insn_turn x rip m k [] h c l = absurd cc
insn_turn x rip m k (Ret ∷ is) h c l = absurd cc
insn_turn x rip m k (PopRax ∷ is) h c l = absurd cc
insn_turn x rip m k (MovRaxRbx ∷ is) h c l = mov_rax_rbx_turn x rip m k is h c l
insn_turn x rip m k (AddRbxRax ∷ is) h c l = add_rbx_rax_turn x rip m k is h c l
insn_turn x rip m k (MovEax n ∷ is) h c l = mov_eax_turn n x rip m k is h c l
insn_turn x rip m k (AddRbx n ∷ is) h c l = add_rbx_turn n x rip m k is h c l
insn_turn x rip m k (AddRcxOne ∷ is) h c l = add_rcx_one_turn x rip m k is h c l
insn_turn x rip m k (PushRax ∷ is) h c l = push_turn x rip m k is h c l
insn_turn x rip m k (CmpRaxRbx ∷ is) h c l = cmp_rax_rbx_turn x rip m k is h c l
insn_turn x rip m k (JeOverInc ∷ is) h c l = over_turn x rip m k is h c l
insn_turn x rip m k (IncRdx ∷ is) h c l = inc_rdx_turn x rip m k is h c l
insn_turn x rip m k (LoadRax ∷ is) h c l = load_rax_turn x rip m k is h c l
insn_turn x rip m k (StoreRax ∷ is) h c l = store_rax_turn x rip m k is h c l
insn_turn x rip m k (CallRet ∷ is) h c l = call_turn x rip m k is h c l
insn_turn x rip m k (LeaData ∷ is) h c l = lea_data_turn x rip m k is h c l
insn_turn x rip m k (XorRaxRcx ∷ is) h c l = xor_turn x rip m k is h c l
insn_turn x rip m k (Nop ∷ is) h c l = do_nothing_turn x rip m k is h c l
insn_turn x rip m k (Cpuid ∷ is) h c l = cpuid_turn x rip m k is h c l
insn_turn x rip m k (LeaRcx ∷ is) h c l = lea_rcx_turn x rip m k is h c l
insn_turn x rip m k (CallRsi ∷ is) h c l = call_rsi_turn x rip m k is h c l
insn_turn x rip m k (JmpBack ∷ is) h c l = jump_turn x rip m k is c l

-- behind a push
popped_turn : (x : Loose) (rip : ℕ) (m : Bytes) → Keeps m → (is : List GuestInsn) → is_tail true is ≡ true
    → IsFixed m rip (text_from rip is)
    → rip + length (text_from rip is) ≤ 0x600000 → Turn (guest_at one_pushed x rip m [])
popped_turn x rip m k [] h c l = absurd cc
popped_turn x rip m k (PopRax ∷ is) h c l = pop_turn x rip m k is h c l
popped_turn x rip m k (i ∷ is) h c l = absurd cc

-- the registers that a guest may change
abbrev loose_of : (sp : ℕ) (c : Core) → HasRegs sp c → Loose
loose_of sp c h = record { rax = h.rax; rcx = h.rcx; rdx = h.rdx; rbx = h.rbx; behind = h.behind; flags = c.flags; fs = c.fs; gs = c.gs }

-- the registers are those
core_is : (sp : ℕ) (c : Core) (h : HasRegs sp c) → core_at sp (loose_of sp c h) ≡ c
core_is sp c h = λ i. record { regs = sym h.regs i; flags = c.flags; fs = c.fs; gs = c.gs }

-- a turn goes over to the registers that are there
with_core : (sp : ℕ) (c : Core) (rip : ℕ) (m : Bytes) (h : HasRegs sp c) → Turn (guest_at sp (loose_of sp c h) rip m [])
    → Turn (record { core = c; rip = rip; mem = m; world = [] })
with_core sp c rip m h t =
    subst (λ (z : Core). Turn (record { core = z; rip = rip; mem = m; world = [] })) (core_is sp c h) t

-- by the place where a guest stands
placed_turn : (c : Core) (rip : ℕ) (m : Bytes) → Keeps m → Place (record { core = c; rip = rip; mem = m; world = [] })
    → Turn (record { core = c; rip = rip; mem = m; world = [] })
placed_turn c rip m k (AtInsn r s) = with_core stack_top c rip m r (insn_turn
    (loose_of stack_top c r) rip m k s.insns s.tail s.code s.low)
placed_turn c rip m k (AtPop r s) = with_core one_pushed c rip m r (popped_turn
    (loose_of one_pushed c r) rip m k s.insns s.tail s.code s.low)
placed_turn c rip m k (AtRet r e s) =
    subst (λ (a : ℕ). Turn (record { core = c; rip = a; mem = m; world = [] })) (sym e)
    (with_core one_pushed c text_start m r (ret_turn (loose_of one_pushed c r) m k s))

-- each state of a guest has a turn
pub turn : (s : State) → CanRun (machine_of s []) → Turn (machine_of s [])
turn s h = let m = machine_of s [] in placed_turn m.core m.rip m.mem (kept_in m h) h.place
