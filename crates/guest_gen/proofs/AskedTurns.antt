-- The turns of instructions that ask: XOR for a flag that it leaves undefined, and CPUID.
use Rattle.std.proofs.Common.{◌≡◌, ℕ, ◌+◌, ◌≤◌, true, false, List, [], ◌∷◌, ◌++◌, length, Some, None, Ok, Err, refl, sym, subst, arith, length-append}
use Rattle.pun_base.specs.Memory.{Bytes}
use Rattle.cpu_state.specs.declared.state.Core.{Core}
use Rattle.cpu_state.specs.declared.world.Entry.{Entry}
use Rattle.cpu_state.specs.Fixed.{IsFixed}
use Rattle.length_decode.specs.declared.escape_bytes.Escape.TheVariants.{OneByte, TwoByte}
use Rattle.length_decode.specs.Spelling.{Fields, IsInstruction, spelling}
use Rattle.insn_form.specs.Classes.{template}
use Rattle.insn_form.specs.Filling.{filled}
use Rattle.insn_form.specs.Meaning.{effect}
use Rattle.insn_form.specs.Machine.{Machine, act}
use Rattle.insn_form.specs.Step.{Step, IsAt, next_after, task_of, question_of}
use Rattle.insn_form.specs.Runs.{nowhere}
use Rattle.cpu_step.specs.declared.stop.Stop.TheVariants.{WorldDiffers}
use Rattle.cpu_step.specs.Stepping.{judgement}
use Rattle.cpu_step.proofs.JudgedSteps.{judged_there}
use Rattle.relocate_insn.proofs.FixedCode.{fixed_front}
use Rattle.relocate_insn.proofs.PieceSteps.{is_at, next_is, step_of}
use Rattle.guest_gen.specs.declared.instruction.GuestInsn.{GuestInsn}
use Rattle.guest_gen.specs.declared.instruction.GuestInsn.TheVariants.{XorRaxRcx, Cpuid}
use Rattle.guest_gen.specs.Instructions.{stack_top}
use Rattle.guest_gen.specs.Texts.{text_from}
use Rattle.guest_gen.specs.Running.{StandsAt, HasRegs, AtInsn, is_tail, blank}
use Rattle.guest_gen.proofs.GuestTurns.{Loose, Keeps, Turn, Asks, HasTurn, guest_at, left, told, stands_behind, goes_on}

-- an instruction that asks, and goes on at the next one by an answer that sets nothing
asked_turn : (x : Loose) (rip : ℕ) (m : Bytes) → Keeps m → (is : List GuestInsn) → is_tail false is ≡ true → (f : Fields)
    → IsFixed m rip (spelling f ++ text_from (rip + length (spelling f)) is)
    → rip + length (spelling f ++ text_from (rip + length (spelling f)) is) ≤ 0x600000
    → IsInstruction f → (d : Core)
    → ((rest : List Entry) → act (task_of f (next_after rip f)) (next_after rip f)
    (guest_at stack_top x rip m (told (question_of f (next_after rip f)) ∷ rest))
    ≡ Ok (record { core = d; rip = next_after rip f; mem = m; world = rest }))
    → (IsAt (guest_at stack_top x rip m (blank ∷ [])) f → judgement (guest_at stack_top x rip m (blank ∷ [])) ≡ Err
    (WorldDiffers rip (question_of f (next_after rip f))))
    → HasRegs stack_top d → Turn (guest_at stack_top x rip m [])
asked_turn x rip m k is h f c l i d acts judged r =
    let t : Machine = record { core = d; rip = next_after rip f; mem = m; world = [] } in
    let bytes = spelling f in
    let next = rip + length bytes in
    let len = length-append bytes (text_from next is) in
    let q = question_of f (next_after rip f) in
    let front = fixed_front m rip bytes (text_from next is) c in
    let at : (rest : List Entry) → IsAt (guest_at stack_top x rip m rest) f = λ rest. is_at
    (guest_at stack_top x rip m rest) rip f i refl front in
    let e : t.rip ≡ next = next_is (guest_at stack_top x rip m []) rip f (omega arith) refl in
    let st : (rest : List Entry) → Step nowhere (guest_at stack_top x rip m (told q ∷ rest)) (left t rest) =
    λ rest. step_of (guest_at stack_top x rip m (told q ∷ rest)) (left t rest) f (at (told q ∷ rest)) (acts rest) in
    let here = stands_behind false is rip bytes m h c l in
    Asks q t (judged (at (blank ∷ []))) st
    (goes_on (guest_at stack_top x rip m (told q ∷ [])) (left t []) (st []) k
    (AtInsn r (subst (λ (a : ℕ). StandsAt false a m) (sym e) here)))

-- XOR rax, rcx: AF is undefined
abbrev pub xor_fields : Fields
xor_fields = record { prefixes = 0x48 ∷ []; escape = OneByte; opcode = 0x31; modrm = Some 0xc8; sib = None; disp = []; imm = [] }

-- XOR rax, rcx is an instruction
pub xor_is : IsInstruction xor_fields
xor_is = record {
  formed = record { prefixes = refl; escape = refl; opcode = refl; known = refl; modrm = refl; operand = (refl, refl); imm = refl };
  short = omega arith;
}

-- XOR rax, rcx has a turn: what it asks is answered by nothing
pub xor_turn : HasTurn XorRaxRcx
unfolding template filled effect
xor_turn x rip m k is h c l =
    asked_turn x rip m k is h xor_fields c l xor_is _ (λ rest. refl) (λ at. judged_there
    (guest_at stack_top x rip m (blank ∷ [])) xor_fields at)
    (record { rax = _; rcx = _; rdx = _; rbx = _; behind = x.behind; regs = refl })

-- CPUID
abbrev pub cpuid_fields : Fields
cpuid_fields = record { prefixes = []; escape = TwoByte; opcode = 0xa2; modrm = None; sib = None; disp = []; imm = [] }

-- CPUID is an instruction
pub cpuid_is : IsInstruction cpuid_fields
cpuid_is = record {
  formed = record { prefixes = refl; escape = refl; opcode = refl; known = refl; modrm = refl; operand = refl; imm = refl };
  short = omega arith;
}

-- CPUID has a turn: what it asks is answered by nothing
pub cpuid_turn : HasTurn Cpuid
unfolding template filled effect
cpuid_turn x rip m k is h c l =
    asked_turn x rip m k is h cpuid_fields c l cpuid_is _ (λ rest. refl)
    (λ at. judged_there (guest_at stack_top x rip m (blank ∷ [])) cpuid_fields at)
    (record { rax = _; rcx = _; rdx = _; rbx = _; behind = _; regs = refl })
