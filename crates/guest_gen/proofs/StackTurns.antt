-- The turns of instructions that change the stack or go elsewhere.
use Rattle.std.proofs.Common.{◌≡◌, ℕ, ◌+◌, ◌*◌, ◌%◌, ◌^◌, ◌<◌, ◌≤◌, Bool, true, false, cond, List, [], ◌∷◌, ◌++◌, length, Some, None, refl, sym, ◌∙◌, subst, arith, length-append}
use Rattle.std.specs.Prelude.{unwrap_or}
use Rattle.pun_base.specs.Memory.{Bytes}
use Rattle.cpu_state.specs.Bytes.{number_at, put_list, bytes_of}
use Rattle.cpu_state.specs.Fixed.{IsFixed}
use Rattle.cpu_state.proofs.Readback.{read_back}
use Rattle.length_decode.specs.declared.escape_bytes.Escape.TheVariants.{OneByte}
use Rattle.length_decode.specs.Spelling.{Fields, IsInstruction}
use Rattle.insn_form.specs.declared.form.Spot.TheVariants.{Reg}
use Rattle.insn_form.specs.declared.form.Value.TheVariants as value
use Rattle.insn_form.specs.declared.form.Target.TheVariants.{Rel, Through}
use Rattle.insn_form.specs.declared.form.Op.TheVariants as op
use Rattle.insn_form.specs.declared.form.Op.TheVariants.{Push, Pop, Call, Jmp, Jcc}
use Rattle.insn_form.specs.Operands.{word_of}
use Rattle.insn_form.specs.Classes.{template}
use Rattle.insn_form.specs.Conditions.{is_met}
use Rattle.insn_form.specs.Filling.{filled, integer_of}
use Rattle.insn_form.specs.Resolving.{absolute}
use Rattle.insn_form.specs.Moved.{rel_bytes}
use Rattle.insn_form.specs.Meaning.{effect}
use Rattle.insn_form.specs.Exactly.{after_op}
use Rattle.insn_form.proofs.TaskCopies.{names_it}
use Rattle.relocate_insn.proofs.FixedCode.{fixed_front, fixed_back, next_address}
use Rattle.relocate_insn.proofs.PieceSteps.{absolute_word}
use Rattle.guest_gen.specs.declared.instruction.GuestInsn.{GuestInsn}
use Rattle.guest_gen.specs.declared.instruction.GuestInsn.TheVariants.{PushRax, PopRax, JeOverInc, IncRdx, CallRet, CallRsi, JmpBack}
use Rattle.guest_gen.specs.Instructions.{text_start, blocks_start, stack_top}
use Rattle.guest_gen.specs.Texts.{text_from}
use Rattle.guest_gen.specs.Running.{StandsAt, AtInsn, AtPop, AtRet, is_tail, one_pushed}
use Rattle.guest_gen.proofs.GuestTurns.{Loose, Keeps, Turn, HasTurn, guest_at, data_free, stands_behind, op_turn}

-- a text below the page of data doesn't come round
low : (rip n : ℕ) (bs ts : List ℕ) → length bs ≡ n → rip + length (bs ++ ts) ≤ 0x600000 → rip + n < 2 ^ 31
low rip n bs ts e l = let a = length-append bs ts in omega arith

-- PUSH rax
abbrev pub push_fields : Fields
push_fields = record { prefixes = []; escape = OneByte; opcode = 0x50; modrm = None; sib = None; disp = []; imm = [] }

-- PUSH rax is an instruction
pub push_is : IsInstruction push_fields
push_is = record {
  formed = record { prefixes = refl; escape = refl; opcode = refl; known = refl; modrm = refl; operand = refl; imm = refl };
  short = omega arith;
}

-- PUSH rax has a turn, with an empty stack and a pop behind it
pub push_turn : (x : Loose) (rip : ℕ) (m : Bytes) → Keeps m → (is : List GuestInsn) → is_tail true is ≡ true
    → IsFixed m rip (text_from rip (PushRax ∷ is)) → rip + length (text_from rip (PushRax ∷ is)) ≤ 0x600000
    → Turn (guest_at stack_top x rip m [])
unfolding template filled effect
push_turn x rip m k is h c l =
    let b = low rip 1 (0x50 ∷ []) (text_from (rip + 1) is) refl l in
    op_turn stack_top x rip m k push_fields push_is (omega arith) (fixed_front m rip (0x50 ∷ []) (text_from (rip + 1) is) c)
    (Push (value.Spot (Reg 0))) refl (record { read = refl; write = (data_free m one_pushed 8 k (omega arith) (omega arith)).0 }) refl
    (λ on. AtPop (record { rax = _; rcx = _; rdx = _; rbx = _; behind = x.behind; regs = refl })
    (on true (rip + 1) (stands_behind true is rip (0x50 ∷ []) m h c l)))

-- POP rax
abbrev pub pop_fields : Fields
pop_fields = record { prefixes = []; escape = OneByte; opcode = 0x58; modrm = None; sib = None; disp = []; imm = [] }

-- POP rax is an instruction
pub pop_is : IsInstruction pop_fields
pop_is = record {
  formed = record { prefixes = refl; escape = refl; opcode = refl; known = refl; modrm = refl; operand = refl; imm = refl };
  short = omega arith;
}

-- POP rax has a turn, where one entry lies on the stack
pub pop_turn : (x : Loose) (rip : ℕ) (m : Bytes) → Keeps m → (is : List GuestInsn) → is_tail false is ≡ true
    → IsFixed m rip (text_from rip (PopRax ∷ is)) → rip + length (text_from rip (PopRax ∷ is)) ≤ 0x600000
    → Turn (guest_at one_pushed x rip m [])
unfolding template filled effect
pop_turn x rip m k is h c l =
    let b = low rip 1 (0x58 ∷ []) (text_from (rip + 1) is) refl l in
    op_turn one_pushed x rip m k pop_fields pop_is (omega arith) (fixed_front m rip (0x58 ∷ []) (text_from (rip + 1) is) c)
    (Pop (Reg 0)) refl (record { read = (data_free m one_pushed 8 k (omega arith) (omega arith)).1; write = refl }) refl
    (λ on. AtInsn (record { rax = _; rcx = _; rdx = _; rbx = _; behind = x.behind; regs = refl })
    (on false (rip + 1) (stands_behind false is rip (0x58 ∷ []) m h c l)))

-- RET
abbrev pub ret_fields : Fields
ret_fields = record { prefixes = []; escape = OneByte; opcode = 0xc3; modrm = None; sib = None; disp = []; imm = [] }

-- RET is an instruction
pub ret_is : IsInstruction ret_fields
ret_is = record {
  formed = record { prefixes = refl; escape = refl; opcode = refl; known = refl; modrm = refl; operand = refl; imm = refl };
  short = omega arith;
}

-- RET has a turn, where the address of instructions lies on the stack
pub ret_turn : (x : Loose) (m : Bytes) → Keeps m → StandsAt false (number_at m one_pushed 8) m
    → Turn (guest_at one_pushed x text_start m [])
unfolding template filled effect
ret_turn x m k s =
    op_turn one_pushed x text_start m k ret_fields ret_is (omega arith) k.ret
    (op.Ret 0) refl (record { read = (data_free m one_pushed 8 k (omega arith) (omega arith)).1; write = refl }) refl
    (λ on. AtInsn (record { rax = _; rcx = _; rdx = _; rbx = _; behind = x.behind; regs = refl }) (on false (number_at m one_pushed 8) s))

-- the address behind a call lies on the stack
back : (m : Bytes) (next : ℕ) → Keeps m → next < 2 ^ 31 → number_at (put_list m one_pushed (bytes_of 8 next)) one_pushed 8 ≡ next
back m next k l =
    read_back m 2 one_pushed 8 next (omega arith) (omega arith) (data_free m one_pushed 8 k (omega arith) (omega arith)).0
    ∙ (let e : next % 2 ^ (8 * 8) ≡ next = omega arith in e)

-- where a branch leads that names a target
pub leads_to : (next target : ℕ) → next < 2 ^ 31 → target < 2 ^ 31 → word_of (absolute next (integer_of (rel_bytes next target))) ≡ target
leads_to next target l k = absolute_word next (integer_of (rel_bytes next target)) ∙ names_it next target l k

-- CALL rel32 to the ret
abbrev pub call_fields : ℕ → Fields
call_fields rip = record {
  prefixes = [];
  escape = OneByte;
  opcode = 0xe8;
  modrm = None;
  sib = None;
  disp = [];
  imm = rel_bytes
      (rip + 5) text_start;
}

-- CALL rel32 is an instruction
pub call_is : (rip : ℕ) → IsInstruction (call_fields rip)
call_is rip = record {
  formed = record { prefixes = refl; escape = refl; opcode = refl; known = refl; modrm = refl; operand = refl; imm = refl };
  short = omega arith;
}

-- CALL rel32 to the ret has a turn
pub call_turn : HasTurn CallRet
unfolding template filled effect
call_turn x rip m k is h c l =
    let bytes : List ℕ = 0xe8 ∷ rel_bytes (rip + 5) text_start in
    let b = low rip 5 bytes (text_from (rip + 5) is) refl l in
    let z = absolute (rip + 5) (integer_of (rel_bytes (rip + 5) text_start)) in
    let t = after_op (guest_at stack_top x rip m []) (rip + 5) (Call (Rel z)) in
    let behind = stands_behind false is rip bytes m h c l in
    op_turn stack_top x rip m k (call_fields rip) (call_is rip) (omega arith) (fixed_front m rip bytes (text_from (rip + 5) is) c)
    (Call (Rel z)) refl (record { read = refl; write = (data_free m one_pushed 8 k (omega arith) (omega arith)).0 }) refl
    (λ on. AtRet (record { rax = _; rcx = _; rdx = _; rbx = _; behind = x.behind; regs = refl })
    (leads_to (rip + 5) text_start b (omega arith))
    (subst (λ (a : ℕ). StandsAt false a t.mem) (sym (back m (rip + 5) k b)) (on false (rip + 5) behind)))

-- CALL rsi
abbrev pub call_rsi_fields : Fields
call_rsi_fields = record { prefixes = []; escape = OneByte; opcode = 0xff; modrm = Some 0xd6; sib = None; disp = []; imm = [] }

-- CALL rsi is an instruction
pub call_rsi_is : IsInstruction call_rsi_fields
call_rsi_is = record {
  formed = record { prefixes = refl; escape = refl; opcode = refl; known = refl; modrm = refl; operand = (refl, refl); imm = refl };
  short = omega arith;
}

-- CALL rsi, which holds the ret's address, has a turn
pub call_rsi_turn : HasTurn CallRsi
unfolding template filled effect
call_rsi_turn x rip m k is h c l =
    let bytes : List ℕ = 0xff ∷ 0xd6 ∷ [] in
    let b = low rip 2 bytes (text_from (rip + 2) is) refl l in
    let t = after_op (guest_at stack_top x rip m []) (rip + 2) (Call (Through (Reg 6))) in
    let behind = stands_behind false is rip bytes m h c l in
    op_turn stack_top x rip m k call_rsi_fields call_rsi_is (omega arith) (fixed_front m rip bytes (text_from (rip + 2) is) c)
    (Call (Through (Reg 6))) refl (record { read = refl; write = (data_free m one_pushed 8 k (omega arith) (omega arith)).0 }) refl
    (λ on. AtRet (record { rax = _; rcx = _; rdx = _; rbx = _; behind = x.behind; regs = refl }) refl
    (subst (λ (a : ℕ). StandsAt false a t.mem) (sym (back m (rip + 2) k b)) (on false (rip + 2) behind)))

-- JMP rel32 to the first block
abbrev pub jump_fields : ℕ → Fields
jump_fields rip = record {
  prefixes = [];
  escape = OneByte;
  opcode = 0xe9;
  modrm = None;
  sib = None;
  disp = [];
  imm = rel_bytes
      (rip + 5) blocks_start;
}

-- JMP rel32 is an instruction
pub jump_is : (rip : ℕ) → IsInstruction (jump_fields rip)
jump_is rip = record {
  formed = record { prefixes = refl; escape = refl; opcode = refl; known = refl; modrm = refl; operand = refl; imm = refl };
  short = omega arith;
}

-- JMP rel32 to the first block has a turn, whatever stands behind it
pub jump_turn : (x : Loose) (rip : ℕ) (m : Bytes) → Keeps m → (is : List GuestInsn)
    → IsFixed m rip (text_from rip (JmpBack ∷ is)) → rip + length (text_from rip (JmpBack ∷ is)) ≤ 0x600000
    → Turn (guest_at stack_top x rip m [])
unfolding template filled effect
jump_turn x rip m k is c l =
    let bytes : List ℕ = 0xe9 ∷ rel_bytes (rip + 5) blocks_start in
    let b = low rip 5 bytes (text_from (rip + 5) is) refl l in
    let z = absolute (rip + 5) (integer_of (rel_bytes (rip + 5) blocks_start)) in
    let t = after_op (guest_at stack_top x rip m []) (rip + 5) (Jmp (Rel z)) in
    op_turn stack_top x rip m k (jump_fields rip) (jump_is rip) (omega arith) (fixed_front m rip bytes (text_from (rip + 5) is) c)
    (Jmp (Rel z)) refl (record { read = refl; write = refl }) refl
    (λ on. AtInsn (record { rax = _; rcx = _; rdx = _; rbx = _; behind = x.behind; regs = refl })
    (subst (λ (a : ℕ). StandsAt false a t.mem) (sym (leads_to (rip + 5) blocks_start b (omega arith))) (on false blocks_start k.blocks)))

-- JE over the three bytes of INC rdx
abbrev pub je_fields : Fields
je_fields = record { prefixes = []; escape = OneByte; opcode = 0x74; modrm = None; sib = None; disp = []; imm = 0x03 ∷ [] }

-- JE over three bytes is an instruction
pub je_is : IsInstruction je_fields
je_is = record {
  formed = record { prefixes = refl; escape = refl; opcode = refl; known = refl; modrm = refl; operand = refl; imm = refl };
  short = omega arith;
}

-- over the next instruction, or to it
either : (b : Bool) (next far : ℕ) (m : Bytes) → StandsAt false next m → StandsAt false far m
    → StandsAt false (unwrap_or (cond b (Some far) None) next) m
either true next far m s t = t
either false next far m s t = s

-- JE over INC rdx has a turn, whether it jumps or not
pub je_turn : (x : Loose) (rip : ℕ) (m : Bytes) → Keeps m → (is : List GuestInsn) → is_tail false is ≡ true
    → IsFixed m rip (text_from rip (JeOverInc ∷ IncRdx ∷ is)) → rip + length (text_from rip (JeOverInc ∷ IncRdx ∷ is)) ≤ 0x600000
    → Turn (guest_at stack_top x rip m [])
unfolding template filled effect
je_turn x rip m k is h c l =
    let bytes : List ℕ = 0x74 ∷ 0x03 ∷ [] in
    let inc : List ℕ = 0x48 ∷ 0xff ∷ 0xc2 ∷ [] in
    let next = rip + 2 in
    let b = low rip 2 bytes (text_from next (IncRdx ∷ is)) refl l in
    let one = stands_behind false (IncRdx ∷ is) rip bytes m h c l in
    let sum = length-append bytes (text_from next (IncRdx ∷ is)) in
    let code = fixed_back m rip bytes (text_from next (IncRdx ∷ is)) (omega arith) c in
    let two = stands_behind false is next inc m h code (omega arith) in
    let z = absolute next (integer_of (0x03 ∷ [])) in
    let far : word_of z ≡ next + 3 = absolute_word next (integer_of (0x03 ∷ [])) ∙ next_address next 3 (omega arith) in
    op_turn stack_top x rip m k je_fields je_is (omega arith) (fixed_front m rip bytes (text_from next (IncRdx ∷ is)) c)
    (Jcc 4 z) refl (record { read = refl; write = refl }) refl
    (λ on. AtInsn (record { rax = _; rcx = _; rdx = _; rbx = _; behind = x.behind; regs = refl })
    (either (is_met 4 x.flags) next (word_of z) m one (subst (λ (a : ℕ). StandsAt false a m) (sym far) two)))
