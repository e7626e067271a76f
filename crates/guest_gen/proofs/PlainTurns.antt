-- The turns of instructions that go on at the next one and leave the stack.
use Rattle.std.proofs.Common.{ℕ, ◌+◌, true, false, List, [], ◌∷◌, Option, Some, None, ℤ, refl, arith}
use Rattle.std.specs.Int.{to_le_bytes, w32}
use Rattle.cpu_alu.specs.declared.operation.Width.TheVariants.{W32, W64}
use Rattle.cpu_alu.specs.declared.operation.AluOp.TheVariants.{Add, Sub, Inc}
use Rattle.length_decode.specs.declared.escape_bytes.Escape.TheVariants.{OneByte}
use Rattle.length_decode.specs.Spelling.{Fields, IsInstruction}
use Rattle.length_decode.specs.Forms.{no_operation}
use Rattle.insn_form.specs.declared.form.Seg.TheVariants.{Plain}
use Rattle.insn_form.specs.declared.form.MemForm.{MemForm}
use Rattle.insn_form.specs.declared.form.Spot.TheVariants.{Reg, Mem}
use Rattle.insn_form.specs.declared.form.Value.TheVariants as value
use Rattle.insn_form.specs.declared.form.Op.TheVariants as op
use Rattle.insn_form.specs.declared.form.Op.TheVariants.{Mov, Alu, Lea}
use Rattle.insn_form.specs.Classes.{template}
use Rattle.insn_form.specs.Filling.{filled, integer_of, immediate}
use Rattle.insn_form.specs.Resolving.{absolute}
use Rattle.insn_form.specs.Moved.{rel_bytes}
use Rattle.insn_form.specs.Meaning.{effect}
use Rattle.guest_gen.specs.declared.instruction.GuestInsn.TheVariants.{MovRaxRbx, AddRbxRax, MovEax, AddRbx, AddRcxOne, CmpRaxRbx, IncRdx, LoadRax, StoreRax, LeaData, Nop, LeaRcx}
use Rattle.guest_gen.specs.Instructions.{data_start}
use Rattle.guest_gen.proofs.GuestTurns.{HasTurn, data_free, plain_turn}

-- an instruction with REX.W and a ModRM byte
abbrev rex_insn : ℕ → ℕ → List ℕ → List ℕ → Fields
rex_insn op m d i = record { prefixes = 0x48 ∷ []; escape = OneByte; opcode = op; modrm = Some m; sib = None; disp = d; imm = i }

-- operands: rbp and a displacement, a number, and rcx + rax + 4
abbrev operand : Option ℕ → Option ℕ → ℤ → ℕ → MemForm
operand base index z tail =
    record { base = base; index = index; scale = 1; disp = z; rip = false; seg = Plain; short = false; tail = tail }

abbrev at_rbp : List ℕ → MemForm
at_rbp d = operand (Some 5) None (integer_of d) 2

abbrev at_number : ℤ → MemForm
at_number z = operand None None z 5

abbrev sum_and_four : MemForm
sum_and_four = operand (Some 1) (Some 0) (integer_of (4 ∷ [])) 3

-- MOV rax, rbx
abbrev pub mov_rax_rbx_fields : Fields
mov_rax_rbx_fields = rex_insn 0x89 0xd8 [] []

-- MOV rax, rbx is an instruction
pub mov_rax_rbx_is : IsInstruction mov_rax_rbx_fields
mov_rax_rbx_is = record {
  formed = record { prefixes = refl; escape = refl; opcode = refl; known = refl; modrm = refl; operand = (refl, refl); imm = refl };
  short = omega arith;
}

-- MOV rax, rbx has a turn
pub mov_rax_rbx_turn : HasTurn MovRaxRbx
unfolding template filled effect
mov_rax_rbx_turn x rip m k is h c l =
    plain_turn x rip m k is h mov_rax_rbx_fields c l mov_rax_rbx_is (Mov W64 (Reg 0) (value.Spot (Reg 3))) refl
    (record { read = refl; write = refl }) refl (record { rax = _; rcx = _; rdx = _; rbx = _; behind = x.behind; regs = refl }) refl

-- ADD rbx, rax
abbrev pub add_rbx_rax_fields : Fields
add_rbx_rax_fields = rex_insn 0x01 0xc3 [] []

-- ADD rbx, rax is an instruction
pub add_rbx_rax_is : IsInstruction add_rbx_rax_fields
add_rbx_rax_is = record {
  formed = record { prefixes = refl; escape = refl; opcode = refl; known = refl; modrm = refl; operand = (refl, refl); imm = refl };
  short = omega arith;
}

-- ADD rbx, rax has a turn
pub add_rbx_rax_turn : HasTurn AddRbxRax
unfolding template filled effect
add_rbx_rax_turn x rip m k is h c l =
    plain_turn x rip m k is h add_rbx_rax_fields c l add_rbx_rax_is (Alu Add W64 (Reg 3) (value.Spot (Reg 0)) true) refl
    (record { read = refl; write = refl }) refl (record { rax = _; rcx = _; rdx = _; rbx = _; behind = x.behind; regs = refl }) refl

-- MOV eax, imm32
abbrev pub mov_eax_fields : ℕ → Fields
mov_eax_fields n = record { prefixes = []; escape = OneByte; opcode = 0xb8; modrm = None; sib = None; disp = []; imm = to_le_bytes w32 n }

-- MOV eax, imm32 is an instruction
pub mov_eax_is : (n : ℕ) → IsInstruction (mov_eax_fields n)
mov_eax_is n = record {
  formed = record { prefixes = refl; escape = refl; opcode = refl; known = refl; modrm = refl; operand = refl; imm = refl };
  short = omega arith;
}

-- MOV eax, imm32 has a turn
pub mov_eax_turn : (n : ℕ) → HasTurn (MovEax n)
unfolding template filled effect
mov_eax_turn n x rip m k is h c l =
    plain_turn x rip m k is h (mov_eax_fields n) c l (mov_eax_is n) (Mov W32 (Reg 0) (value.Imm (immediate W32 (to_le_bytes w32 n)))) refl
    (record { read = refl; write = refl }) refl (record { rax = _; rcx = _; rdx = _; rbx = _; behind = x.behind; regs = refl }) refl

-- ADD rbx, imm32
abbrev pub add_rbx_fields : ℕ → Fields
add_rbx_fields n = rex_insn 0x81 0xc3 [] (to_le_bytes w32 n)

-- ADD rbx, imm32 is an instruction
pub add_rbx_is : (n : ℕ) → IsInstruction (add_rbx_fields n)
add_rbx_is n = record {
  formed = record { prefixes = refl; escape = refl; opcode = refl; known = refl; modrm = refl; operand = (refl, refl); imm = refl };
  short = omega arith;
}

-- ADD rbx, imm32 has a turn
pub add_rbx_turn : (n : ℕ) → HasTurn (AddRbx n)
unfolding template filled effect
add_rbx_turn n x rip m k is h c l =
    plain_turn x rip m k is h (add_rbx_fields n) c l (add_rbx_is n) (Alu Add W64 (Reg 3)
    (value.Imm (immediate W64 (to_le_bytes w32 n))) true) refl
    (record { read = refl; write = refl }) refl (record { rax = _; rcx = _; rdx = _; rbx = _; behind = x.behind; regs = refl }) refl

-- ADD rcx, 1
abbrev pub add_rcx_one_fields : Fields
add_rcx_one_fields = rex_insn 0x83 0xc1 [] (0x01 ∷ [])

-- ADD rcx, 1 is an instruction
pub add_rcx_one_is : IsInstruction add_rcx_one_fields
add_rcx_one_is = record {
  formed = record { prefixes = refl; escape = refl; opcode = refl; known = refl; modrm = refl; operand = (refl, refl); imm = refl };
  short = omega arith;
}

-- ADD rcx, 1 has a turn
pub add_rcx_one_turn : HasTurn AddRcxOne
unfolding template filled effect
add_rcx_one_turn x rip m k is h c l =
    plain_turn x rip m k is h add_rcx_one_fields c l add_rcx_one_is (Alu Add W64 (Reg 1) (value.Imm (immediate W64 (1 ∷ []))) true) refl
    (record { read = refl; write = refl }) refl (record { rax = _; rcx = _; rdx = _; rbx = _; behind = x.behind; regs = refl }) refl

-- CMP rax, rbx
abbrev pub cmp_rax_rbx_fields : Fields
cmp_rax_rbx_fields = rex_insn 0x39 0xd8 [] []

-- CMP rax, rbx is an instruction
pub cmp_rax_rbx_is : IsInstruction cmp_rax_rbx_fields
cmp_rax_rbx_is = record {
  formed = record { prefixes = refl; escape = refl; opcode = refl; known = refl; modrm = refl; operand = (refl, refl); imm = refl };
  short = omega arith;
}

-- CMP rax, rbx has a turn
pub cmp_rax_rbx_turn : HasTurn CmpRaxRbx
unfolding template filled effect
cmp_rax_rbx_turn x rip m k is h c l =
    plain_turn x rip m k is h cmp_rax_rbx_fields c l cmp_rax_rbx_is (Alu Sub W64 (Reg 0) (value.Spot (Reg 3)) false) refl
    (record { read = refl; write = refl }) refl (record { rax = _; rcx = _; rdx = _; rbx = _; behind = x.behind; regs = refl }) refl

-- INC rdx
abbrev pub inc_rdx_fields : Fields
inc_rdx_fields = rex_insn 0xff 0xc2 [] []

-- INC rdx is an instruction
pub inc_rdx_is : IsInstruction inc_rdx_fields
inc_rdx_is = record {
  formed = record { prefixes = refl; escape = refl; opcode = refl; known = refl; modrm = refl; operand = (refl, refl); imm = refl };
  short = omega arith;
}

-- INC rdx has a turn
pub inc_rdx_turn : HasTurn IncRdx
unfolding template filled effect
inc_rdx_turn x rip m k is h c l =
    plain_turn x rip m k is h inc_rdx_fields c l inc_rdx_is (Alu Inc W64 (Reg 2) (value.Imm 1) true) refl
    (record { read = refl; write = refl }) refl (record { rax = _; rcx = _; rdx = _; rbx = _; behind = x.behind; regs = refl }) refl

-- MOV rax, [rbp+8]
abbrev pub load_rax_fields : Fields
load_rax_fields = rex_insn 0x8b 0x45 (0x08 ∷ []) []

-- MOV rax, [rbp+8] is an instruction
pub load_rax_is : IsInstruction load_rax_fields
load_rax_is = record {
  formed = record { prefixes = refl; escape = refl; opcode = refl; known = refl; modrm = refl; operand = (refl, refl); imm = refl };
  short = omega arith;
}

-- MOV rax, [rbp+8] has a turn
pub load_rax_turn : HasTurn LoadRax
unfolding template filled effect
load_rax_turn x rip m k is h c l =
    plain_turn x rip m k is h load_rax_fields c l load_rax_is (Mov W64 (Reg 0) (value.Spot (Mem (at_rbp (8 ∷ []))))) refl
    (record { read = (data_free m 0x600008 8 k (omega arith) (omega arith)).1; write = refl }) refl
    (record { rax = _; rcx = _; rdx = _; rbx = _; behind = x.behind; regs = refl }) refl

-- MOV [rbp+16], rax
abbrev pub store_rax_fields : Fields
store_rax_fields = rex_insn 0x89 0x45 (0x10 ∷ []) []

-- MOV [rbp+16], rax is an instruction
pub store_rax_is : IsInstruction store_rax_fields
store_rax_is = record {
  formed = record { prefixes = refl; escape = refl; opcode = refl; known = refl; modrm = refl; operand = (refl, refl); imm = refl };
  short = omega arith;
}

-- MOV [rbp+16], rax has a turn
pub store_rax_turn : HasTurn StoreRax
unfolding template filled effect
store_rax_turn x rip m k is h c l =
    plain_turn x rip m k is h store_rax_fields c l store_rax_is (Mov W64 (Mem (at_rbp (0x10 ∷ []))) (value.Spot (Reg 0))) refl
    (record { read = refl; write = (data_free m 0x600010 8 k (omega arith) (omega arith)).0 }) refl
    (record { rax = _; rcx = _; rdx = _; rbx = _; behind = x.behind; regs = refl }) refl

-- LEA rax, [rip+disp32] of the page of data
abbrev pub lea_data_fields : ℕ → Fields
lea_data_fields rip = rex_insn 0x8d 0x05 (rel_bytes (rip + 7) data_start) []

-- LEA rax, [rip+disp32] of the page of data is an instruction
pub lea_data_is : (rip : ℕ) → IsInstruction (lea_data_fields rip)
lea_data_is rip = record {
  formed = record { prefixes = refl; escape = refl; opcode = refl; known = refl; modrm = refl; operand = (refl, refl); imm = refl };
  short = omega arith;
}

-- LEA rax, [rip+disp32] of the page of data has a turn
pub lea_data_turn : HasTurn LeaData
unfolding template filled effect
lea_data_turn x rip m k is h c l =
    plain_turn x rip m k is h (lea_data_fields rip) c l (lea_data_is rip)
    (Lea W64 0 (at_number (absolute (rip + 7) (integer_of (rel_bytes (rip + 7) data_start))))) refl
    (record { read = refl; write = refl }) refl (record { rax = _; rcx = _; rdx = _; rbx = _; behind = x.behind; regs = refl }) refl

-- NOP is an instruction
pub do_nothing_is : IsInstruction no_operation
do_nothing_is = record {
  formed = record { prefixes = refl; escape = refl; opcode = refl; known = refl; modrm = refl; operand = refl; imm = refl };
  short = omega arith;
}

-- NOP has a turn
pub do_nothing_turn : HasTurn Nop
unfolding template filled effect
do_nothing_turn x rip m k is h c l =
    plain_turn x rip m k is h no_operation c l do_nothing_is (op.Nop None) refl
    (record { read = refl; write = refl }) refl (record { rax = _; rcx = _; rdx = _; rbx = _; behind = x.behind; regs = refl }) refl

-- LEA rcx, [rcx+rax+4]
abbrev pub lea_rcx_fields : Fields
lea_rcx_fields = record { prefixes = 0x48 ∷ []; escape = OneByte; opcode = 0x8d; modrm = Some 0x4c; sib = Some 0x01; disp = 0x04 ∷ []; imm = [] }

-- LEA rcx, [rcx+rax+4] is an instruction
pub lea_rcx_is : IsInstruction lea_rcx_fields
lea_rcx_is = record {
  formed = record { prefixes = refl; escape = refl; opcode = refl; known = refl; modrm = refl; operand = (refl, refl); imm = refl };
  short = omega arith;
}

-- LEA rcx, [rcx+rax+4] has a turn
pub lea_rcx_turn : HasTurn LeaRcx
unfolding template filled effect
lea_rcx_turn x rip m k is h c l =
    plain_turn x rip m k is h lea_rcx_fields c l lea_rcx_is (Lea W64 1 sum_and_four) refl
    (record { read = refl; write = refl }) refl (record { rax = _; rcx = _; rdx = _; rbx = _; behind = x.behind; regs = refl }) refl
