-- Operands filled in from the bytes (Intel SDM, volume 2, sections 2.1.3, 2.1.5, 2.2.1 and 3.1.1.1). Theorems cite it.
use Rattle.std.specs.Prelude.{ℕ, ◌+◌, ◌-◌, ◌*◌, ◌/◌, ◌%◌, ◌^◌, Bool, true, false, ◌&&◌, ◌==◌, if◌then◌else◌, List, length, option_to_list, Option, Some, None, ℤ, pos, slice_index}
use Rattle.std.specs.Int.{cast_signed, from_le_bytes, w8, w16, w32, w64}
use Rattle.cpu_alu.specs.declared.operation.Width.{Width}
use Rattle.cpu_alu.specs.declared.operation.Width.TheVariants.{W8, W16, W32, W64}
use Rattle.cpu_alu.specs.Widths.{cut}
use Rattle.insn_tables.specs.Rows.{within}
use Rattle.length_decode.specs.declared.instruction_parts.Parts.{Parts}
use Rattle.insn_form.specs.declared.form.Seg.{Seg}
use Rattle.insn_form.specs.declared.form.Seg.TheVariants.{Plain, Fs, Gs}
use Rattle.insn_form.specs.declared.form.MemForm.{MemForm}
use Rattle.insn_form.specs.declared.form.Spot.{Spot}
use Rattle.insn_form.specs.declared.form.Spot.TheVariants as spot
use Rattle.insn_form.specs.declared.form.Value.{Value}
use Rattle.insn_form.specs.declared.form.Value.TheVariants as value
use Rattle.insn_form.specs.declared.form.Target.TheVariants.{Rel, Through}
use Rattle.insn_form.specs.declared.form.Op.TheVariants as op
use Rattle.insn_form.specs.declared.form.Insn.{Insn}
use Rattle.insn_form.specs.declared.form.Insn.TheVariants as insn
use Rattle.insn_form.specs.declared.template.Slot.{Slot}
use Rattle.insn_form.specs.declared.template.Slot.TheVariants.{Rm, Reg, Low, Accumulator}
use Rattle.insn_form.specs.declared.template.Source.{Source}
use Rattle.insn_form.specs.declared.template.Source.TheVariants as source
use Rattle.insn_form.specs.declared.template.Template.{Template}
use Rattle.insn_form.specs.declared.template.Template.TheVariants.{Mov, Extend, Lea, Xchg, Nop, Push, Pop, Alu, Not, Cmov, Set, Widen, Leave, Cmc, Clc, Stc, Sahf, Lahf, Jcc, Loop, Jmp, JmpThrough, Call, CallThrough, Ret, Asked, Ending}
use Rattle.insn_form.specs.Operands.{word_of, rax}
use Rattle.insn_form.specs.Classes.{template, mod_of, reg_of, rm_of, has_rip, rex_w, rex_r, rex_x, rex_b}

-- a displacement, of one or four bytes, or none
abbrev pub integer_of : List ℕ → ℤ
integer_of bs = if length bs == 4 then cast_signed w32 (from_le_bytes w32 bs) else (if length bs == 1 then cast_signed w8 (slice_index bs 0) else pos 0)

-- an immediate as an integer: one, two, four or eight bytes
abbrev pub constant_of : List ℕ → ℤ
constant_of bs =
    if length bs == 1 then cast_signed w8 (slice_index bs 0)
    else (if length bs == 2 then cast_signed w16 (from_le_bytes w16 bs)
    else (if length bs == 4 then cast_signed w32 (from_le_bytes w32 bs)
    else (if length bs == 8 then cast_signed w64 (from_le_bytes w64 bs)
    else pos 0)))

-- and sign-extended to a width
abbrev pub immediate : Width → List ℕ → ℕ
immediate w bs = cut w (word_of (constant_of bs))

-- the bytes that RET takes off besides, 0 without an immediate
abbrev pub extra_of : List ℕ → ℕ
extra_of bs = if length bs == 2 then from_le_bytes w16 bs else 0

-- 64 bits with REX.W, else 16 with prefix 66, else 32; a byte for byte forms
abbrev pub operand_width : Parts → Width
operand_width p = if rex_w p == 1 then W64 else (if p.prefixes.opsize then W16 else W32)

-- the width of byte forms, and of the others
abbrev pub width_of : Bool → Parts → Width
width_of byte p = if byte then W8 else operand_width p

-- the codes of registers
abbrev pub reg_code : Parts → ℕ
reg_code p = reg_of p + 8 * rex_r p

-- of rm
abbrev pub rm_code : Parts → ℕ
rm_code p = rm_of p + 8 * rex_b p

-- of the opcode's low three bits
abbrev pub low_code : Parts → ℕ
low_code p = p.opcode % 8 + 8 * rex_b p

-- in byte forms without REX the codes 4 to 7 are AH, CH, DH and BH
abbrev pub register : Bool → Parts → ℕ → Spot
register byte p code = if byte && (p.rex == 0 && within 4 7 code) then spot.High (code - 4) else spot.Reg code

-- the segment that 64 or 65 names
abbrev pub segment : Parts → Seg
segment p = if p.prefixes.fs then Fs else (if p.prefixes.gs then Gs else Plain)

-- without SIB byte the base is rm, but for a RIP operand; with one there is no base at mod 0 and base 5
abbrev pub base_of : Parts → Option ℕ → Option ℕ
base_of p None = if has_rip p then None else Some (rm_code p)
base_of p (Some s) = if mod_of p == 0 && s % 8 == 5 then None else Some (s % 8 + 8 * rex_b p)

-- the index 4 is none
abbrev pub index_of : Parts → Option ℕ → Option ℕ
index_of p None = None
index_of p (Some s) = let code = s / 8 % 8 + 8 * rex_x p in if code == 4 then None else Some code

-- the scale of a SIB byte, 1 without one
abbrev pub scale_of : Option ℕ → ℕ
scale_of None = 1
scale_of (Some s) = 2 ^ (s / 64)

-- bytes of ModRM, SIB and displacement
abbrev pub tail_of : Parts → ℕ
tail_of p = 1 + length (option_to_list p.sib) + p.disp_len

-- the operand in memory, with the bytes of its displacement
abbrev pub mem_form : Parts → List ℕ → MemForm
mem_form p disp = record {
  base = base_of p p.sib;
  index = index_of p p.sib;
  scale = scale_of p.sib;
  disp = integer_of disp;
  rip = has_rip p;
  seg = segment p;
  short = p.prefixes.addrsize;
  tail = tail_of p;
}

-- the operand that mod and rm name
abbrev pub rm_spot : Bool → Parts → List ℕ → Spot
rm_spot byte p disp = if mod_of p == 3 then register byte p (rm_code p) else spot.Mem (mem_form p disp)

-- the operand of a slot of a template
abbrev pub slot_spot : Bool → Parts → List ℕ → Slot → Spot
slot_spot byte p disp Rm = rm_spot byte p disp
slot_spot byte p disp Reg = register byte p (reg_code p)
slot_spot byte p disp Low = register byte p (low_code p)
slot_spot byte p disp Accumulator = spot.Reg rax

-- a number of a width
abbrev pub source_value : Width → Bool → Parts → List ℕ → List ℕ → Source → Value
source_value w byte p disp imm (source.Slot s) = value.Spot (slot_spot byte p disp s)
source_value w byte p disp imm source.Immediate = value.Imm (immediate w imm)
source_value w byte p disp imm (source.Constant n) = value.Imm n
source_value w byte p disp imm source.Cl = value.Cl

-- the displacement of a RIP operand
abbrev pub rip_disp : Parts → List ℕ → Option ℤ
rip_disp p disp = if has_rip p then Some (integer_of disp) else None

-- the width is that of a byte
abbrev pub is_w8 : Width → Bool
is_w8 W8 = true
is_w8 W16 = false
is_w8 W32 = false
is_w8 W64 = false

-- stack entries and indirect targets have 64 bits
unfoldable pub filled : Template → Parts → List ℕ → List ℕ → Insn
filled (Mov byte dst src) p disp imm = insn.Exact (op.Mov (width_of byte p) (slot_spot byte p disp dst) (source_value (width_of byte p) byte p disp imm src))
filled (Extend sign from) p disp imm = insn.Exact (op.Extend sign from (operand_width p) (reg_code p) (rm_spot (is_w8 from) p disp))
filled Lea p disp imm = insn.Exact (op.Lea (operand_width p) (reg_code p) (mem_form p disp))
filled (Xchg byte a b) p disp imm = insn.Exact (op.Xchg (width_of byte p) (slot_spot byte p disp a) (slot_spot byte p disp b))
filled Nop p disp imm = insn.Exact (op.Nop (rip_disp p disp))
filled (Push src) p disp imm = insn.Exact (op.Push (source_value W64 false p disp imm src))
filled (Pop dst) p disp imm = insn.Exact (op.Pop (slot_spot false p disp dst))
filled (Alu o byte dst src keep) p disp imm = insn.Exact (op.Alu o (width_of byte p) (slot_spot byte p disp dst) (source_value (width_of byte p) byte p disp imm src) keep)
filled (Not byte) p disp imm = insn.Exact (op.Not (width_of byte p) (rm_spot byte p disp))
filled (Cmov cc) p disp imm = insn.Exact (op.Cmov cc (operand_width p) (reg_code p) (rm_spot false p disp))
filled (Set cc) p disp imm = insn.Exact (op.Set cc (rm_spot true p disp))
filled (Widen high) p disp imm = insn.Exact (op.Widen (operand_width p) high)
filled Leave p disp imm = insn.Exact op.Leave
filled Cmc p disp imm = insn.Exact op.Cmc
filled Clc p disp imm = insn.Exact op.Clc
filled Stc p disp imm = insn.Exact op.Stc
filled Sahf p disp imm = insn.Exact op.Sahf
filled Lahf p disp imm = insn.Exact op.Lahf
filled (Jcc cc) p disp imm = insn.Exact (op.Jcc cc (integer_of imm))
filled (Loop kind) p disp imm = insn.Exact (op.Loop kind (integer_of imm) p.prefixes.addrsize)
filled Jmp p disp imm = insn.Exact (op.Jmp (Rel (integer_of imm)))
filled JmpThrough p disp imm = insn.Exact (op.Jmp (Through (rm_spot false p disp)))
filled Call p disp imm = insn.Exact (op.Call (Rel (integer_of imm)))
filled CallThrough p disp imm = insn.Exact (op.Call (Through (rm_spot false p disp)))
filled Ret p disp imm = insn.Exact (op.Ret (extra_of imm))
filled (Asked syscall copied) p disp imm = insn.Asked (record { rip_disp = rip_disp p disp; syscall = syscall; copied = copied })
filled Ending p disp imm = insn.Ending

-- the instruction of these parts, displacement and immediate
abbrev pub insn_from : Parts → List ℕ → List ℕ → Insn
insn_from p disp imm = filled (template p) p disp imm
