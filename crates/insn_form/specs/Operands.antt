-- Registers, addresses and operands. Theorems cite it.
-- (Intel SDM, volume 1, sections 3.4.1, 3.7.5 and 3.7.5.1; volume 2, section 2.2.1.)
use Rattle.std.specs.Prelude.{ℕ, ◌+◌, ◌*◌, ◌/◌, ◌%◌, ◌^◌, if◌then◌else◌, Option, Some, None, ℤ, slice_index, slice_set}
use Rattle.std.specs.Int.{cast_unsigned, w64}
use Rattle.cpu_alu.specs.declared.operation.Width.{Width}
use Rattle.cpu_alu.specs.declared.operation.Width.TheVariants.{W8, W16, W32, W64}
use Rattle.cpu_alu.specs.declared.flag_word.Flags.{Flags}
use Rattle.cpu_alu.specs.Widths.{cut}
use Rattle.cpu_state.specs.declared.state.Core.{Core}
use Rattle.cpu_state.specs.Bytes.{advanced}
use Rattle.insn_form.specs.declared.effect.Span.{Span}
use Rattle.insn_form.specs.declared.form.Seg.{Seg}
use Rattle.insn_form.specs.declared.form.Seg.TheVariants.{Plain, Fs, Gs}
use Rattle.insn_form.specs.declared.form.MemForm.{MemForm}
use Rattle.insn_form.specs.declared.form.Spot.{Spot}
use Rattle.insn_form.specs.declared.form.Spot.TheVariants.{Reg, High, Mem}
use Rattle.insn_form.specs.declared.form.Value.{Value}
use Rattle.insn_form.specs.declared.form.Value.TheVariants as value

-- an integer as a number of 64 bits
abbrev pub word_of : ℤ → ℕ
word_of z = cast_unsigned w64 z

-- bytes of a number of a width
abbrev pub size_of : Width → ℕ
size_of W8 = 1
size_of W16 = 2
size_of W32 = 4
size_of W64 = 8

-- the register of a code
abbrev pub reg : Core → ℕ → ℕ
reg c r = slice_index c.regs r

-- the core with a number in a register
abbrev pub with_reg : Core → ℕ → ℕ → Core
with_reg c r v = record { regs = slice_set c.regs r v; flags = c.flags; fs = c.fs; gs = c.gs }

-- the core with other flags
abbrev pub with_flags : Core → Flags → Core
with_flags c f = record { regs = c.regs; flags = f; fs = c.fs; gs = c.gs }

-- the codes of rax, rcx, rdx, rsp and rbp
abbrev pub rax : ℕ
rax = 0

abbrev pub rcx : ℕ
rcx = 1

abbrev pub rdx : ℕ
rdx = 2

abbrev pub rsp : ℕ
rsp = 4

abbrev pub rbp : ℕ
rbp = 5

-- a base or an index
abbrev pub reg_or_zero : Core → Option ℕ → ℕ
reg_or_zero c None = 0
reg_or_zero c (Some r) = reg c r

-- the base that is added for a segment
abbrev pub segment_base : Core → Seg → ℕ
segment_base c Plain = 0
segment_base c Fs = c.fs
segment_base c Gs = c.gs

-- base, index times scale, and displacement, of 64 bits, or of 32 with prefix 67, of a form that isn't relative to RIP
abbrev pub offset : Core → MemForm → ℕ
offset c f = (reg_or_zero c f.base + reg_or_zero c f.index * f.scale + word_of f.disp) % (if f.short then 2 ^ 32 else 2 ^ 64)

-- the address: the base of the segment is added
abbrev pub place : Core → MemForm → ℕ
place c f = advanced (offset c f) (segment_base c f.seg)

-- the bytes in memory of an operand
abbrev pub spot_span : Core → Width → Spot → Option Span
spot_span c w (Reg r) = None
spot_span c w (High r) = None
spot_span c w (Mem f) = Some (record { addr = place c f; size = size_of w })

-- the same of a source
abbrev pub value_span : Core → Width → Value → Option Span
value_span c w (value.Spot s) = spot_span c w s
value_span c w (value.Imm n) = None
value_span c w value.Cl = None

-- the number that an operand holds, where v was read from memory
abbrev pub spot_number : Core → Width → ℕ → Spot → ℕ
spot_number c w v (Reg r) = cut w (reg c r)
spot_number c w v (High r) = reg c r / 2 ^ 8 % 2 ^ 8
spot_number c w v (Mem f) = cut w v

-- the same of a source
abbrev pub value_number : Core → Width → ℕ → Value → ℕ
value_number c w v (value.Spot s) = spot_number c w v s
value_number c w v (value.Imm n) = cut w n
value_number c w v value.Cl = cut W8 (reg c rcx)

-- a register after a result of a width: 32 bits clear the upper half, and 8 or 16 bits keep the rest
abbrev pub merged : Width → ℕ → ℕ → ℕ
merged W8 old v = old / 2 ^ 8 * 2 ^ 8 + cut W8 v
merged W16 old v = old / 2 ^ 16 * 2 ^ 16 + cut W16 v
merged W32 old v = cut W32 v
merged W64 old v = cut W64 v

-- the same for bits 8 to 15
abbrev pub merged_high : ℕ → ℕ → ℕ
merged_high old v = old / 2 ^ 16 * 2 ^ 16 + cut W8 v * 2 ^ 8 + old % 2 ^ 8

-- the registers after a result; one in memory changes none
abbrev pub with_spot : Core → Width → Spot → ℕ → Core
with_spot c w (Reg r) v = with_reg c r (merged w (reg c r) v)
with_spot c w (High r) v = with_reg c r (merged_high (reg c r) v)
with_spot c w (Mem f) v = c
