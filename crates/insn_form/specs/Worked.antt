-- Instructions worked out from the definitions. Worked examples alone cite it.
use Rattle.std.specs.Prelude.{◌≡◌, ℕ, Bool, true, false, List, [], ◌∷◌, Option, Some, None, pos}
use Rattle.cpu_alu.specs.declared.operation.Width.TheVariants.{W8, W16, W32, W64}
use Rattle.cpu_state.specs.declared.state.Core.{Core}
use Rattle.length_decode.specs.declared.escape_bytes.Escape.TheVariants.{OneByte}
use Rattle.length_decode.specs.Spelling.{Fields}
use Rattle.insn_form.specs.declared.effect.Span.{Span}
use Rattle.insn_form.specs.declared.form.Seg.{Seg}
use Rattle.insn_form.specs.declared.form.Seg.TheVariants.{Plain, Fs, Gs}
use Rattle.insn_form.specs.declared.form.MemForm.{MemForm}
use Rattle.insn_form.specs.declared.form.Spot.TheVariants.{Reg, High, Mem}
use Rattle.insn_form.specs.declared.form.Value.TheVariants as value
use Rattle.insn_form.specs.declared.form.Target.TheVariants.{Through}
use Rattle.insn_form.specs.declared.form.Op.{Op}
use Rattle.insn_form.specs.declared.form.Op.TheVariants.{Mov, Lea, Push, Pop, Call, Cmov}
use Rattle.insn_form.specs.declared.form.Insn.TheVariants.{Exact}
use Rattle.insn_form.specs.Operands.{reg, rax, rcx, rsp}
use Rattle.insn_form.specs.Meaning.{effect}
use Rattle.insn_form.specs.Instruction.{insn_of}
use Rattle.insn_form.specs.Step.{task_of, question_of}

-- registers of which rax, rcx, rdx, rbx and rsp are named
abbrev pub start : Core
start = record {
  regs = 0xffff_ffff_0000_0001 ∷ 0xffff_ffff_ffff_fff0 ∷ 3 ∷ 0x1234_5678_9abc_def0 ∷ 0x1000 ∷ 0 ∷ 0 ∷ 0 ∷ 0 ∷ 0 ∷ 0 ∷ 0 ∷ 0 ∷ 0 ∷ 0 ∷ 0 ∷ [];
  flags = record { cf = false; pf = false; af = false; zf = false; sf = false; of = false; rest = 2 };
  fs = 0x7000;
  gs = 0x8000;
}

-- an operand at the address in a register
abbrev pub at_base : ℕ → MemForm
at_base r = record { base = Some r; index = None; scale = 1; disp = pos 0; rip = false; seg = Plain; short = false; tail = 1 }

-- rcx + 8 in a segment, with 64 or 32 bits
abbrev pub beyond_rcx : Seg → Bool → MemForm
beyond_rcx seg short = record { base = Some rcx; index = None; scale = 1; disp = pos 8; rip = false; seg = seg; short = short; tail = 2 }

-- the eight bytes at an address
abbrev pub entry : ℕ → Option Span
entry a = Some (record { addr = a; size = 8 })

-- a register after an operation, where v was read
abbrev pub after : Op → ℕ → ℕ → ℕ
after op v r = reg ((effect op 0x401002 start).out v).core r

-- CALL [rsp]: the target is read at rsp, and the next address is pushed below it
pub record CallsThroughTheStack (read written : ℕ) : Type 0 where
  pub reads : (effect (Call (Through (Mem (at_base rsp)))) 0x401002 start).read ≡ entry read
  pub writes : (effect (Call (Through (Mem (at_base rsp)))) 0x401002 start).write ≡ entry written
  pub pushes : (v : ℕ) → ((effect (Call (Through (Mem (at_base rsp)))) 0x401002 start).out v).value ≡ 0x401002
  pub lowers : (v : ℕ) → after (Call (Through (Mem (at_base rsp)))) v rsp ≡ written

-- POP [rsp]: what stood at rsp is written to the address that rsp has then
pub record PopsToTheStack (read written : ℕ) : Type 0 where
  pub reads : (effect (Pop (Mem (at_base rsp))) 0x401002 start).read ≡ entry read
  pub writes : (effect (Pop (Mem (at_base rsp))) 0x401002 start).write ≡ entry written
  pub raises : (v : ℕ) → after (Pop (Mem (at_base rsp))) v rsp ≡ written

-- PUSH rsp pushes what rsp was
abbrev pub PushesOldTop : ℕ → Type 0
PushesOldTop old = (v : ℕ) → ((effect (Push (value.Spot (Reg rsp))) 0x401002 start).out v).value ≡ old

-- MOV eax, ecx and a CMOVcc eax, ecx that doesn't move clear the upper half of rax; MOV ax, cx and MOV ah, cl keep the other bits
pub record KeepsOrClears (moved unmoved low high : ℕ) : Type 0 where
  pub clears : after (Mov W32 (Reg rax) (value.Spot (Reg rcx))) 0 rax ≡ moved
  pub clears_unmoved : after (Cmov 4 W32 rax (Reg rcx)) 0 rax ≡ unmoved
  pub keeps : after (Mov W16 (Reg rax) (value.Spot (Reg rcx))) 0 rax ≡ low
  pub keeps_around : after (Mov W8 (High rax) (value.Spot (Reg rcx))) 0 rax ≡ high

-- LEA rax, fs:[rcx+8] adds no base, with prefix 67 the sum has 32 bits; MOV rax, fs:[rcx+8] and gs: add a base
pub record Addresses (sum short with_fs with_gs : ℕ) : Type 0 where
  pub plain : after (Lea W64 rax (beyond_rcx Fs false)) 0 rax ≡ sum
  pub of_32_bits : after (Lea W64 rax (beyond_rcx Fs true)) 0 rax ≡ short
  pub fs : (effect (Mov W64 (Reg rax) (value.Spot (Mem (beyond_rcx Fs false)))) 0 start).read ≡ entry with_fs
  pub gs : (effect (Mov W64 (Reg rax) (value.Spot (Mem (beyond_rcx Gs false)))) 0 start).read ≡ entry with_gs

-- the fields of a MOV byte from a register, 88 /r, after prefix bytes
abbrev pub byte_move : List ℕ → ℕ → Fields
byte_move prefixes modrm = record { prefixes = prefixes; escape = OneByte; opcode = 0x88; modrm = Some modrm; sib = None; disp = []; imm = [] }

-- MOV al, ah and, with a REX byte, MOV al, spl
pub record NamesHighBytes (high : ℕ) : Type 0 where
  pub without_rex : insn_of (byte_move [] 0xe0) ≡ Exact (Mov W8 (Reg rax) (value.Spot (High high)))
  pub with_rex : insn_of (byte_move (0x40 ∷ []) 0xe0) ≡ Exact (Mov W8 (Reg rax) (value.Spot (Reg 4)))

-- MOV byte [rip+0x10], 5 is C6 05 10 00 00 00 05: the address counts from the end of the immediate
abbrev pub rip_move : Fields
rip_move = record { prefixes = []; escape = OneByte; opcode = 0xc6; modrm = Some 0x05; sib = None; disp = 0x10 ∷ 0 ∷ 0 ∷ 0 ∷ []; imm = 5 ∷ [] }

-- the address is that of the end of the immediate, plus 16
pub record NamesByNext (addr : ℕ) : Type 0 where
  pub resolved : (task_of rip_move 0x401007).insn ≡ Exact (Mov W8 (Mem (record { base = None; index = None; scale = 1; disp = pos addr; rip = false; seg = Plain; short = false; tail = 5 })) (value.Imm 5))
  pub asked : question_of rip_move 0x401007 ≡ record { bytes = 0xc6 ∷ 0x05 ∷ 0 ∷ 0 ∷ 0 ∷ 0 ∷ 5 ∷ []; addr = Some addr }
