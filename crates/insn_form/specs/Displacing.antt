-- An instruction that is moved elsewhere: how long the code is for its work, and whether it goes on behind itself. Theorems cite it.
use Rattle.std.specs.Prelude.{◌≡◌, ℕ, ◌+◌, ◌^◌, Bool, true, false, ◌&&◌, nat_lt, if◌then◌else◌, length, Option, Some, None, option_map, ℤ}
use Rattle.std.specs.Option.{option_or}
use Rattle.cpu_state.specs.Bytes.{advanced}
use Rattle.length_decode.specs.Spelling.{Fields, IsInstruction, spelling}
use Rattle.insn_form.specs.declared.form.Seg.{Seg}
use Rattle.insn_form.specs.declared.form.Seg.TheVariants.{Plain, Fs, Gs}
use Rattle.insn_form.specs.declared.form.MemForm.{MemForm}
use Rattle.insn_form.specs.declared.form.Spot.{Spot}
use Rattle.insn_form.specs.declared.form.Spot.TheVariants.{Reg, High, Mem}
use Rattle.insn_form.specs.declared.form.Value.{Value}
use Rattle.insn_form.specs.declared.form.Value.TheVariants as value
use Rattle.insn_form.specs.declared.form.Target.{Target}
use Rattle.insn_form.specs.declared.form.Target.TheVariants.{Rel, Through}
use Rattle.insn_form.specs.declared.form.Op.{Op}
use Rattle.insn_form.specs.declared.form.Op.TheVariants.{Mov, Extend, Lea, Xchg, Nop, Push, Pop, Alu, Not, Cmov, Set, Widen, Leave, Cmc, Clc, Stc, Sahf, Lahf, Jcc, Loop, Jmp, Call, Ret}
use Rattle.insn_form.specs.declared.form.AskedForm.{AskedForm}
use Rattle.insn_form.specs.declared.form.Insn.{Insn}
use Rattle.insn_form.specs.declared.form.Insn.TheVariants.{Exact, Asked, Ending}
use Rattle.insn_form.specs.Operands.{word_of}
use Rattle.insn_form.specs.Instruction.{insn_of}
use Rattle.insn_form.specs.Moved.{direct_target}

-- it is the instruction of a spelling of so many bytes
pub record IsSpelledBy (i : Insn) (len : ℕ) : Type 0 where
  pub fields : Fields
  pub is : IsInstruction fields
  pub insn : i ≡ insn_of fields
  pub size : len ≡ length (spelling fields)

-- the displacement of a RIP operand
abbrev pub rip_of : MemForm → Option ℤ
rip_of m = if m.rip then Some m.disp else None

-- of an operand in a register or in memory
abbrev pub spot_rip : Spot → Option ℤ
spot_rip (Reg r) = None
spot_rip (High r) = None
spot_rip (Mem m) = rip_of m

-- of a source
abbrev pub value_rip : Value → Option ℤ
value_rip (value.Spot s) = spot_rip s
value_rip (value.Imm n) = None
value_rip value.Cl = None

-- of a target
abbrev pub target_rip : Target → Option ℤ
target_rip (Rel rel) = None
target_rip (Through s) = spot_rip s

-- of an operation
abbrev pub op_rip : Op → Option ℤ
op_rip (Mov w dst src) = option_or (spot_rip dst) (value_rip src)
op_rip (Extend signed from w dst src) = spot_rip src
op_rip (Lea w dst mem) = rip_of mem
op_rip (Xchg w a b) = option_or (spot_rip a) (spot_rip b)
op_rip (Nop disp) = disp
op_rip (Push src) = value_rip src
op_rip (Pop dst) = spot_rip dst
op_rip (Alu op w dst src keep) = option_or (spot_rip dst) (value_rip src)
op_rip (Not w dst) = spot_rip dst
op_rip (Cmov cc w dst src) = spot_rip src
op_rip (Set cc dst) = spot_rip dst
op_rip (Jmp target) = target_rip target
op_rip (Call target) = target_rip target
op_rip (Widen w high) = None
op_rip Leave = None
op_rip Cmc = None
op_rip Clc = None
op_rip Stc = None
op_rip Sahf = None
op_rip Lahf = None
op_rip (Jcc cc rel) = None
op_rip (Loop kind rel short) = None
op_rip (Ret extra) = None

-- of an instruction
abbrev pub insn_rip : Insn → Option ℤ
insn_rip (Exact op) = op_rip op
insn_rip (Asked form) = form.rip_disp
insn_rip Ending = None

-- the address at this distance from the next instruction
abbrev pub goes_to : ℕ → ℤ → ℕ
goes_to next rel = advanced next (word_of rel)

-- it is below 2^31, if there is one: code below 2^31 reaches it from anywhere
abbrev pub is_low : ℕ → Option ℤ → Bool
is_low next None = true
is_low next (Some rel) = nat_lt (goes_to next rel) (2 ^ 31)

-- bytes of the prefixes 64, 65 and 67 of an operand
abbrev pub prefix_count : Seg → Bool → ℕ
prefix_count Plain short = if short then 1 else 0
prefix_count Fs short = if short then 2 else 1
prefix_count Gs short = if short then 2 else 1

-- bytes of the load of a call's operand: REX, 8B and ModRM; of one in memory also SIB, displacement and the prefixes
abbrev pub load_length : Spot → ℕ
load_length (Reg r) = 3
load_length (High r) = 3
load_length (Mem m) = 2 + m.tail + prefix_count m.seg m.short

-- bytes of ModRM, SIB and displacement of a call's operand in memory
abbrev pub spot_tail : Spot → ℕ
spot_tail (Reg r) = 0
spot_tail (High r) = 0
spot_tail (Mem m) = m.tail

-- the same of a target
abbrev pub target_tail : Target → ℕ
target_tail (Rel rel) = 0
target_tail (Through s) = spot_tail s

-- the same of an operation, which has one if it is a call
abbrev pub op_tail : Op → ℕ
op_tail (Call target) = target_tail target
op_tail op = 0

-- the same of an instruction
abbrev pub insn_tail : Insn → ℕ
insn_tail (Exact op) = op_tail op
insn_tail (Asked form) = 0
insn_tail Ending = 0

-- a copy; behind that of syscall stands MOV ecx, imm32
abbrev pub asked_length : AskedForm → ℕ → Option ℕ
asked_length form len = if form.copied then Some (if form.syscall then len + 5 else len) else None

-- a jump
abbrev pub jump_length : Target → ℕ → ℕ
jump_length (Rel rel) len = 5
jump_length (Through s) len = len

-- a call: PUSH and a jump; or one through an operand
abbrev pub call_length : Target → ℕ
call_length (Rel rel) = 10
call_length (Through s) = 36 + load_length s

-- bytes of the code of an operation, where there is any
abbrev pub op_length : Op → ℕ → Option ℕ
op_length (Jcc cc rel) len = Some 6
op_length (Loop kind rel short) len = None
op_length (Jmp target) len = Some (jump_length target len)
op_length (Call target) len = Some (call_length target)
op_length op len = Some len

-- bytes of the code for an instruction of len bytes, where there is such code for one that stands low enough
abbrev pub code_length : Insn → ℕ → Option ℕ
code_length (Exact op) len = op_length op len
code_length (Asked form) len = asked_length form len
code_length Ending len = None

-- bytes of the code that does the work of an instruction of len bytes at an address: none where a place that it names is not low
abbrev pub displaced_len : Insn → ℕ → ℕ → Option ℕ
displaced_len i len addr = if is_low (addr + len) (direct_target i) && is_low (addr + len) (insn_rip i) then code_length i len else None

-- the code may go on to the byte after it: not where it ends with a jump to where the instruction leads
abbrev pub falls : Insn → Bool
falls (Exact (Jmp target)) = false
falls (Exact (Call target)) = false
falls (Exact (Ret extra)) = false
falls (Exact op) = true
falls (Asked form) = true
falls Ending = false

-- bytes of that code with the jump of five bytes to the next instruction behind it, where it falls through
abbrev pub work_length : Insn → ℕ → ℕ → Option ℕ
work_length i len addr = option_map (λ n. n + (if falls i then 5 else 0)) (displaced_len i len addr)

-- the condition code of a conditional branch is one of sixteen
abbrev pub has_condition : Insn → Bool
has_condition (Exact (Jcc cc rel)) = nat_lt cc 16
has_condition (Exact op) = true
has_condition (Asked form) = true
has_condition Ending = true

-- so it is of each instruction
abbrev pub HasConditionCode : Type 0
HasConditionCode = (f : Fields) → has_condition (insn_of f) ≡ true
