-- What an instruction is before its operands, by its prefixes, its opcode and its ModRM byte. Theorems cite it.
-- (Intel SDM, volume 2, appendix A, and the instructions' pages.)
use Rattle.std.specs.Prelude.{ℕ, ◌-◌, ◌/◌, ◌%◌, Bool, true, false, not, ◌&&◌, ◌||◌, nat_le, nat_lt, ◌==◌, if◌then◌else◌, [], ◌∷◌, Option, Some, None, unwrap_or}
use Rattle.std.specs.Option.{option_or}
use Rattle.cpu_alu.specs.declared.operation.Width.TheVariants.{W8, W16, W32}
use Rattle.cpu_alu.specs.declared.operation.AluOp.{AluOp}
use Rattle.cpu_alu.specs.declared.operation.AluOp.TheVariants.{Add, Or, Adc, Sbb, And, Sub, Xor, Inc, Dec, Neg, Shl, Shr, Sar}
use Rattle.insn_tables.specs.Rows.{within, among}
use Rattle.length_decode.specs.declared.instruction_parts.Parts.{Parts}
use Rattle.insn_form.specs.declared.template.Slot.TheVariants.{Rm, Reg, Low, Accumulator}
use Rattle.insn_form.specs.declared.template.Source.{Source}
use Rattle.insn_form.specs.declared.template.Source.TheVariants as source
use Rattle.insn_form.specs.declared.template.Template.{Template}
use Rattle.insn_form.specs.declared.template.Template.TheVariants.{Mov, Extend, Lea, Xchg, Nop, Push, Pop, Alu, Not, Cmov, Set, Widen, Leave, Cmc, Clc, Stc, Sahf, Lahf, Jcc, Loop, Jmp, JmpThrough, Call, CallThrough, Ret, Asked, Ending}

-- the ModRM byte and its fields; all 0 without one
abbrev pub modrm_of : Parts → ℕ
modrm_of p = unwrap_or p.modrm 0

abbrev pub mod_of : Parts → ℕ
mod_of p = modrm_of p / 64

abbrev pub reg_of : Parts → ℕ
reg_of p = modrm_of p / 8 % 8

abbrev pub rm_of : Parts → ℕ
rm_of p = modrm_of p % 8

-- an operand relative to the next instruction
abbrev pub has_rip : Parts → Bool
has_rip p = mod_of p == 0 && rm_of p == 5

-- the bits of the REX byte (volume 2, section 2.2.1.2)
abbrev pub rex_w : Parts → ℕ
rex_w p = p.rex / 8 % 2

abbrev pub rex_r : Parts → ℕ
rex_r p = p.rex / 4 % 2

abbrev pub rex_x : Parts → ℕ
rex_x p = p.rex / 2 % 2

abbrev pub rex_b : Parts → ℕ
rex_b p = p.rex % 2

-- combinations that end the run: 64 with 65, F2 with F3, 67 with a RIP operand
abbrev pub clashes : Parts → Bool
clashes p = (p.prefixes.fs && p.prefixes.gs) || ((p.prefixes.repne && p.prefixes.rep) || (p.prefixes.addrsize && has_rip p))

-- F0, F2 or F3 stands there
abbrev pub repeats : Parts → Bool
repeats p = p.prefixes.lock || (p.prefixes.repne || p.prefixes.rep)

-- 64 or 65 stands there
abbrev pub has_segment : Parts → Bool
has_segment p = p.prefixes.fs || p.prefixes.gs

-- instructions that end the run
abbrev pub ends_one : ℕ → ℕ → Bool
ends_one op reg =
    within 0x6c 0x6f op || (within 0xca 0xcd op || (op == 0xcf || (within 0xe4 0xe7 op || (within 0xec 0xef op || (among (0xf1 ∷ 0xf4 ∷ 0xfa ∷ 0xfb ∷ []) op
    || (((op == 0xc6 || op == 0xc7) && not (reg == 0)) || ((op == 0xfe && nat_le 2 reg) || (op == 0xff && among (3 ∷ 5 ∷ 7 ∷ []) reg))))))))

-- the same of the opcodes after 0F
abbrev pub ends_two : ℕ → Bool
ends_two op = within 0x06 0x09 op || among (0x0b ∷ 0x30 ∷ 0x32 ∷ 0x34 ∷ 0x35 ∷ 0xaa ∷ []) op

-- a branch to a place that its bytes tell, an indirect branch, and C3, which F3 may precede
abbrev pub direct : Parts → Template → Template
direct p t = if repeats p || has_segment p then Ending else t

-- F0, F2 or F3 makes an indirect branch end the run, and other prefixes don't
abbrev pub indirect : Parts → Template → Template
indirect p t = if repeats p then Ending else t

-- C3, which F3 alone of these prefixes may precede
abbrev pub plain_return : Parts → Template
plain_return p = if p.prefixes.lock || (p.prefixes.repne || has_segment p) then Ending else Ret

-- with prefix 67 the counted loops end the run: here they count in rcx alone
abbrev pub counted_loop : Parts → ℕ → Template
counted_loop p kind = if p.prefixes.addrsize then Ending else direct p (Loop kind)

-- branches: Jcc, LOOPNE, LOOPE, LOOP, JRCXZ, CALL, JMP, RET
abbrev pub branch_one : Parts → Option Template
branch_one p =
    let op = p.opcode in
    if within 0x70 0x7f op then Some (direct p (Jcc (op % 16)))
    else (if within 0xe0 0xe2 op then Some (counted_loop p (op - 0xe0))
    else (if op == 0xe3 then Some (direct p (Loop 3))
    else (if op == 0xe8 then Some (direct p Call)
    else (if op == 0xe9 || op == 0xeb then Some (direct p Jmp)
    else (if op == 0xc2 then Some (direct p Ret)
    else (if op == 0xc3 then Some (plain_return p)
    else (if op == 0xff && reg_of p == 2 then Some (indirect p CallThrough)
    else (if op == 0xff && reg_of p == 4 then Some (indirect p JmpThrough)
    else None))))))))

-- the conditional branches after 0F
abbrev pub branch_two : Parts → Option Template
branch_two p = if within 0x80 0x8f p.opcode then Some (direct p (Jcc (p.opcode % 16))) else None

-- of two opcodes beside each other the even one has operands of a byte
abbrev pub is_byte : ℕ → Bool
is_byte op = op % 2 == 0

-- MOV
abbrev pub mov_row : ℕ → ℕ → Option Template
mov_row op reg =
    if op == 0x88 || op == 0x89 then Some (Mov (is_byte op) Rm (source.Slot Reg))
    else (if op == 0x8a || op == 0x8b then Some (Mov (is_byte op) Reg (source.Slot Rm))
    else (if within 0xb0 0xb7 op then Some (Mov true Low source.Immediate)
    else (if within 0xb8 0xbf op then Some (Mov false Low source.Immediate)
    else (if (op == 0xc6 || op == 0xc7) && reg == 0 then Some (Mov (is_byte op) Rm source.Immediate)
    else None))))

-- MOVSXD
abbrev pub extend_one : ℕ → ℕ → Option Template
extend_one op w = if op == 0x63 && w == 1 then Some (Extend true W32) else None

-- MOVZX, MOVSX
abbrev pub extend_two : ℕ → Bool → Option Template
extend_two op opsize =
    if op == 0xb6 then Some (Extend false W8)
    else (if op == 0xb7 && not opsize then Some (Extend false W16)
    else (if op == 0xbe then Some (Extend true W8)
    else (if op == 0xbf && not opsize then Some (Extend true W16)
    else None)))

-- LEA of memory
abbrev pub lea_row : ℕ → ℕ → Option Template
lea_row op mode = if op == 0x8d && not (mode == 3) then Some Lea else None

-- XCHG of two registers
abbrev pub xchg_row : ℕ → ℕ → ℕ → Option Template
xchg_row op mode b =
    if (op == 0x86 || op == 0x87) && mode == 3 then Some (Xchg (is_byte op) Rm Reg)
    else (if within 0x91 0x97 op || (op == 0x90 && b == 1) then Some (Xchg false Accumulator Low)
    else None)

-- NOP
abbrev pub nop_one : ℕ → ℕ → Option Template
nop_one op b = if op == 0x90 && b == 0 then Some Nop else None

-- NOP with an operand
abbrev pub nop_two : ℕ → Option Template
nop_two op = if op == 0x1f then Some Nop else None

-- PUSH, POP
abbrev pub stack_row : ℕ → ℕ → Option Template
stack_row op reg =
    if within 0x50 0x57 op then Some (Push (source.Slot Low))
    else (if within 0x58 0x5f op then Some (Pop Low)
    else (if op == 0x68 || op == 0x6a then Some (Push source.Immediate)
    else (if op == 0xff && reg == 6 then Some (Push (source.Slot Rm))
    else (if op == 0x8f then Some (Pop Rm)
    else None))))

-- with prefix 66 it is no exact instruction
abbrev pub unless_opsize : Bool → Option Template → Option Template
unless_opsize opsize t = if opsize then None else t

-- the eight operations, of which cmp is the last and is sub whose result isn't stored
abbrev pub operation : ℕ → AluOp
operation n =
    if n == 0 then Add
    else (if n == 1 then Or
    else (if n == 2 then Adc
    else (if n == 3 then Sbb
    else (if n == 4 then And
    else (if n == 5 then Sub
    else (if n == 6 then Xor
    else Sub))))))

-- the operation n, its operands by the low bits of the opcode
abbrev pub two_operands : ℕ → ℕ → Template
two_operands n op =
    if nat_lt (op % 8) 2 then Alu (operation n) (is_byte op) Rm (source.Slot Reg) (not (n == 7))
    else (if nat_lt (op % 8) 4 then Alu (operation n) (is_byte op) Reg (source.Slot Rm) (not (n == 7))
    else Alu (operation n) (is_byte op) Accumulator source.Immediate (not (n == 7)))

-- ADD, OR, ADC, SBB, AND, SUB, XOR, CMP
abbrev pub alu_row : ℕ → ℕ → Option Template
alu_row op reg =
    if nat_lt op 0x40 && nat_lt (op % 8) 6 then Some (two_operands (op / 8) op)
    else (if op == 0x80 || (op == 0x81 || op == 0x83) then Some (Alu (operation reg) (is_byte op) Rm source.Immediate (not (reg == 7)))
    else None)

-- TEST is and whose result isn't stored
abbrev pub test_row : ℕ → ℕ → Option Template
test_row op reg =
    if op == 0x84 || op == 0x85 then Some (Alu And (is_byte op) Rm (source.Slot Reg) false)
    else (if op == 0xa8 || op == 0xa9 then Some (Alu And (is_byte op) Accumulator source.Immediate false)
    else (if (op == 0xf6 || op == 0xf7) && reg == 0 then Some (Alu And (is_byte op) Rm source.Immediate false)
    else None))

-- INC, DEC, NOT, NEG. The constant is the second operand.
abbrev pub on_one : AluOp → Bool → ℕ → Template
on_one op byte second = Alu op byte Rm (source.Constant second) true

-- INC, DEC, NOT, NEG by their opcodes
abbrev pub unary_row : ℕ → ℕ → Option Template
unary_row op reg =
    if (op == 0xfe || op == 0xff) && reg == 0 then Some (on_one Inc (is_byte op) 1)
    else (if (op == 0xfe || op == 0xff) && reg == 1 then Some (on_one Dec (is_byte op) 1)
    else (if (op == 0xf6 || op == 0xf7) && reg == 2 then Some (Not (is_byte op))
    else (if (op == 0xf6 || op == 0xf7) && reg == 3 then Some (on_one Neg (is_byte op) 0)
    else None)))

-- SHL, SHR, SAR
abbrev pub shift : ℕ → Option AluOp
shift reg = if reg == 4 then Some Shl else (if reg == 5 then Some Shr else (if reg == 7 then Some Sar else None))

-- a shift by a count, of an operation that is one
abbrev pub shifted_by : Source → Bool → Option AluOp → Option Template
shifted_by count byte None = None
shifted_by count byte (Some op) = Some (Alu op byte Rm count true)

-- the shifts, by an immediate, by one and by cl
abbrev pub shift_row : ℕ → ℕ → Option Template
shift_row op reg =
    if op == 0xc0 || op == 0xc1 then shifted_by source.Immediate (is_byte op) (shift reg)
    else (if op == 0xd0 || op == 0xd1 then shifted_by (source.Constant 1) (is_byte op) (shift reg)
    else (if op == 0xd2 || op == 0xd3 then shifted_by source.Cl (is_byte op) (shift reg)
    else None))

-- CMOVcc, SETcc
abbrev pub condition_row : ℕ → Option Template
condition_row op = if within 0x40 0x4f op then Some (Cmov (op % 16)) else (if within 0x90 0x9f op then Some (Set (op % 16)) else None)

-- CBW, CWDE, CDQE, CWD, CDQ, CQO
abbrev pub widen_row : ℕ → Option Template
widen_row op = if op == 0x98 then Some (Widen false) else (if op == 0x99 then Some (Widen true) else None)

-- LEAVE
abbrev pub leave_row : ℕ → Option Template
leave_row op = if op == 0xc9 then Some Leave else None

-- CMC, CLC, STC, SAHF, LAHF
abbrev pub flag_row : ℕ → Option Template
flag_row op =
    if op == 0xf5 then Some Cmc
    else (if op == 0xf8 then Some Clc
    else (if op == 0xf9 then Some Stc
    else (if op == 0x9e then Some Sahf
    else (if op == 0x9f then Some Lahf
    else None))))

-- exact instructions without F0, F2 and F3
abbrev pub exact_one : Parts → Option Template
exact_one p =
    let op = p.opcode in let reg = reg_of p in let size = p.prefixes.opsize in
    option_or (mov_row op reg) (option_or (extend_one op (rex_w p)) (option_or (lea_row op (mod_of p)) (option_or (xchg_row op (mod_of p) (rex_b p)) (option_or (nop_one op (rex_b p))
    (option_or (unless_opsize size (stack_row op reg)) (option_or (alu_row op reg) (option_or (test_row op reg) (option_or (unary_row op reg) (option_or (shift_row op reg)
    (option_or (widen_row op) (option_or (unless_opsize size (leave_row op)) (flag_row op))))))))))))

-- the same of the opcodes after 0F
abbrev pub exact_two : Parts → Option Template
exact_two p = option_or (extend_two p.opcode p.prefixes.opsize) (option_or (nop_two p.opcode) (condition_row p.opcode))

-- the two that F3 precedes: PAUSE, and ENDBR64, which do nothing
abbrev pub is_repeated_nop : Parts → Bool
is_repeated_nop p = p.prefixes.rep && (not p.prefixes.lock && not p.prefixes.repne)

-- PAUSE
abbrev pub is_pause : Parts → Bool
is_pause p = is_repeated_nop p && (p.opcode == 0x90 && rex_b p == 0)

-- ENDBR64
abbrev pub is_landing : Parts → Bool
is_landing p = is_repeated_nop p && (p.opcode == 0x1e && modrm_of p == 0xfa)

-- all others are asked. Of x87, FWAIT, and 0F 00, 0F 01, 0F AE and 0F C7 no copy is taken.
abbrev pub asked_one : Parts → Template
asked_one p = Asked false (not (within 0xd8 0xdf p.opcode || p.opcode == 0x9b))

-- SYSCALL, which a processor executes after F2 and F3 too, and refuses after F0 (#UD)
abbrev pub is_system_call : Parts → Bool
is_system_call p = p.opcode == 0x05 && not p.prefixes.lock

-- after F2 or F3 no copy is taken of it
abbrev pub is_repeated_syscall : Parts → Bool
is_repeated_syscall p = p.opcode == 0x05 && (p.prefixes.repne || p.prefixes.rep)

-- the same of the opcodes after 0F, of which 05 is SYSCALL
abbrev pub asked_two : Parts → Template
asked_two p = Asked (is_system_call p) (not (among (0x00 ∷ 0x01 ∷ 0xae ∷ 0xc7 ∷ []) p.opcode || is_repeated_syscall p))

-- with F0, F2 or F3 an instruction is asked, or one of the two that do nothing; without, it is exact or else asked
abbrev pub exact_or_asked : Bool → Bool → Option Template → Template → Template
exact_or_asked repeated nop exact asked = if repeated then (if nop then Nop else asked) else unwrap_or exact asked

-- what a one-byte opcode is
abbrev pub one_byte : Parts → Template
one_byte p = if ends_one p.opcode (reg_of p) then Ending else unwrap_or (branch_one p) (exact_or_asked (repeats p) (is_pause p) (exact_one p) (asked_one p))

-- what an opcode after 0F is
abbrev pub two_byte : Parts → Template
two_byte p = if ends_two p.opcode then Ending else unwrap_or (branch_two p) (exact_or_asked (repeats p) (is_landing p) (exact_two p) (asked_two p))

-- by the opcode map; the other maps are asked
unfoldable pub template : Parts → Template
template p =
    if clashes p then Ending
    else (if p.map == 0 then one_byte p
    else (if p.map == 1 then two_byte p
    else Asked false true))
