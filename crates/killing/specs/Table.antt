-- Which operations kill which places, by their forms. Theorems cite it.
-- (Intel SDM, volume 2, the instructions' pages: "Flags Affected"; volume 1, section 3.4.1.1: 32-bit results clear the upper half.)
use Rattle.std.specs.Prelude.{ℕ, nat_lt, Bool, true, false, not, ◌&&◌, ◌||◌, ◌==◌, if◌then◌else◌, Option, Some, None}
use Rattle.cpu_alu.specs.declared.operation.Width.{Width}
use Rattle.cpu_alu.specs.declared.operation.Width.TheVariants.{W8, W16, W32, W64}
use Rattle.cpu_alu.specs.declared.operation.AluOp.{AluOp}
use Rattle.cpu_alu.specs.declared.operation.AluOp.TheVariants.{Adc, Sbb, Sub, Xor, Inc, Dec, Shl, Shr, Sar}
use Rattle.cpu_alu.specs.Shifts.{masked}
use Rattle.insn_form.specs.declared.form.MemForm.{MemForm}
use Rattle.insn_form.specs.declared.form.Spot.{Spot}
use Rattle.insn_form.specs.declared.form.Spot.TheVariants.{Reg, High, Mem}
use Rattle.insn_form.specs.declared.form.Value.{Value}
use Rattle.insn_form.specs.declared.form.Value.TheVariants as value
use Rattle.insn_form.specs.declared.form.Op.{Op}
use Rattle.insn_form.specs.declared.form.Op.TheVariants.{Mov, Extend, Lea, Pop, Alu, Widen}
use Rattle.insn_form.specs.declared.form.Insn.{Insn}
use Rattle.insn_form.specs.declared.form.Insn.TheVariants.{Exact, Asked, Ending}
use Rattle.insn_form.specs.Operands.{rcx, rdx, rsp}
use Rattle.killing.specs.declared.place.Place.{Place}
use Rattle.killing.specs.declared.place.Place.TheVariants.{FiveFlags, SixFlags, Register}

-- a constant that isn't 0 as a count of shifts
abbrev pub shifts : Width → Value → Bool
shifts w (value.Spot s) = false
shifts w (value.Imm n) = not (masked w n == 0)
shifts w value.Cl = false

-- an operation sets PF, AF, ZF, SF and OF by its operands and CF
abbrev pub sets_five : AluOp → Width → Value → Bool
sets_five Shl w src = shifts w src
sets_five Shr w src = shifts w src
sets_five Sar w src = shifts w src
sets_five op w src = true

-- CF before matters to it: ADC and SBB add or subtract it, INC and DEC leave it as it is
abbrev pub takes_carry : AluOp → Bool
takes_carry Adc = true
takes_carry Sbb = true
takes_carry Inc = true
takes_carry Dec = true
takes_carry op = false

-- a base or an index is the register
abbrev pub names : ℕ → Option ℕ → Bool
names r None = false
names r (Some x) = x == r

-- an address is made of the register
abbrev pub mem_reads : ℕ → MemForm → Bool
mem_reads r f = names r f.base || names r f.index

-- an operand has the register or a part of it, or an address that is made of it
abbrev pub spot_reads : ℕ → Spot → Bool
spot_reads r (Reg x) = x == r
spot_reads r (High x) = x == r
spot_reads r (Mem f) = mem_reads r f

-- the same of a source
abbrev pub value_reads : ℕ → Value → Bool
value_reads r (value.Spot s) = spot_reads r s
value_reads r (value.Imm n) = false
value_reads r value.Cl = rcx == r

-- a result of the width replaces all 64 bits
abbrev pub is_wide : Width → Bool
is_wide W8 = false
is_wide W16 = false
is_wide W32 = true
is_wide W64 = true

-- a result of a width in a register replaces all of this one
abbrev pub fills : ℕ → Width → ℕ → Bool
fills r w x = x == r && is_wide w

-- of a register and itself the operation makes what doesn't depend on it: 0, and of SBB 0 or all ones by CF
abbrev pub forgets : AluOp → Bool
forgets Sbb = true
forgets Sub = true
forgets Xor = true
forgets op = false

-- an operation kills a place
abbrev pub kills_by : Place → Op → Bool
kills_by FiveFlags (Alu op w dst src keep) = sets_five op w src
kills_by SixFlags (Alu op w dst src keep) = sets_five op w src && not (takes_carry op)
kills_by (Register r) (Mov w (Reg x) src) = fills r w x && not (value_reads r src)
kills_by (Register r) (Extend sign from w x src) = fills r w x && not (spot_reads r src)
kills_by (Register r) (Lea w x mem) = fills r w x && not (mem_reads r mem)
kills_by (Register r) (Alu op w (Reg x) (value.Spot (Reg y)) true) = fills r w x && (y == r && forgets op)
kills_by (Register r) (Pop (Reg x)) = x == r && not (rsp == r)
kills_by (Register r) (Widen w true) = fills r w rdx
kills_by p op = false

-- an instruction kills a place; what the world is asked about kills none
abbrev pub kills : Place → Insn → Bool
kills p (Exact op) = kills_by p op
kills p (Asked form) = false
kills p Ending = false

-- the register that an operation fills where it kills one
abbrev pub destination : Op → Option ℕ
destination (Mov w (Reg x) src) = Some x
destination (Extend sign from w x src) = Some x
destination (Lea w x mem) = Some x
destination (Alu op w (Reg x) src true) = Some x
destination (Pop (Reg x)) = Some x
destination (Widen w true) = Some rdx
destination op = None

-- the same of an instruction
abbrev pub filled_register : Insn → Option ℕ
filled_register (Exact op) = destination op
filled_register (Asked form) = None
filled_register Ending = None

-- A function may change the register without giving it back: rax, rcx, rdx, rsi, rdi, r8 to r11 (System V ABI, AMD64, section 3.2.1). An event
-- uses none of the others: where rsp points a signal's frame is pushed, and a handler pushes what it has to give back.
abbrev pub is_scratch : ℕ → Bool
is_scratch r = nat_lt r 3 || (nat_lt 5 r && nat_lt r 12)

-- a register that is killed or not, if an event may use it
abbrev pub usable_register : Bool → ℕ → Option Place
usable_register b r = if b && is_scratch r then Some (Register r) else None

-- the register that the instruction fills, if it kills it and an event may use it
abbrev pub register_of : Insn → Option ℕ → Option Place
register_of i None = None
register_of i (Some r) = usable_register (kills (Register r) i) r

-- six flags before five, and these before a register
abbrev pub first_place : Bool → Bool → Option Place → Option Place
first_place six five register = if six then Some SixFlags else (if five then Some FiveFlags else register)

-- what an event in front of an instruction may use
abbrev pub killed : Insn → Option Place
killed i = first_place (kills SixFlags i) (kills FiveFlags i) (register_of i (filled_register i))

-- an operand isn't in memory
abbrev pub in_register : Spot → Bool
in_register (Reg x) = true
in_register (High x) = true
in_register (Mem f) = false

-- nor is a source
abbrev pub without_memory : Value → Bool
without_memory (value.Spot s) = in_register s
without_memory (value.Imm n) = true
without_memory value.Cl = true

-- an instruction of the table's forms has no operand in memory, so it can't fault
abbrev pub cannot_fault : Insn → Bool
cannot_fault (Exact (Alu op w dst src keep)) = in_register dst && without_memory src
cannot_fault (Exact (Mov w dst src)) = in_register dst && without_memory src
cannot_fault (Exact (Extend sign from w x src)) = in_register src
cannot_fault (Exact (Lea w x mem)) = true
cannot_fault (Exact (Widen w high)) = true
cannot_fault i = false
