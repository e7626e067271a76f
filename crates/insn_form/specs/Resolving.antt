-- Operations with absolute addresses in place of what is relative to the next instruction. Theorems cite it.
use Rattle.std.specs.Prelude.{ℕ, false, if◌then◌else◌, None, ℤ, pos}
use Rattle.cpu_state.specs.Bytes.{advanced}
use Rattle.insn_form.specs.declared.form.MemForm.{MemForm}
use Rattle.insn_form.specs.declared.form.Spot.{Spot}
use Rattle.insn_form.specs.declared.form.Spot.TheVariants.{Reg, High, Mem}
use Rattle.insn_form.specs.declared.form.Value.{Value}
use Rattle.insn_form.specs.declared.form.Value.TheVariants as value
use Rattle.insn_form.specs.declared.form.Target.{Target}
use Rattle.insn_form.specs.declared.form.Target.TheVariants.{Rel, Through}
use Rattle.insn_form.specs.declared.form.Op.{Op}
use Rattle.insn_form.specs.declared.form.Op.TheVariants.{Mov, Extend, Lea, Xchg, Nop, Push, Pop, Alu, Not, Cmov, Set, Widen, Leave, Cmc, Clc, Stc, Sahf, Lahf, Jcc, Loop, Jmp, Call, Ret}
use Rattle.insn_form.specs.declared.form.Insn.{Insn}
use Rattle.insn_form.specs.declared.form.Insn.TheVariants.{Exact, Asked, Ending}
use Rattle.insn_form.specs.Operands.{word_of}

-- the address at this distance from the next instruction
abbrev pub absolute : ℕ → ℤ → ℤ
absolute next z = pos (advanced next (word_of z))

-- an operand whose displacement is the address that it names
abbrev pub at_address : ℕ → MemForm → MemForm
at_address next f = record { base = f.base; index = f.index; scale = f.scale; disp = absolute next f.disp; rip = false; seg = f.seg; short = f.short; tail = f.tail }

-- so is one that is relative to the next instruction; others stay
abbrev pub resolved_mem : ℕ → MemForm → MemForm
resolved_mem next f = if f.rip then at_address next f else f

-- the same of an operand in a register or in memory
abbrev pub resolved_spot : ℕ → Spot → Spot
resolved_spot next (Reg r) = Reg r
resolved_spot next (High r) = High r
resolved_spot next (Mem f) = Mem (resolved_mem next f)

-- the same of a source
abbrev pub resolved_value : ℕ → Value → Value
resolved_value next (value.Spot s) = value.Spot (resolved_spot next s)
resolved_value next (value.Imm n) = value.Imm n
resolved_value next value.Cl = value.Cl

-- the same of a target
abbrev pub resolved_target : ℕ → Target → Target
resolved_target next (Rel r) = Rel (absolute next r)
resolved_target next (Through s) = Through (resolved_spot next s)

-- the same of an operation
abbrev pub resolved : ℕ → Op → Op
resolved next (Mov w dst src) = Mov w (resolved_spot next dst) (resolved_value next src)
resolved next (Extend signed from w dst src) = Extend signed from w dst (resolved_spot next src)
resolved next (Lea w dst mem) = Lea w dst (resolved_mem next mem)
resolved next (Xchg w a b) = Xchg w (resolved_spot next a) (resolved_spot next b)
resolved next (Nop disp) = Nop None
resolved next (Push src) = Push (resolved_value next src)
resolved next (Pop dst) = Pop (resolved_spot next dst)
resolved next (Alu op w dst src keep) = Alu op w (resolved_spot next dst) (resolved_value next src) keep
resolved next (Not w dst) = Not w (resolved_spot next dst)
resolved next (Cmov cc w dst src) = Cmov cc w dst (resolved_spot next src)
resolved next (Set cc dst) = Set cc (resolved_spot next dst)
resolved next (Widen w high) = Widen w high
resolved next Leave = Leave
resolved next Cmc = Cmc
resolved next Clc = Clc
resolved next Stc = Stc
resolved next Sahf = Sahf
resolved next Lahf = Lahf
resolved next (Jcc cc rel) = Jcc cc (absolute next rel)
resolved next (Loop kind rel short) = Loop kind (absolute next rel) short
resolved next (Jmp target) = Jmp (resolved_target next target)
resolved next (Call target) = Call (resolved_target next target)
resolved next (Ret extra) = Ret extra

-- an asked instruction names its address in the question
abbrev pub resolved_insn : ℕ → Insn → Insn
resolved_insn next (Exact op) = Exact (resolved next op)
resolved_insn next (Asked form) = Asked (record { rip_disp = None; syscall = form.syscall; copied = form.copied })
resolved_insn next Ending = Ending
