-- An event as data: a list of steps, each one instruction, with its bytes and what it does. Theorems cite it.
-- (Intel SDM, volume 2, ADD, CMP, INC, Jcc, LAHF, LEA, LOCK, MOV, SAHF, SETcc.)
use Rattle.std.specs.Prelude.{◌≡◌, ℕ, zero, suc, ◌+◌, ◌*◌, ◌-◌, ◌%◌, ◌^◌, ◌<◌, ◌≤◌, nat_lt, Bool, true, false, if◌then◌else◌, List, [], ◌∷◌, ◌++◌, length, take, Some, None}
use Rattle.cpu_alu.specs.declared.operation.Width.TheVariants.{W8, W16, W32, W64}
use Rattle.cpu_alu.specs.declared.operation.AluOp.TheVariants.{Add, Sub, Inc}
use Rattle.length_decode.specs.declared.escape_bytes.Escape.TheVariants.{OneByte, TwoByte}
use Rattle.length_decode.specs.Spelling.{Fields, spelling}
use Rattle.insn_form.specs.declared.form.Seg.TheVariants.{Plain}
use Rattle.insn_form.specs.declared.form.MemForm.{MemForm}
use Rattle.insn_form.specs.declared.form.Spot.TheVariants.{Reg, Mem}
use Rattle.insn_form.specs.declared.form.Value.TheVariants as value
use Rattle.insn_form.specs.declared.form.Op.{Op}
use Rattle.insn_form.specs.declared.form.Op.TheVariants.{Mov, Extend, Lea, Alu, Jcc, Sahf, Lahf}
use Rattle.insn_form.specs.Operands.{rsp}
use Rattle.insn_form.specs.Filling.{integer_of, immediate}
use Rattle.insn_form.specs.Resolving.{absolute}
use Rattle.insn_form.specs.FlagsBack.{seto_al, add_al}
use Rattle.relocate_insn.specs.Pieces.{four}
use Rattle.event_steps.specs.declared.step.Place.TheVariants.{At, Below}
use Rattle.event_steps.specs.declared.step.EventStep.TheVariants.{Cover, CountUp, Store, Load, StoreLow, LoadLow, Keep, Give, Raise, SetLow, NextLow, CompareLow, Reduce, Put, Claim, IntoAh, IntoAl, FromAl, FromAh, Compare, CompareAt, SkipIf}
use Rattle.event_steps.specs.declared.step.Place.{Place}
use Rattle.event_steps.specs.declared.step.Datum.{Datum}
use Rattle.event_steps.specs.declared.step.EventStep.{EventStep}

-- how spellings are read: as a single processor reads them, or as threads that share their memory do
pub data Mode : Type 0 where
  Alone : Mode
  Shared : Mode

-- the datum that a step reads or writes, if it does
abbrev pub datum_of : EventStep → ℕ
datum_of (Cover k) = k
datum_of (CountUp locked k) = k
datum_of (Store k) = k
datum_of (Load k) = k
datum_of (StoreLow k) = k
datum_of (LoadLow k) = k
datum_of (CompareAt k n) = k
datum_of (Put k n) = k
datum_of (Claim k) = k
datum_of s = 0

abbrev pub datum : List Datum → ℕ → Datum
datum [] k = record { place = At 0; size = 8; number = true }
datum (d ∷ ds) zero = d
datum (d ∷ ds) (suc k) = datum ds k

abbrev pub place_in : List Datum → EventStep → Place
place_in ds s = (datum ds (datum_of s)).place

-- how many bytes an operand's displacement and its address form add to an opcode of a place, and the displacement
abbrev pub disp_of : Place → List ℕ
disp_of (At a) = four a
disp_of (Below d) = four (2 ^ 32 - d)

-- ModRM of rax, or of an opcode's extension, and such an operand; SIB: 04 25 for an address, 84 24 below rsp
abbrev pub modrm_of : Place → ℕ
modrm_of (At a) = 0x04
modrm_of (Below d) = 0x84

abbrev pub sib_of : Place → ℕ
sib_of (At a) = 0x25
sib_of (Below d) = 0x24

-- the operand
abbrev pub form_of : Place → MemForm
form_of (At a) = record { base = None; index = None; scale = 1; disp = integer_of (disp_of (At a)); rip = false; seg = Plain; short = false; tail = 6 }
form_of (Below d) = record { base = Some rsp; index = None; scale = 1; disp = integer_of (disp_of (Below d)); rip = false; seg = Plain; short = false; tail = 6 }

-- the operand of the element of an array whose number is in rax
abbrev pub element_of : Place → MemForm
element_of p = record { base = None; index = Some 0; scale = 4; disp = integer_of (disp_of p); rip = false; seg = Plain; short = false; tail = 6 }

-- how many bytes an instruction has
abbrev pub size : EventStep → ℕ
size (Cover k) = 8
size (CountUp true k) = 9
size (CountUp false k) = 8
size (Store k) = 8
size (Load k) = 8
size (StoreLow k) = 7
size (LoadLow k) = 7
size (Keep r) = 3
size (Give r) = 3
size Raise = 4
size (SetLow n) = 5
size NextLow = 3
size (CompareLow n) = 5
size (Reduce wide) = 3
size (Put k n) = 11
size (Claim k) = 9
size IntoAh = 1
size IntoAl = 3
size FromAl = 2
size FromAh = 1
size (Compare r n) = 7
size (CompareAt k n) = 12
size (SkipIf cc k) = 2

-- how many bytes steps have
abbrev pub long : List EventStep → ℕ
long [] = 0
long (s ∷ ss) = size s + long ss

-- over how many bytes a step may jump, in front of other steps
abbrev pub over : EventStep → List EventStep → ℕ
over (SkipIf cc k) ss = long (take k ss)
over s ss = 0

-- REX with W, and with B for r8 to r15
abbrev pub wide_prefix : ℕ → ℕ
wide_prefix r = if nat_lt r 8 then 0x48 else 0x49

-- the condition code of a jump is one
abbrev pub has_condition : EventStep → Bool
has_condition (SkipIf cc k) = nat_lt cc 16
has_condition s = true

-- the fields of a step whose datum lies at a place, and that may jump over d bytes
abbrev pub fields_of : EventStep → Place → ℕ → Fields
fields_of (Cover k) p d = record { prefixes = []; escape = OneByte; opcode = 0xc6; modrm = Some (modrm_of p); sib = Some (sib_of p); disp = disp_of p; imm = 1 ∷ [] }
fields_of (CountUp true k) p d = record { prefixes = 0xf0 ∷ 0x48 ∷ []; escape = OneByte; opcode = 0xff; modrm = Some (modrm_of p); sib = Some (sib_of p); disp = disp_of p; imm = [] }
fields_of (CountUp false k) p d = record { prefixes = 0x48 ∷ []; escape = OneByte; opcode = 0xff; modrm = Some (modrm_of p); sib = Some (sib_of p); disp = disp_of p; imm = [] }
fields_of (Store k) p d = record { prefixes = 0x48 ∷ []; escape = OneByte; opcode = 0x89; modrm = Some (modrm_of p); sib = Some (sib_of p); disp = disp_of p; imm = [] }
fields_of (Load k) p d = record { prefixes = 0x48 ∷ []; escape = OneByte; opcode = 0x8b; modrm = Some (modrm_of p); sib = Some (sib_of p); disp = disp_of p; imm = [] }
fields_of (StoreLow k) p d = record { prefixes = []; escape = OneByte; opcode = 0x89; modrm = Some (modrm_of p); sib = Some (sib_of p); disp = disp_of p; imm = [] }
fields_of (LoadLow k) p d = record { prefixes = []; escape = OneByte; opcode = 0x8b; modrm = Some (modrm_of p); sib = Some (sib_of p); disp = disp_of p; imm = [] }
fields_of (Keep r) p d = record { prefixes = wide_prefix r ∷ []; escape = OneByte; opcode = 0x89; modrm = Some (0xc0 + r % 8); sib = None; disp = []; imm = [] }
fields_of (Give r) p d = record { prefixes = (if nat_lt r 8 then 0x48 else 0x4c) ∷ []; escape = OneByte; opcode = 0x89; modrm = Some (0xc0 + 8 * (r % 8)); sib = None; disp = []; imm = [] }
fields_of Raise p d = record { prefixes = 0x48 ∷ []; escape = OneByte; opcode = 0x8d; modrm = Some 0x40; sib = None; disp = 1 ∷ []; imm = [] }
fields_of (SetLow n) p d = record { prefixes = []; escape = OneByte; opcode = 0xb8; modrm = None; sib = None; disp = []; imm = four n }
fields_of NextLow p d = record { prefixes = []; escape = OneByte; opcode = 0x8d; modrm = Some 0x40; sib = None; disp = 1 ∷ []; imm = [] }
fields_of (CompareLow n) p d = record { prefixes = []; escape = OneByte; opcode = 0x3d; modrm = None; sib = None; disp = []; imm = four n }
fields_of (Reduce true) p d = record { prefixes = []; escape = TwoByte; opcode = 0xb7; modrm = Some 0xc0; sib = None; disp = []; imm = [] }
fields_of (Reduce false) p d = record { prefixes = []; escape = TwoByte; opcode = 0xb6; modrm = Some 0xc0; sib = None; disp = []; imm = [] }
fields_of (Put k n) p d = record { prefixes = []; escape = OneByte; opcode = 0xc7; modrm = Some 0x04; sib = Some 0x85; disp = disp_of p; imm = four n }
fields_of (Claim k) p d = record { prefixes = 0xf0 ∷ []; escape = TwoByte; opcode = 0xc1; modrm = Some (modrm_of p); sib = Some (sib_of p); disp = disp_of p; imm = [] }
fields_of IntoAh p d = record { prefixes = []; escape = OneByte; opcode = 0x9f; modrm = None; sib = None; disp = []; imm = [] }
fields_of IntoAl p d = record { prefixes = []; escape = TwoByte; opcode = 0x90; modrm = Some 0xc0; sib = None; disp = []; imm = [] }
fields_of FromAl p d = record { prefixes = []; escape = OneByte; opcode = 0x04; modrm = None; sib = None; disp = []; imm = 0x7f ∷ [] }
fields_of FromAh p d = record { prefixes = []; escape = OneByte; opcode = 0x9e; modrm = None; sib = None; disp = []; imm = [] }
fields_of (Compare r n) p d = record { prefixes = wide_prefix r ∷ []; escape = OneByte; opcode = 0x81; modrm = Some (0xf8 + r % 8); sib = None; disp = []; imm = four n }
fields_of (CompareAt k n) p d = record { prefixes = 0x48 ∷ []; escape = OneByte; opcode = 0x81; modrm = Some (0x38 + modrm_of p); sib = Some (sib_of p); disp = disp_of p; imm = four n }
fields_of (SkipIf cc k) p d = record { prefixes = []; escape = OneByte; opcode = 0x70 + cc; modrm = None; sib = None; disp = []; imm = d ∷ [] }

-- what it does, where next is the address behind it
abbrev pub op_of : EventStep → Place → ℕ → ℕ → Op
op_of (Cover k) p d next = Mov W8 (Mem (form_of p)) (value.Imm 1)
op_of (CountUp locked k) p d next = Alu Inc W64 (Mem (form_of p)) (value.Imm 1) true
op_of (Store k) p d next = Mov W64 (Mem (form_of p)) (value.Spot (Reg 0))
op_of (Load k) p d next = Mov W64 (Reg 0) (value.Spot (Mem (form_of p)))
op_of (StoreLow k) p d next = Mov W32 (Mem (form_of p)) (value.Spot (Reg 0))
op_of (LoadLow k) p d next = Mov W32 (Reg 0) (value.Spot (Mem (form_of p)))
op_of (Keep r) p d next = Mov W64 (Reg r) (value.Spot (Reg 0))
op_of (Give r) p d next = Mov W64 (Reg 0) (value.Spot (Reg r))
op_of Raise p d next = Lea W64 0 (record { base = Some 0; index = None; scale = 1; disp = integer_of (1 ∷ []); rip = false; seg = Plain; short = false; tail = 2 })
op_of (SetLow n) p d next = Mov W32 (Reg 0) (value.Imm (immediate W32 (four n)))
op_of NextLow p d next = Lea W32 0 (record { base = Some 0; index = None; scale = 1; disp = integer_of (1 ∷ []); rip = false; seg = Plain; short = false; tail = 2 })
op_of (CompareLow n) p d next = Alu Sub W32 (Reg 0) (value.Imm (immediate W32 (four n))) false
op_of (Reduce true) p d next = Extend false W16 W32 0 (Reg 0)
op_of (Reduce false) p d next = Extend false W8 W32 0 (Reg 0)
op_of (Put k n) p d next = Mov W32 (Mem (element_of p)) (value.Imm (immediate W32 (four n)))
op_of (Claim k) p d next = Alu Add W32 (Mem (form_of p)) (value.Spot (Reg 0)) true
op_of IntoAh p d next = Lahf
op_of IntoAl p d next = seto_al
op_of FromAl p d next = add_al
op_of FromAh p d next = Sahf
op_of (Compare r n) p d next = Alu Sub W64 (Reg r) (value.Imm (immediate W64 (four n))) false
op_of (CompareAt k n) p d next = Alu Sub W64 (Mem (form_of p)) (value.Imm (immediate W64 (four n))) false
op_of (SkipIf cc k) p d next = Jcc cc (absolute next (integer_of (d ∷ [])))

-- LOCK INC is one step among threads alone, and of bytes at an address
abbrev pub IsLocked : Mode → Place → Type 0
IsLocked Shared (At a) = Unit {0}
IsLocked mode p = ⊥

-- an array lies at an address
abbrev pub IsFixedPlace : Place → Type 0
IsFixedPlace (At a) = Unit {0}
IsFixedPlace (Below d) = ⊥

-- a step that the mode has: a register has a code below 16 and isn't rsp, and a jump has one of six conditions
abbrev pub IsStep : Mode → Place → EventStep → Type 0
IsStep mode p (CountUp true k) = IsLocked mode p
IsStep mode p (Claim k) = IsLocked mode p
IsStep mode p (Put k n) = IsFixedPlace p × (n < 2 ^ 31)
IsStep mode p (SetLow n) = n < 2 ^ 31
IsStep mode p (CompareLow n) = n < 2 ^ 31
IsStep mode p (Keep r) = (r < 16) × (r ≡ rsp → ⊥)
IsStep mode p (Give r) = r < 16
IsStep mode p (Compare r n) = (r < 16) × (n < 2 ^ 31)
IsStep mode p (CompareAt k n) = n < 2 ^ 31
IsStep mode p (SkipIf cc k) = (2 ≤ cc) × (cc < 8)
IsStep mode p s = Unit {0}

-- how many bytes of its datum a step takes
abbrev pub taken : EventStep → ℕ
taken (Cover k) = 1
taken (StoreLow k) = 4
taken (LoadLow k) = 4
taken (Claim k) = 4
taken (Put k n) = 4
taken s = 8

-- a datum of so many bytes, which is a number
abbrev pub IsNumber : List Datum → ℕ → ℕ → Type 0
IsNumber ds k n = (k < length ds) × ((datum ds k).size ≡ n) × ((datum ds k).number ≡ true)

-- it names no datum, or one that there is and that has as many bytes as it takes
abbrev pub HasDatum : List Datum → EventStep → Type 0
HasDatum ds (Cover k) = IsNumber ds k 1
HasDatum ds (CountUp locked k) = IsNumber ds k 8
HasDatum ds (Store k) = IsNumber ds k 8
HasDatum ds (Load k) = IsNumber ds k 8
HasDatum ds (StoreLow k) = IsNumber ds k 4
HasDatum ds (LoadLow k) = IsNumber ds k 4
HasDatum ds (CompareAt k n) = IsNumber ds k 8
HasDatum ds (Claim k) = IsNumber ds k 4
HasDatum ds (Put k n) = (k < length ds) × ((datum ds k).number ≡ false)
HasDatum ds s = Unit {0}

-- each step is one, and jumps over fewer than 128 bytes
abbrev pub AreSteps : Mode → List Datum → List EventStep → Type 0
AreSteps mode ds [] = Unit {0}
AreSteps mode ds (s ∷ ss) = IsStep mode (place_in ds s) s × HasDatum ds s × (over s ss < 128) × AreSteps mode ds ss

-- the code of steps
abbrev pub code : List Datum → List EventStep → List ℕ
code ds [] = []
code ds (s ∷ ss) = spelling (fields_of s (place_in ds s) (over s ss)) ++ code ds ss
