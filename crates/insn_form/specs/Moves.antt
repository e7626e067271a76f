-- Moves, as effects. No flag changes. Theorems cite it.
-- (Intel SDM, volume 2: MOV, MOVZX, MOVSX/MOVSXD, LEA, XCHG, NOP, CMOVcc, SETcc, CBW/CWDE/CDQE, CWD/CDQ/CQO.)
use Rattle.std.specs.Prelude.{ℕ, ◌-◌, ◌^◌, Bool, true, false, if◌then◌else◌, None}
use Rattle.cpu_alu.specs.declared.operation.Width.{Width}
use Rattle.cpu_alu.specs.declared.operation.Width.TheVariants.{W8, W16, W32, W64}
use Rattle.cpu_alu.specs.Widths.{bits, cut, wrapped, signed, is_negative}
use Rattle.cpu_state.specs.declared.state.Core.{Core}
use Rattle.insn_form.specs.declared.form.MemForm.{MemForm}
use Rattle.insn_form.specs.declared.form.Spot.{Spot}
use Rattle.insn_form.specs.declared.form.Spot.TheVariants.{Reg}
use Rattle.insn_form.specs.declared.form.Value.{Value}
use Rattle.insn_form.specs.Operands.{reg, rax, rdx, offset, spot_span, value_span, spot_number, value_number, with_spot}
use Rattle.insn_form.specs.Conditions.{is_met}
use Rattle.insn_form.specs.Effect.{Effect, to_next, in_core}

-- MOV
abbrev pub mov : Width → Spot → Value → Core → Effect
mov w dst src c = record {
  read = value_span c w src;
  write = spot_span c w dst;
  out = λ v. let x = value_number c w v src in to_next (with_spot c w dst x) x;
}

-- a number of one width in another one, its sign or zeros above it
abbrev pub extended : Bool → Width → Width → ℕ → ℕ
extended true from w x = wrapped w (signed from x)
extended false from w x = x

-- MOVZX, MOVSX, MOVSXD
abbrev pub movx : Bool → Width → Width → ℕ → Spot → Core → Effect
movx sign from w dst src c = record {
  read = spot_span c from src;
  write = None;
  out = λ v. to_next (with_spot c w (Reg dst) (extended sign from w (spot_number c from v src))) 0;
}

-- LEA: no base of a segment is added
abbrev pub lea : Width → ℕ → MemForm → Core → Effect
lea w dst mem c = in_core (with_spot c w (Reg dst) (offset c mem))

-- XCHG of two registers
abbrev pub xchg : Width → Spot → Spot → Core → Effect
xchg w a b c = in_core (with_spot (with_spot c w a (spot_number c w 0 b)) w b (spot_number c w 0 a))

-- CMOVcc: the source is read, and the register written, whether the condition is met or not
abbrev pub cmov : ℕ → Width → ℕ → Spot → Core → Effect
cmov cc w dst src c = record {
  read = spot_span c w src;
  write = None;
  out = λ v. to_next (with_spot c w (Reg dst) (if is_met cc c.flags then spot_number c w v src else cut w (reg c dst))) 0;
}

-- SETcc
abbrev pub setcc : ℕ → Spot → Core → Effect
setcc cc dst c = record {
  read = None;
  write = spot_span c W8 dst;
  out = λ v. let x = if is_met cc c.flags then 1 else 0 in to_next (with_spot c W8 dst x) x;
}

-- the width of half as many bits
abbrev pub half : Width → Width
half W8 = W8
half W16 = W8
half W32 = W16
half W64 = W32

-- CBW, CWDE, CDQE: the lower half of rax at the width, with its sign
abbrev pub widened : Width → ℕ → ℕ
widened w a = extended true (half w) w (cut (half w) a)

-- CWD, CDQ, CQO: the sign of rax at the width, in each bit
abbrev pub sign_filled : Width → ℕ → ℕ
sign_filled w a = if is_negative w (cut w a) then 2 ^ bits w - 1 else 0

-- the effect of these six: of the first three on rax, of the others on rdx
abbrev pub widen : Width → Bool → Core → Effect
widen w false c = in_core (with_spot c w (Reg rax) (widened w (reg c rax)))
widen w true c = in_core (with_spot c w (Reg rdx) (sign_filled w (reg c rax)))
