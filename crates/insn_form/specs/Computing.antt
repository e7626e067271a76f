-- Arithmetic, as effects. Theorems cite it.
-- (Intel SDM, volume 2: ADC, ADD, AND, CMP, DEC, INC, NEG, NOT, OR, SAL/SAR/SHL/SHR, SBB, SUB, TEST, XOR.)
use Rattle.std.specs.Prelude.{◌-◌, ◌^◌, Bool, if◌then◌else◌, None}
use Rattle.cpu_alu.specs.declared.operation.Width.{Width}
use Rattle.cpu_alu.specs.declared.operation.AluOp.{AluOp}
use Rattle.cpu_alu.specs.declared.outcome.AluOut.{AluOut}
use Rattle.cpu_alu.specs.Widths.{bits}
use Rattle.cpu_alu.specs.Arithmetic.{arithmetic}
use Rattle.cpu_state.specs.declared.state.Core.{Core}
use Rattle.insn_form.specs.declared.effect.Out.{Out}
use Rattle.insn_form.specs.declared.form.Spot.{Spot}
use Rattle.insn_form.specs.declared.form.Value.{Value}
use Rattle.insn_form.specs.Operands.{with_flags, spot_span, value_span, spot_number, value_number, with_spot}
use Rattle.insn_form.specs.Effect.{Effect, to_next, either_span}

-- the result is stored if it is kept; the flags are set, and some may be undefined
abbrev pub computed : AluOut → Width → Spot → Bool → Core → Out
computed o w dst keep c =
    record { core = with_flags (if keep then with_spot c w dst o.value else c) o.flags; target = None; value = o.value; undefined = o.undefined }

-- an operation on two operands, of which one at most is in memory
abbrev pub computing : AluOp → Width → Spot → Value → Bool → Core → Effect
computing op w dst src keep c = record {
  read = either_span (spot_span c w dst) (value_span c w src);
  write = if keep then spot_span c w dst else None;
  out = λ v. computed (arithmetic op w (spot_number c w v dst) (value_number c w v src) c.flags) w dst keep c;
}

-- NOT: each bit is turned, and no flag changes
abbrev pub invert : Width → Spot → Core → Effect
invert w dst c = record {
  read = spot_span c w dst;
  write = spot_span c w dst;
  out = λ v. let x = 2 ^ bits w - 1 - spot_number c w v dst in to_next (with_spot c w dst x) x;
}
