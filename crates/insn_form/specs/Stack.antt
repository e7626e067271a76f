-- The stack (Intel SDM, volume 2: PUSH, POP, LEAVE). It has 64-bit entries, and no flag changes. Theorems cite it.
use Rattle.std.specs.Prelude.{ℕ, ◌-◌, ◌^◌, Some, None}
use Rattle.cpu_alu.specs.declared.operation.Width.TheVariants.{W64}
use Rattle.cpu_alu.specs.Widths.{cut}
use Rattle.cpu_state.specs.declared.state.Core.{Core}
use Rattle.cpu_state.specs.Bytes.{advanced}
use Rattle.insn_form.specs.declared.effect.Span.{Span}
use Rattle.insn_form.specs.declared.form.Spot.{Spot}
use Rattle.insn_form.specs.declared.form.Value.{Value}
use Rattle.insn_form.specs.Operands.{reg, with_reg, rsp, rbp, spot_span, value_span, value_number, with_spot}
use Rattle.insn_form.specs.Effect.{Effect, to_next}

-- rsp one entry lower and one entry higher
abbrev pub lowered : Core → Core
lowered c = with_reg c rsp (advanced (reg c rsp) (2 ^ 64 - 8))

-- rsp one entry higher
abbrev pub raised : Core → Core
raised c = with_reg c rsp (advanced (reg c rsp) 8)

-- the entry at an address, and the one at rsp
abbrev pub entry_at : ℕ → Span
entry_at a = record { addr = a; size = 8 }

-- the entry at rsp
abbrev pub top : Core → Span
top c = entry_at (reg c rsp)

-- PUSH: the operand is read before rsp falls
abbrev pub push : Value → Core → Effect
push src c = record { read = value_span c W64 src; write = Some (top (lowered c)); out = λ v. to_next (lowered c) (value_number c W64 v src) }

-- POP: an address in memory is taken after rsp has risen, and rsp itself gets what was read
abbrev pub pop : Spot → Core → Effect
pop dst c = record { read = Some (top c); write = spot_span (raised c) W64 dst; out = λ v. to_next (with_spot (raised c) W64 dst v) v }

-- LEAVE: rsp is set to rbp, and rbp is popped
abbrev pub leave_frame : Core → Effect
leave_frame c = record {
  read = Some (entry_at (reg c rbp));
  write = None;
  out = λ v. to_next (with_reg (with_reg c rsp (advanced (reg c rbp) 8)) rbp (cut W64 v)) 0;
}
