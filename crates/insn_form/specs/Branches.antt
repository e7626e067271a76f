-- Branches (Intel SDM, volume 2: CALL, Jcc, JMP, LOOP/LOOPcc, RET). No flag changes. Theorems cite it.
use Rattle.std.specs.Prelude.{ℕ, ◌+◌, ◌-◌, ◌%◌, ◌^◌, Bool, true, not, ◌&&◌, ◌==◌, if◌then◌else◌, Option, Some, None, ℤ}
use Rattle.cpu_alu.specs.declared.operation.Width.TheVariants.{W64}
use Rattle.cpu_alu.specs.declared.flag_word.Flags.{Flags}
use Rattle.cpu_state.specs.declared.state.Core.{Core}
use Rattle.cpu_state.specs.Bytes.{advanced}
use Rattle.insn_form.specs.declared.effect.Span.{Span}
use Rattle.insn_form.specs.declared.form.Target.{Target}
use Rattle.insn_form.specs.declared.form.Target.TheVariants.{Rel, Through}
use Rattle.insn_form.specs.Operands.{word_of, reg, with_reg, rcx, rsp, spot_span, spot_number}
use Rattle.insn_form.specs.Effect.{Effect, to_target}
use Rattle.insn_form.specs.Stack.{lowered, top}

-- the entry in memory that tells the target
abbrev pub target_span : Core → Target → Option Span
target_span c (Rel z) = None
target_span c (Through s) = spot_span c W64 s

-- the target, where v was read
abbrev pub target_address : Core → ℕ → Target → ℕ
target_address c v (Rel z) = word_of z
target_address c v (Through s) = spot_number c W64 v s

-- to a target if a condition holds, else to the next instruction
abbrev pub jcc : Bool → ℤ → Core → Effect
jcc taken z c = record { read = None; write = None; out = λ v. record { core = c; target = if taken then Some (word_of z) else None; value = 0; undefined = 0 } }

-- LOOPNE, LOOPE and LOOP, the kinds 0 to 2: rcx is one lower; they branch where it isn't 0 and, of the first two, by ZF
abbrev pub counted : Core → ℕ
counted c = advanced (reg c rcx) (2 ^ 64 - 1)

-- LOOPNE, LOOPE or LOOP branches, where rcx has come to a count
abbrev pub goes_round : ℕ → ℕ → Flags → Bool
goes_round kind count f = not (count == 0) && (if kind == 0 then not f.zf else (if kind == 1 then f.zf else true))

-- JRCXZ, the kind 3: it branches where rcx, or ecx with prefix 67, is 0
abbrev pub is_empty : Bool → ℕ → Bool
is_empty short count = count % (if short then 2 ^ 32 else 2 ^ 64) == 0

-- the four of them, by their kinds
abbrev pub loopcc : ℕ → ℤ → Bool → Core → Effect
loopcc kind z short c =
    if kind == 3 then jcc (is_empty short (reg c rcx)) z c
    else jcc (goes_round kind (counted c) c.flags) z (with_reg c rcx (counted c))

-- JMP
abbrev pub jmp : Target → Core → Effect
jmp t c = record { read = target_span c t; write = None; out = λ v. to_target (target_address c v t) c 0 }

-- CALL: the next address is pushed after the target was read
abbrev pub call : Target → ℕ → Core → Effect
call t next c = record { read = target_span c t; write = Some (top (lowered c)); out = λ v. to_target (target_address c v t) (lowered c) next }

-- RET: rip is popped, and so many bytes more are taken off
abbrev pub ret : ℕ → Core → Effect
ret extra c = record { read = Some (top c); write = None; out = λ v. to_target v (with_reg c rsp (advanced (reg c rsp) (8 + extra))) 0 }
