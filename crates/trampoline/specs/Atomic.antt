-- Which instructions may be displaced where threads share memory, and how long their code is then. Theorems cite it.
use Rattle.std.specs.Prelude.{ℕ, ◌+◌, ◌==◌, Bool, true, false, not, if◌then◌else◌, Option, None, Some, option_map}
use Rattle.insn_form.specs.declared.form.Spot.{Spot}
use Rattle.insn_form.specs.declared.form.Spot.TheVariants.{Reg, High, Mem}
use Rattle.insn_form.specs.declared.form.Target.{Target}
use Rattle.insn_form.specs.declared.form.Target.TheVariants.{Rel, Through}
use Rattle.insn_form.specs.declared.form.Op.{Op}
use Rattle.insn_form.specs.declared.form.Op.TheVariants.{Call}
use Rattle.insn_form.specs.declared.form.Insn.{Insn}
use Rattle.insn_form.specs.declared.form.Insn.TheVariants.{Exact, Asked, Ending}
use Rattle.insn_form.specs.Operands.{rsp}
use Rattle.insn_form.specs.Displacing.{displaced_len, falls}

-- A call through such a spot may be displaced where threads share memory: through a register other
-- than rsp. Through memory or rsp it would read and push in two steps.
abbrev pub spot_is_atomic : Spot → Bool
spot_is_atomic (Reg r) = not (r == rsp)
spot_is_atomic (High r) = false
spot_is_atomic (Mem m) = false

-- A call with this target may be displaced where threads share memory.
abbrev pub target_is_atomic : Target → Bool
target_is_atomic (Rel z) = true
target_is_atomic (Through s) = spot_is_atomic s

-- An operation may be displaced where threads share memory: each but a call whose target may not.
abbrev pub op_is_atomic : Op → Bool
op_is_atomic (Call target) = target_is_atomic target
op_is_atomic op = true

-- An instruction may be displaced where threads share memory: each but a call whose target may not.
abbrev pub is_atomic : Insn → Bool
is_atomic (Exact op) = op_is_atomic op
is_atomic (Asked form) = true
is_atomic Ending = true

-- There is an instruction, and it may be displaced where threads share memory.
abbrev pub is_atomic_in : Option Insn → Bool
is_atomic_in None = false
is_atomic_in (Some i) = is_atomic i

-- How many bytes the relocated code of an instruction has where threads share memory, if the
-- instruction can be displaced.
abbrev pub thread_len : Insn → ℕ → ℕ → Option ℕ
thread_len i len addr = if is_atomic i then displaced_len i len addr else None

-- How long the jump back is: none follows an instruction that doesn't fall through.
abbrev pub back : Insn → ℕ
back i = if falls i then 5 else 0

-- How long the relocated code is with the jump back after it, if there is an instruction that can
-- be displaced where threads share memory.
abbrev pub can_by : Option Insn → ℕ → ℕ → Option ℕ
can_by None len addr = None
can_by (Some i) len addr = option_map (λ n. n + back i) (thread_len i len addr)
