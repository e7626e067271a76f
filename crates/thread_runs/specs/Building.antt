-- The trampoline of an instruction for threads, as it is built. Theorems cite it.
use Rattle.std.specs.Prelude.{◌≡◌, ℕ, ◌+◌, Bool, true, ◌==◌, if◌then◌else◌, List, [], ◌++◌, length, Option, Some, None, option_map}
use Rattle.pun_base.specs.declared.action.Action.{Action}
use Rattle.pun_base.specs.declared.action.Action.TheVariants.{Cover, Count, Ring, When}
use Rattle.pun_base.specs.declared.action.Base.TheVariants as base
use Rattle.pun_base.specs.declared.action.Comparison.{Comparison}
use Rattle.pun_base.specs.declared.action.Comparisons.{Comparisons}
use Rattle.pun_base.specs.Actions.{AreComparisons, listed}
use Rattle.insn_form.specs.declared.form.Spot.{Spot}
use Rattle.insn_form.specs.declared.form.Spot.TheVariants.{Reg, High, Mem}
use Rattle.insn_form.specs.declared.form.Target.{Target}
use Rattle.insn_form.specs.declared.form.Target.TheVariants.{Rel, Through}
use Rattle.insn_form.specs.declared.form.Op.{Op}
use Rattle.insn_form.specs.declared.form.Op.TheVariants.{Call}
use Rattle.insn_form.specs.declared.form.Insn.{Insn}
use Rattle.insn_form.specs.declared.form.Insn.TheVariants.{Exact, Asked, Ending}
use Rattle.insn_form.specs.Operands.{rsp}
use Rattle.insn_form.specs.Displacing.{falls}
use Rattle.trampoline.specs.Trampolines.{back_if}
use Rattle.thread_runs.specs.ThreadCode.{Kind, Marks, Keeps, is_ring_length, event_len, call_reg_code}
use Rattle.trampoline.specs.Atomic.{thread_len}

-- the operand of an indirect call
abbrev pub target_spot : Target → Option Spot
target_spot (Rel z) = None
target_spot (Through s) = Some s

-- the operand of an operation that is an indirect call
abbrev pub op_spot : Op → Option Spot
op_spot (Call target) = target_spot target
op_spot op = None

-- the operand of an instruction that is an indirect call
abbrev pub called_spot : Insn → Option Spot
called_spot (Exact op) = op_spot op
called_spot (Asked form) = None
called_spot Ending = None

-- the register of an operand, but for rsp
abbrev pub spot_register : Spot → Option ℕ
spot_register (Reg r) = if r == rsp then None else Some r
spot_register (High r) = None
spot_register (Mem m) = None

-- for a call through an operand, that it is through this register; None where the operand is memory
-- or rsp
abbrev pub some_register : Option ℕ → Option (Option ℕ)
some_register None = None
some_register (Some r) = Some (Some r)

-- the register of a call with this operand: Some None without an operand, for no indirect call, and
-- None where the operand is memory or rsp
abbrev pub register_if : Option Spot → Option (Option ℕ)
register_if None = Some None
register_if (Some s) = some_register (spot_register s)

-- the register of an indirect call: Some None for an instruction that is none, and None where the
-- operand is memory or rsp
abbrev pub call_register : Insn → Option (Option ℕ)
call_register i = register_if (called_spot i)

-- the code after the event, made of the relocated code of trampolines for one thread
abbrev pub work_by : Option ℕ → List ℕ → Bool → ℕ → ℕ → List ℕ
work_by None work falls to next = work ++ back_if falls (to + length work) next
work_by (Some r) work falls to next = call_reg_code r next

-- the comparisons of a condition, and none without one
abbrev pub conditions_of : Option Comparisons → List Comparison
conditions_of None = []
conditions_of (Some list) = listed list

-- a condition that can be asked for, or none
abbrev pub CanBeAsked : Option Comparisons → Type 0
CanBeAsked when = AreComparisons (conditions_of when)

-- what the event of an action does
abbrev pub kind_of : Action → Kind
kind_of Cover = Marks base.Cover
kind_of Count = Marks base.Count
kind_of (Ring len) = Keeps len
kind_of (When b list) = Marks b

-- the event of a trampoline, where it has one
abbrev pub event_of : Option Action → Option Kind
event_of None = None
event_of (Some a) = Some (kind_of a)

-- the comparisons of its condition, and none without one
abbrev pub when_of : Option Action → List Comparison
when_of (Some (When b list)) = listed list
when_of a = []

-- an event that threads can have: the lengths of rings are those that they can share
abbrev pub CanBeShared : Option Action → Type 0
CanBeShared (Some (When b list)) = AreComparisons (listed list)
CanBeShared (Some (Ring len)) = is_ring_length len ≡ true
CanBeShared a = Unit {0}

-- how many bytes the trampoline of an instruction has, with an event or without
abbrev pub size_if : Option Kind → List Comparison → Insn → ℕ → ℕ → Option ℕ
size_if event cs i len addr = option_map (λ n. event_len event cs + n + (if falls i then 5 else 0)) (thread_len i len addr)

-- how many bytes the trampoline of a site that counts under no condition has
abbrev pub thread_size : Insn → ℕ → ℕ → Option ℕ
thread_size i len addr = option_map (λ n. 32 + n + (if falls i then 5 else 0)) (thread_len i len addr)
