-- Steps of an event as a machine makes them, where their code stands. Theorems cite it.
use Rattle.std.specs.Prelude.{◌≡◌, ℕ, ◌+◌, ◌^◌, ◌<◌, Bool, true, false, if◌then◌else◌, List, ◌∷◌, length, take}
use Rattle.cpu_alu.specs.declared.operation.Width.TheVariants.{W32}
use Rattle.cpu_alu.specs.Widths.{cut}
use Rattle.cpu_state.specs.declared.state.Core.{Core}
use Rattle.cpu_state.specs.Fixed.{IsFixed}
use Rattle.insn_form.specs.declared.form.Op.{Op}
use Rattle.insn_form.specs.Operands.{with_reg, rax}
use Rattle.insn_form.specs.Conditions.{is_met}
use Rattle.insn_form.specs.Meaning.{effect}
use Rattle.insn_form.specs.Plan.{number_in}
use Rattle.insn_form.specs.Machine.{Machine}
use Rattle.insn_form.specs.Exactly.{after_op, HasOperands}
use Rattle.insn_form.specs.Step.{Step}
use Rattle.insn_form.specs.Runs.{nowhere}
use Rattle.event_steps.specs.ThreadSteps.{ThreadStep}
use Rattle.event_steps.specs.declared.step.Place.{Place}
use Rattle.event_steps.specs.declared.step.Datum.{Datum}
use Rattle.event_steps.specs.declared.step.EventStep.{EventStep}
use Rattle.event_steps.specs.EventSteps.{Mode, place_in, size, long, over, op_of, AreSteps, code}
use Rattle.event_steps.specs.EventSteps.Mode.{Alone, Shared}
use Rattle.event_steps.specs.declared.step.EventStep.TheVariants.{Claim, SkipIf}

-- one step, by mode
abbrev pub StepIn : Mode → Machine → Machine → Type 0
StepIn Alone s t = Step nowhere s t
StepIn Shared s t = ThreadStep s t

-- LOCK XADD loads what it reads
abbrev pub loads : EventStep → Bool
loads (Claim k) = true
loads s = false

-- the state with the number that an operation read in eax
abbrev pub with_read : Machine → Op → ℕ → Machine → Machine
with_read v op next u = record u { core = with_reg u.core rax (cut W32 (number_in v.mem (effect op next v.core).read)) }

-- the state after a step whose datum lies at a place, in front of a next address
abbrev pub after_step : EventStep → Place → ℕ → ℕ → Machine → Machine
after_step s p d next v = if loads s then with_read v (op_of s p d next) next (after_op v next (op_of s p d next)) else after_op v next (op_of s p d next)

-- the state after a step that stands in front of others, at an address
abbrev pub after : List Datum → EventStep → List EventStep → ℕ → Machine → Machine
after ds s ss at v = after_step s (place_in ds s) (over s ss) (at + size s) v

-- what it reads can be read and what it writes written
abbrev pub Can : List Datum → EventStep → List EventStep → ℕ → Machine → Type 0
Can ds s ss at v = HasOperands v (at + size s) (op_of s (place_in ds s) (over s ss) (at + size s))

-- how many of the next steps are left out after a step
abbrev pub skipped : EventStep → Core → ℕ
skipped (SkipIf cc k) c = if is_met cc c.flags then k else 0
skipped s c = 0

-- Where other threads step in between: each step that is made where a step of an event stands is that step's,
abbrev pub EventStepTold : Type 0
EventStepTold = (mode : Mode) (ds : List Datum) (s : EventStep) (ss : List EventStep) (at : ℕ) (v w : Machine) → AreSteps mode ds (s ∷ ss) → at + long (s ∷ ss) < 2 ^ 31 → v.rip ≡ at
    → IsFixed v.mem at (code ds (s ∷ ss)) → StepIn mode v w → Can ds s ss at v × (w ≡ after ds s ss at v)

-- there is one where it has its operands,
abbrev pub EventStepGoes : Type 0
EventStepGoes = (mode : Mode) (ds : List Datum) (s : EventStep) (ss : List EventStep) (at : ℕ) (v : Machine) → AreSteps mode ds (s ∷ ss) → at + long (s ∷ ss) < 2 ^ 31 → v.rip ≡ at
    → IsFixed v.mem at (code ds (s ∷ ss)) → Can ds s ss at v → StepIn mode v (after ds s ss at v)

-- and it leads in front of the next step that isn't left out.
abbrev pub EventStepLeads : Type 0
EventStepLeads = (ds : List Datum) (s : EventStep) (ss : List EventStep) (at : ℕ) (v : Machine) → at + long (s ∷ ss) < 2 ^ 31 → over s ss < 128
    → (after ds s ss at v).rip ≡ at + size s + long (take (skipped s v.core) ss)

-- code has as many bytes as is said
abbrev pub CodeIsLong : Type 0
CodeIsLong = (ds : List Datum) (ss : List EventStep) → length (code ds ss) ≡ long ss
